use Rattle.std.proofs.Common.{◌∙◌, sym, ap}
use Rattle.wordset.specs.Words.{with_word}
use Rattle.domain.proofs.BriefLemmas.{keep_there, keep_nowhere}
use Rattle.domain.proofs.brief.keep_one.Goals as goal

pub returns-then-has : goal.returns-then-has
returns-then-has c = keep_there _ _ c.args.word (sym c.contains-has.ensures ∙ c.if-has.true) (c.insert.ensures ∙ ap (with_word c.args.word) c.empty.ensures)

pub returns-else-has : goal.returns-else-has
returns-else-has c = keep_nowhere _ _ c.args.word (sym c.contains-has.ensures ∙ c.if-has.false) c.empty.ensures

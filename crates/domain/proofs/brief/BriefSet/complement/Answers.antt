use Rattle.std.proofs.Common.{sym, ap, ◌∙◌}
use Rattle.wordset.specs.Words.{Words, mirrored}
use Rattle.domain.specs.Brief.{brief_words}
use Rattle.wordset.proofs.Firsts.{only_word}
use Rattle.domain.proofs.SumSetLemmas.{lone_mirrored}
use Rattle.domain.proofs.brief.BriefSet.complement.Goals as goal

pub returns-in-Some : goal.returns-in-Some
returns-in-Some c =
    c.set_one.ensures ∙ lone_mirrored (brief_words c.args.self.now) c.in-Some.word c.complement.result (only_word (brief_words c.args.self.now) c.in-Some.word (sym c.in-Some.ensures)) c.complement.ensures

pub returns-in-None : goal.returns-in-None
returns-in-None c = c.set.ensures ∙ c.complements.ensures ∙ ap (λ (a : Words). mirrored a) c.put.ensures

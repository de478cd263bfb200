use Rattle.std.proofs.Common.{◌<◌, sym, ap, ◌∙◌, arith}
use Rattle.wordset.specs.Words.{Words, shifted}
use Rattle.domain.specs.Brief.{brief_words}
use Rattle.wordset.proofs.Firsts.{only_word}
use Rattle.domain.proofs.SumSetLemmas.{lone_moved}
use Rattle.domain.proofs.brief.BriefSet.shift.Goals as goal

pub returns-in-Some : goal.returns-in-Some
returns-in-Some c =
    let small : c.args.by < 4096 = omega (arith, c.index-index.ensures.same, c.index-index.ensures.small) in
    c.set_one.ensures ∙ lone_moved (brief_words c.args.self.now) c.in-Some.word c.args.by c.add.result (only_word (brief_words c.args.self.now) c.in-Some.word (sym c.in-Some.ensures)) small c.add.ensures

pub returns-in-None : goal.returns-in-None
returns-in-None c = c.set.ensures ∙ c.shift.ensures ∙ ap (λ (a : Words). shifted a c.args.by) c.put.ensures

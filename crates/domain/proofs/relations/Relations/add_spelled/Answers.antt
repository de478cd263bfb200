use Rattle.std.proofs.Common.{◌<◌, List, length, ◌∙◌, ap, arith}
use Rattle.wordset.specs.Words.{Words}
use Rattle.wordset.specs.Lanes.{words}
use Rattle.domain.specs.Facts.{Relation}
use Rattle.domain.specs.Adding.{times, with_relation}
use Rattle.domain.specs.InCode.{sum_of}
use Rattle.domain.specs.RelationsInCode.{relations_of}
use Rattle.domain.proofs.JoinedLemmas.{short_adds_none, longer_adds}
use Rattle.domain.proofs.relations.Relations.add_spelled.Goals as goal

pub returns-then-len-lt2-clause-relations : goal.returns-then-len-lt2-clause-relations
returns-then-len-lt2-clause-relations g c = λ f h.
    let short : length (sum_of c.args.found.now.sum) < 2 = omega (arith, c.len-len.ensures.count, c.if-len-lt2.true) in
    h ∙ short_adds_none f (times c.args.found.now.sign (words c.args.set.now)) (sum_of c.args.found.now.sum) short

pub returns-clause-relations : goal.returns-clause-relations
returns-clause-relations g c = λ f h.
    let more : 1 < length (sum_of c.args.found.now.sum) = omega (arith, c.len-len.ensures.count, c.if-len-lt2.false) in
    c.add.ensures.relations ∙ ap (λ (s : Words). with_relation (sum_of c.args.found.now.sum) s (relations_of c.args.self.now)) c.times.ensures
    ∙ ap (λ (rs : List Relation). with_relation (sum_of c.args.found.now.sum) (times c.args.found.now.sign (words c.args.set.now)) rs) h
    ∙ longer_adds f (times c.args.found.now.sign (words c.args.set.now)) (sum_of c.args.found.now.sum) more

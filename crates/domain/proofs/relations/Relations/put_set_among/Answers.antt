use Rattle.std.proofs.Common.{List, ap, ◌∙◌}
use Rattle.wordset.specs.Words.{Words, meet}
use Rattle.wordset.specs.Lanes.{words}
use Rattle.domain.specs.Facts.{Relation}
use Rattle.domain.specs.Adding.{set_among}
use Rattle.domain.specs.InCode.{sum_of}
use Rattle.domain.specs.RelationsInCode.{relations_of}
use Rattle.domain.proofs.RelationLemmas.{all_among}
use Rattle.domain.proofs.relations.Relations.put_set_among.Goals as goal

pub returns : goal.returns
returns g c =
    c.keep_among.ensures ∙ ap (λ (rs : List Relation). meet (words c.all.result) (set_among (sum_of c.args.sum.now) rs)) c.as_slice.ensures.relations
    ∙ ap (λ (s : Words). meet s (set_among (sum_of c.args.sum.now) (relations_of c.args.self.now))) c.all.ensures ∙ all_among (sum_of c.args.sum.now) (relations_of c.args.self.now)

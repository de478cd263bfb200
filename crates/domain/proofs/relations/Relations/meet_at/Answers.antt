use Rattle.std.proofs.Common.{◌≡◌, ◌<◌, ◌≤◌, length, get_or, sym, ap, ◌∙◌, arith}
use Rattle.std.specs.Prelude.{slice_set}
use Rattle.wordset.specs.Words.{Words, meet}
use Rattle.wordset.specs.Lanes.{words}
use Rattle.domain.specs.Facts.{Relation}
use Rattle.domain.specs.InCode.{sum_of}
use Rattle.domain.specs.RelationsInCode.{relations_of, relation_of, relation_at}
use Rattle.domain.proofs.UseLemmas.{set_in_use, place_in_use, count_in_use}
use Rattle.domain.proofs.relations.Relations.meet_at.Goals as goal

pub returns : goal.returns
returns g c =
    let lt : c.args.at < c.args.self.now.count = count_in_use relation_of c.args.self.now.relations c.args.self.now.count c.args.at c.requires in
    let le : c.args.self.now.count ≤ length c.args.self.now.relations = omega (arith, c.args.self.now.few, c.args.self.now.long) in
    let got : relation_at (relations_of c.args.self.now) c.args.at ≡ relation_of (get_or c.args.self.now.relations c.args.at c.index-self-at.result) =
    place_in_use relation_of c.args.self.now.relations c.args.self.now.count c.args.at c.index-self-at.result _ lt le in
    set_in_use relation_of c.args.self.now.relations c.args.self.now.count c.args.at _ lt
    ∙ ap (λ (r : Relation). slice_set (relations_of c.args.self.now) c.args.at r)
    (ap (λ (s : Words). record { sum = sum_of c.args.sum.now; set = s }) c.meet.ensures
    ∙ ap (λ (r : Relation). record { sum = sum_of c.args.sum.now; set = meet r.set (words c.args.set.now) }) (sym got))

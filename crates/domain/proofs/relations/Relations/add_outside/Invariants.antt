use Rattle.std.proofs.Common.{◌≡◌, ◌+◌, ◌≤◌, drop, length, map}
use Rattle.wordset.specs.Lanes.{words}
use Rattle.domain.specs.Facts.{Fact, OfSums}
use Rattle.domain.specs.Adding.{adding_all}
use Rattle.domain.specs.Moves.{outside}
use Rattle.domain.specs.RelationsInCode.{relation_of, relations_of}
use Rattle.domain.proofs.relations.Relations.add_outside.Given as goal

abbrev pub invariant-loop-relation : goal.invariant-loop-relation
invariant-loop-relation g l =
    ((f : Fact) → relations_of l.fn.self ≡ f.relations →
    (h : Fact) × (relations_of l.self ≡ h.relations)
    × (adding_all OfSums (outside (words l.written) (map relation_of (drop l.relation-index l.others))) h ≡ adding_all OfSums (outside (words l.written) (map relation_of l.others)) f))
    × (length (relations_of l.self) ≤ length (relations_of l.fn.self) + l.relation-index)

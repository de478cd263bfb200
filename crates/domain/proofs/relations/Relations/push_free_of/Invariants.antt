use Rattle.std.proofs.Common.{◌≡◌, ◌+◌, ◌≤◌, ◌++◌, drop, length, map}
use Rattle.domain.specs.Moves.{free_of}
use Rattle.domain.specs.Naming.{names_of}
use Rattle.domain.specs.RelationsInCode.{relation_of, relations_of}
use Rattle.domain.proofs.relations.Relations.push_free_of.Given as goal

abbrev pub invariant-loop-relation : goal.invariant-loop-relation
invariant-loop-relation g l = ((relations_of l.self ++ free_of (names_of l.names) (map relation_of (drop l.relation-index l.others))) ≡ (relations_of l.fn.self ++ free_of (names_of l.names) (map relation_of l.others))) × (length (relations_of l.self) ≤ length (relations_of l.fn.self) + l.relation-index)

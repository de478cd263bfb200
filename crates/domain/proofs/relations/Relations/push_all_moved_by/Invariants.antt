use Rattle.std.proofs.Common.{◌≡◌, ◌+◌, ◌++◌, drop, length, map}
use Rattle.wordset.specs.Words.{one}
use Rattle.domain.specs.Moves.{moved_relations}
use Rattle.domain.specs.RelationsInCode.{relation_of, relations_of}
use Rattle.domain.proofs.relations.Relations.push_all_moved_by.Given as goal

abbrev pub invariant-loop-relation : goal.invariant-loop-relation
invariant-loop-relation g l = ((relations_of l.self ++ moved_relations l.cell (one l.by) (map relation_of (drop l.relation-index l.others))) ≡ (relations_of l.fn.self ++ moved_relations l.cell (one l.by) (map relation_of l.others))) × (length (relations_of l.self) ≡ length (relations_of l.fn.self) + l.relation-index)

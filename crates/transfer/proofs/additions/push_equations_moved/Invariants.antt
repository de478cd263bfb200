use Rattle.std.proofs.Common.{◌≡◌, ◌+◌, ◌≤◌, ◌++◌, drop, length, map}
use Rattle.domain.specs.RelationsInCode.{relation_of, relations_of}
use Rattle.domain.specs.FactInCode.{fact_in_code}
use Rattle.transfer.specs.Additions.{equations_moved}
use Rattle.transfer.proofs.additions.push_equations_moved.Given as goal

abbrev pub invariant-loop-relation : goal.invariant-loop-relation
invariant-loop-relation g l =
    (record (fact_in_code l.after) { relations = (fact_in_code l.after).relations ++ equations_moved l.word (map relation_of (drop l.relation-index l.relations)) } ≡
    record (fact_in_code l.fn.after) { relations = (fact_in_code l.fn.after).relations ++ equations_moved l.word (map relation_of l.relations) }) ×
    (l.after.cells ≡ l.fn.after.cells) ×
    (length (relations_of l.after.relations) ≤ length (relations_of l.fn.after.relations) + l.relation-index)

use Rattle.std.proofs.Common.{◌≡◌, drop, map}
use Rattle.std.specs.List.{list_any}
use Rattle.domain.specs.Adding.{lacks_all}
use Rattle.domain.specs.RelationsInCode.{relation_of}
use Rattle.domain.proofs.relations.Relation.is_some_empty.Given as goal

abbrev pub invariant-loop-relation : goal.invariant-loop-relation
invariant-loop-relation l = list_any (λ r. lacks_all r.set) (map relation_of (drop l.relation-index l.relations)) ≡ list_any (λ r. lacks_all r.set) (map relation_of l.relations)

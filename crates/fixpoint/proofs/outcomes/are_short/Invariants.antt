use Rattle.std.proofs.Common.{drop, map}
use Rattle.domain.specs.RelationsInCode.{relation_of}
use Rattle.transfer.specs.Shaped.{HaveFewTerms}
use Rattle.fixpoint.proofs.outcomes.are_short.Given as goal

abbrev pub invariant-loop-relation : goal.invariant-loop-relation
invariant-loop-relation l =
    HaveFewTerms (map relation_of (drop l.relation-index l.relations)) → HaveFewTerms (map relation_of l.relations)

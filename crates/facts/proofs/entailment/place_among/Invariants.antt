use Rattle.std.proofs.Common.{drop, map}
use Rattle.facts.specs.Entailment.{Among}
use Rattle.domain.specs.RelationsInCode.{relation_of}
use Rattle.facts.proofs.entailment.place_among.Given as goal

abbrev pub invariant-loop-at : goal.invariant-loop-at
invariant-loop-at l = Among (relation_of l.relation) (map relation_of l.relations) → Among (relation_of l.relation) (map relation_of (drop l.at l.relations))

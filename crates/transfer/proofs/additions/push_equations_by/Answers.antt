use Rattle.std.proofs.Common.{◌++◌, List, map, ap, ◌∙◌}
use Rattle.domain.specs.Locations.{Ac, same}
use Rattle.domain.specs.Facts.{Relation}
use Rattle.domain.specs.Moves.{free_of}
use Rattle.domain.specs.RelationsInCode.{relation_of}
use Rattle.domain.specs.FactInCode.{fact_in_code}
use Rattle.transfer.specs.Additions.{equations_moved}
use Rattle.transfer.proofs.additions.push_equations_by.Goals as goal

pub returns-in-None-clause-fact : goal.returns-in-None-clause-fact
returns-in-None-clause-fact g c a e =
    rw c.in-None.is
    (c.push_relations_free_of.ensures.fact
    ∙ ap (λ (rs : List Relation). record (fact_in_code c.args.after.now) { relations = rs ++ free_of (λ n. same n Ac) (map relation_of c.args.relations.now) }) e)

pub returns-in-Some-clause-fact : goal.returns-in-Some-clause-fact
returns-in-Some-clause-fact g c a e =
    rw c.in-Some.is
    (c.push_equations_moved.ensures.fact
    ∙ ap (λ (rs : List Relation). record (fact_in_code c.args.after.now) { relations = rs ++ equations_moved c.in-Some.word (map relation_of c.args.relations.now) }) e)

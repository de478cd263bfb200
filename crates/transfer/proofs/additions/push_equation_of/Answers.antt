use Rattle.std.proofs.Common.{◌++◌, [], ◌∷◌, List, map, ap, ◌∙◌}
use Rattle.wordset.specs.Words.{one}
use Rattle.domain.specs.Locations.{Ac, same}
use Rattle.domain.specs.Terms.{Sum}
use Rattle.domain.specs.Facts.{Relation, Fact}
use Rattle.domain.specs.Moves.{free_of}
use Rattle.domain.specs.InCode.{sum_of}
use Rattle.domain.specs.RelationsInCode.{relation_of}
use Rattle.domain.specs.FactInCode.{fact_in_code}
use Rattle.transfer.specs.Shaped.{told}
use Rattle.transfer.proofs.additions.push_equation_of.Goals as goal

pub returns-clause-fact : goal.returns-clause-fact
returns-clause-fact g c w e =
    let rest : List Relation = free_of (λ n. same n Ac) (map relation_of c.args.relations.now) in
    c.push_relations_free_of.ensures.fact
    ∙ ap (λ (h : Fact). record h { relations = h.relations ++ rest }) c.push_one_relation.ensures.fact
    ∙ ap (λ (rs : List Relation). record (fact_in_code c.args.after.now) { relations = (rs ++ told (sum_of c.accumulator_less.result) (one c.args.more) ∷ []) ++ rest }) e
    ∙ ap (λ (s : Sum). record (fact_in_code c.args.after.now) { relations = told s (one c.args.more) ∷ rest }) (c.accumulator_less.ensures c.args.more)

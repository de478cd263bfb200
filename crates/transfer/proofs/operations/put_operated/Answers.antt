use Rattle.std.proofs.Common.{List, [], ◌++◌, map, ap, ◌∙◌}
use Rattle.domain.specs.RelationsInCode.{relation_of}
use Rattle.domain.specs.Facts.{Relation, Fact}
use Rattle.domain.specs.FactInCode.{fact_in_code, rules_of}
use Rattle.transfer.specs.Operations.{relations_operated, chains_operated}
use Rattle.transfer.proofs.operations.put_operated.Goals as goal

pub returns : goal.returns
returns g c =
    let f : Fact = fact_in_code c.args.fact.now in
    c.put_chains_operated.ensures
    ∙ ap (λ (h : Fact). record h { chains = chains_operated (rules_of c.args.rules.now) c.args.word f })
    (c.push_operated.ensures.fact
    ∙ ap (λ (h : Fact). record h { relations = h.relations ++ relations_operated (rules_of c.args.rules.now) c.args.word (map relation_of c.as_slice.result.now) }) c.take_over.ensures.fact
    ∙ ap (λ (rs : List Relation). record f { relations = relations_operated (rules_of c.args.rules.now) c.args.word rs; chains = [] }) (c.as_slice.ensures.relations ∙ c.relations.ensures))

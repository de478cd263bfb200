use Rattle.std.proofs.Common.{◌≡◌, ◌∙◌, ◌++◌, [], ◌∷◌, take, map, ap}
use Rattle.wordset.specs.Links.{links_of}
use Rattle.domain.specs.Chains.{Chain}
use Rattle.domain.specs.ChainsInCode.{step_of, chain_of}
use Rattle.domain.specs.FactInCode.{fact_in_code}
use Rattle.certificate_lines.proofs.packed.load.chain.Goals as goal

pub returns-clause-fact : goal.returns-clause-fact
returns-clause-fact c =
    let told : chain_of c.push_steps.new.chain ≡ record {
      cell = c.args.packed.now.cell;
      more = c.args.packed.now.more;
      link = links_of c.args.packed.now.link;
      steps = map step_of (take c.from.result c.args.steps.now);
    } = c.push_steps.ensures ∙ ap (λ (x : Chain). record x { steps = x.steps ++ map step_of (take c.from.result c.args.steps.now) }) c.begun-chain.ensures in
    c.add_chain.ensures.fact ∙ ap (λ (x : Chain). record (fact_in_code c.args.fact.now) { chains = (fact_in_code c.args.fact.now).chains ++ x ∷ [] })
    (rw c.from.ensures at told)

use Rattle.std.proofs.Common.{ℕ, ap, sym, ◌∙◌, map}
use Rattle.std.specs.Prelude.{Option, Some}
use Rattle.wordset.specs.Words.{only}
use Rattle.wordset.specs.Links.{links_of}
use Rattle.domain.specs.Brief.{brief_words}
use Rattle.domain.specs.ChainsInCode.{step_of, chain_of}
use Rattle.domain.specs.RelationsInCode.{relation_of}
use Rattle.domain.specs.FactInCode.{fact_in_code}
use Rattle.transfer.specs.Shaped.{begun_at}
use Rattle.transfer.specs.Stores.{begun_by}
use Rattle.transfer.proofs.RowsLemmas.{begun_one}
use Rattle.transfer.proofs.stores.push_begun.Goals as goal

pub returns-clause-fact : goal.returns-clause-fact
returns-clause-fact g c =
    begun_one (step_of c.args.step.now) (map chain_of c.args.chains.now) (fact_in_code c.args.after.now) (fact_in_code c.push_chain.new.self)
    (chain_of c.begun-chain.result) (begun_by (links_of c.args.links) (relation_of c.args.relation.now).sum (relation_of c.args.relation.now).set) (chain_of c.push.new.self)
    c.in-Some.cell c.in-Some-only.more (links_of c.args.links)
    (c.cell_below.ensures (links_of c.args.links) (brief_words c.args.relation.now.set)
    ∙ ap (λ (o : Option ℕ). begun_at o (links_of c.args.links) (only (brief_words c.args.relation.now.set))) c.in-Some.is
    ∙ ap (λ (o : Option ℕ). begun_at (Some c.in-Some.cell) (links_of c.args.links) o) (sym c.only.ensures ∙ c.in-Some-only.is))
    c.begun-chain.ensures (sym c.has_chain_on.ensures ∙ c.if-has_chain_on.false) c.push.ensures c.push_chain.ensures.fact

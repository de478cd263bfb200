use Rattle.std.proofs.Common.{◌≡◌, ◌∙◌, ◌&&◌, true, false, sym, ap}
use Rattle.wordset.specs.Words.{Words, some_below}
use Rattle.wordset.specs.Lanes.{words}
use Rattle.domain.specs.Facts.{Fact}
use Rattle.domain.specs.Chains.{Chain}
use Rattle.domain.specs.Locations.{Ac, Cell}
use Rattle.domain.specs.ChainsInCode.{chain_of}
use Rattle.domain.specs.FactInCode.{fact_in_code}
use Rattle.domain.specs.Given.{gives_link}
use Rattle.domain.proofs.LinkLemmas.{allowed_link}
use Rattle.domain.proofs.sum_fact.SumFact.allows_link.Goals as goal

pub returns-then-contains : goal.returns-then-contains
returns-then-contains g c = λ same.
    let f : Fact = fact_in_code c.args.self.now in
    let d : Chain = chain_of c.args.chain.now in
    let has : f.link c.args.link ≡ true = ap (λ (s : Words). s c.args.link) (sym c.link.ensures) ∙ sym c.contains.ensures ∙ c.if-contains.true in
    c.gives_link.ensures
    ∙ ap (λ (s : Words). some_below 4096 (λ x. s x && gives_link (words c.accumulator.result.now) d x c.args.link)) same
    ∙ ap (λ (s : Words). some_below 4096 (λ x. f.set (Cell d.cell) x && gives_link s d x c.args.link)) c.accumulator.ensures
    ∙ ap (λ b. b && some_below 4096 (λ x. f.set (Cell d.cell) x && gives_link (f.set Ac) d x c.args.link)) (sym has)
    ∙ allowed_link f d c.args.link

pub returns-else-contains : goal.returns-else-contains
returns-else-contains g c = λ same.
    let f : Fact = fact_in_code c.args.self.now in
    let d : Chain = chain_of c.args.chain.now in
    let lacks : f.link c.args.link ≡ false = ap (λ (s : Words). s c.args.link) (sym c.link.ensures) ∙ sym c.contains.ensures ∙ c.if-contains.false in
    c.if-contains.false
    ∙ ap (λ b. b && some_below 4096 (λ x. f.set (Cell d.cell) x && gives_link (f.set Ac) d x c.args.link)) (sym lacks)
    ∙ allowed_link f d c.args.link

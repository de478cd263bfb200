use Rattle.std.proofs.Common.{ap, ◌∙◌}
use Rattle.wordset.specs.Words.{Words, one, only, meet}
use Rattle.wordset.specs.Lanes.{words}
use Rattle.domain.specs.Locations.{Ac}
use Rattle.domain.specs.Facts.{Fact}
use Rattle.domain.specs.Adding.{with_name}
use Rattle.domain.specs.FactInCode.{fact_in_code}
use Rattle.transfer.specs.Additions.{summed, sums_under, chains_after_tad}
use Rattle.transfer.specs.Shaped.{term_if}
use Rattle.transfer.proofs.additions.put_added_under.Goals as goal

pub returns : goal.returns
returns g c =
    let f : Fact = fact_in_code c.args.fact.now in
    let sum : Fact = summed (words c.args.operand.now) (term_if c.args.term.now) f in
    c.set_link.ensures.fact ∙ ap (λ (k : Words). record (fact_in_code c.put_chains_after_tad.new.after) { link = k }) c.one.ensures
    ∙ ap (λ (h : Fact). record h { link = one c.args.link })
    (c.put_chains_after_tad.ensures ∙ ap (λ (h : Fact). record h { chains = chains_after_tad (only (words c.args.operand.now)) f.chains })
    (c.meet_name.ensures.fact ∙ ap (λ (h : Fact). with_name Ac (meet (h.set Ac) (words c.sums_under.result)) h) c.put_summed.ensures.fact
    ∙ ap (λ (s : Words). with_name Ac (meet (sum.set Ac) s) sum)
    (c.sums_under.ensures ∙ ap (λ (k : Words). sums_under k (words c.accumulator.result.now) (words c.args.operand.now) c.args.link) c.link.ensures
    ∙ ap (λ (a : Words). sums_under f.link a (words c.args.operand.now) c.args.link) c.accumulator.ensures)))

use Rattle.std.proofs.Common.{◌∙◌, sym, arith, rules}
use Rattle.instruct.proofs.KindLemmas.{reference_meaning, group1_meaning, group2_meaning, undefined_meaning}
use Rattle.domain.specs.FactInCode.{fact_in_code}
use Rattle.facts.specs.PlaceInCode.{place_in_code}
use Rattle.transfer.specs.OutcomesInCode.{outcome_in}
use Rattle.facts.proofs.DispatchLemmas.{first_group_8e, kind_here}
use Rattle.transfer.proofs.ComesLemmas.{none_behind, none_alone}
use Rattle.facts.proofs.DeviceLemmas.{of_meaning, of_group3}
use Rattle.facts.proofs.place.Place.put_outcomes.Goals as goal

pub operate-requires : goal.operate-requires
operate-requires g c = (
  search rules,
  (
    first_group_8e _ _ (sym c.decode.ensures.kind ∙ c.in-Operate1.is),
    (omega (arith, c.requires.cells), (c.requires.relations, (c.requires.chains, (c.requires.terms, c.requires.short)))),
  ),
)

pub transfer_by-requires : goal.transfer_by-requires
transfer_by-requires g c = (
  search rules,
  (kind_here c.args.at c.args.word c.profile.ensures (c.decode.ensures.meaning c.args.at) c.in-Iot.is, (c.requires.cells, c.requires.relations)),
)

pub returns-in-Memory : goal.returns-in-Memory
returns-in-Memory g c = of_meaning (place_in_code c.args.self.now) (fact_in_code c.args.fact.now) c.args.at c.args.word (reference_meaning _ c.args.at c.args.word (kind_here c.args.at c.args.word c.profile.ensures (c.decode.ensures.meaning c.args.at) c.in-Memory.is)) c.refer.ensures

pub returns-in-Operate1 : goal.returns-in-Operate1
returns-in-Operate1 g c = of_meaning (place_in_code c.args.self.now) (fact_in_code c.args.fact.now) c.args.at c.args.word (group1_meaning _ c.args.at c.args.word (kind_here c.args.at c.args.word c.profile.ensures (c.decode.ensures.meaning c.args.at) c.in-Operate1.is))
    (none_behind (outcome_in c.operate.new.first) (outcome_in c.operate.new.second) c.operate.ensures c.clear.ensures c.clear-in-Operate1.ensures)

pub returns-in-Operate2 : goal.returns-in-Operate2
returns-in-Operate2 g c = of_meaning (place_in_code c.args.self.now) (fact_in_code c.args.fact.now) c.args.at c.args.word (group2_meaning _ c.args.at c.args.word (kind_here c.args.at c.args.word c.profile.ensures (c.decode.ensures.meaning c.args.at) c.in-Operate2.is)) c.skip.ensures

pub returns-in-Operate3 : goal.returns-in-Operate3
returns-in-Operate3 g c = of_group3 (place_in_code c.args.self.now) (fact_in_code c.args.fact.now) c.args.at c.args.word (kind_here c.args.at c.args.word c.profile.ensures (c.decode.ensures.meaning c.args.at) c.in-Operate3.is)
    (λ o e. none_alone (c.exchange.ensures o e) c.clear-in-Operate3.ensures c.clear-in-Operate3-2.ensures c.clear-in-Operate3-3.ensures)

pub returns-in-Unsupported : goal.returns-in-Unsupported
returns-in-Unsupported g c = of_meaning (place_in_code c.args.self.now) (fact_in_code c.args.fact.now) c.args.at c.args.word (undefined_meaning _ c.args.at c.args.word (kind_here c.args.at c.args.word c.profile.ensures (c.decode.ensures.meaning c.args.at) c.in-Unsupported.is)) c.clear-in-Unsupported.ensures

use Rattle.std.proofs.Common.{◌∙◌, ap}
use Rattle.instruct.specs.Devices.{device_operation}
use Rattle.domain.specs.FactInCode.{fact_in_code}
use Rattle.facts.specs.PlaceInCode.{place_in_code}
use Rattle.transfer.specs.OutcomesInCode.{outcome_in}
use Rattle.transfer.proofs.ComesLemmas.{none_behind}
use Rattle.facts.proofs.DeviceLemmas.{of_device, of_no_device}
use Rattle.facts.proofs.place.Place.transfer_by.Goals as goal

pub returns-in-Some : goal.returns-in-Some
returns-in-Some g c =
    of_device (place_in_code c.args.self.now) (fact_in_code c.args.fact.now) c.args.at c.args.word c.in-Some.operation c.requires.kind (c.in-Some.ensures.exact ∙ ap (λ p. device_operation p c.args.word) c.profile.ensures)
    (none_behind (outcome_in c.transfer.new.first) (outcome_in c.transfer.new.second) c.transfer.ensures c.clear.ensures c.clear-2.ensures)

pub returns-in-None : goal.returns-in-None
returns-in-None g c =
    of_no_device (place_in_code c.args.self.now) (fact_in_code c.args.fact.now) c.args.at c.args.word c.requires.kind (c.in-None.ensures.exact ∙ ap (λ p. device_operation p c.args.word) c.profile.ensures)

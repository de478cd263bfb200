use Rattle.std.proofs.Common.{sym, ap, ◌∙◌}
use Rattle.domain.specs.Locations.{Location, same}
use Rattle.domain.specs.LocationsInCode.{location_of}
use Rattle.domain.specs.InCode.{summand_of}
use Rattle.transfer.proofs.RowsLemmas.{naming_found, naming_step}
use Rattle.transfer.proofs.additions.are_naming.Goals as goal

pub returns-then-is_same_location : goal.returns-then-is_same_location
returns-then-is_same_location c =
    naming_found summand_of (location_of c.args.name.now) c.args.summands.now c.loop-summand.summand-index c.summand-item.result c.loop-summand-test.true c.summand-item.is
    (ap (λ (m : Location). same m (location_of c.args.name.now)) (sym c.name.ensures) ∙ sym c.is_same_location.ensures ∙ c.if-is_same_location.true) c.loop-summand.invariant

pub loop-summand-preserved : goal.loop-summand-preserved
loop-summand-preserved c =
    naming_step summand_of (location_of c.args.name.now) c.args.summands.now c.loop-summand.summand-index c.summand-item.result c.loop-summand-test.true c.summand-item.is
    (ap (λ (m : Location). same m (location_of c.args.name.now)) (sym c.name.ensures) ∙ sym c.is_same_location.ensures ∙ c.if-is_same_location.false) c.loop-summand.invariant

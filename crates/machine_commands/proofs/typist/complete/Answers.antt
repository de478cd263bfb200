use Rattle.std.proofs.Common.{refl}
use Rattle.peripherals.specs.World.{view, profile_of}
use Rattle.peripherals.specs.declared.Event.TheVariants.{PrinterDone, PunchDone}
use Rattle.machine_commands.proofs.TypistLemmas.{both_done, happens_anyway}
use Rattle.machine_commands.proofs.typist.complete.Goals as goal

pub returns-clause-done : goal.returns-clause-done
returns-clause-done g c =
    both_done (profile_of c.args.world.now) (profile_of c.apply-printed.new.self) (view c.args.world.now) (view c.apply-printed.new.self) (view c.apply-punched.new.self)
    (happens_anyway (profile_of c.args.world.now) (view c.args.world.now) (view c.apply-printed.new.self) PrinterDone c.apply-printed.result c.apply-printed.ensures.happens c.apply-printed.ensures.only_output refl)
    (happens_anyway (profile_of c.apply-printed.new.self) (view c.apply-printed.new.self) (view c.apply-punched.new.self) PunchDone c.apply-punched.result c.apply-punched.ensures.happens c.apply-punched.ensures.only_output refl)

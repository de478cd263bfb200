use Rattle.std.proofs.Common.{ap}
use Rattle.peripherals.specs.Operator.{Plan}
use Rattle.peripherals.specs.World.{view}
use Rattle.machine_commands.proofs.SessionLemmas.{completed_fewer, operator_completes, step_was}
use Rattle.machine_commands.proofs.schedule.OperatorScheduler.complete_devices.Goals as goal

pub complete-requires : goal.complete-requires
complete-requires g c = record { stepped = step_was c.args.self.now.last c.requires.stepped }

pub returns-clause-brings : goal.returns-clause-brings
returns-clause-brings g c = λ p extent es comes. operator_completes c.args.self.now c.complete.new.self (view c.args.world.now) p extent es c.requires.stepped c.complete.ensures.left c.complete.ensures.last comes

pub returns-clause-left : goal.returns-clause-left
returns-clause-left g c = completed_fewer c.args.self.now c.complete.new.self c.requires.stepped c.complete.ensures.left c.complete.ensures.last

pub returns-clause-steps : goal.returns-clause-steps
returns-clause-steps g c = ap (λ (q : Plan). q.rounds) c.complete.ensures.left

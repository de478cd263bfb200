use Rattle.std.proofs.Common.{Some, refl, true, false}
use Rattle.processor.specs.Steps.{state_of}
use Rattle.peripherals.proofs.StepLemmas.{carried, refused}
use Rattle.peripherals.proofs.world.World.step.Goals as goal

pub returns-in-Ran-clause-happens : goal.returns-in-Ran-clause-happens
returns-in-Ran-clause-happens g c =
    carried c.args.self.now.cpu.profile (state_of c.args.self.now.cpu) (state_of c.execute.new.self) c.args.self.now.panel c.execute.new.bus c.args.self.now.printed.items c.args.self.now.punched.items _ _ c.args.instruction.now c.args.self.now.halted_at c.args.self.now.halted_at false
    c.requires.fetched c.requires.runs c.requires.runs c.in-Ran.ensures.happened.0 c.in-Ran.ensures.happened.1 c.in-Ran.ensures.bus c.in_ok-put_out.ensures.printed c.in_ok-put_out.ensures.punched

pub returns-in-Halted-clause-happens : goal.returns-in-Halted-clause-happens
returns-in-Halted-clause-happens g c =
    carried c.args.self.now.cpu.profile (state_of c.args.self.now.cpu) (state_of c.execute.new.self) c.args.self.now.panel c.execute.new.bus c.args.self.now.printed.items c.args.self.now.punched.items _ _ c.args.instruction.now c.args.self.now.halted_at (Some c.args.self.now.cpu.pc) true
    c.requires.fetched c.requires.runs refl c.in-Halted.ensures.happened.0 c.in-Halted.ensures.happened.1 c.in-Halted.ensures.bus c.in_ok-put_out.ensures.printed c.in_ok-put_out.ensures.punched

pub returns-in-Unsupported-clause-happens : goal.returns-in-Unsupported-clause-happens
returns-in-Unsupported-clause-happens g c =
    refused c.args.self.now.cpu.profile (state_of c.args.self.now.cpu) (state_of c.execute.new.self) c.args.self.now.panel c.execute.new.bus c.args.self.now.printed.items c.args.self.now.punched.items _ _ c.args.instruction.now c.args.self.now.halted_at
    c.requires.fetched c.in-Unsupported.ensures.happened.1 c.in-Unsupported.ensures.happened.2 c.in-Unsupported.ensures.bus c.in_ok-put_out.ensures.printed c.in_ok-put_out.ensures.punched

use Rattle.std.proofs.Common.{◌∙◌, true, sym}
use Rattle.peripherals.specs.World.{view}
use Rattle.declaration.specs.DeclarationInCode.{meaning}
use Rattle.machine_commands.specs.DeclaredRun.{is_continue}
use Rattle.machine_commands.proofs.DeclaredLemmas.{waits_declared, waits_line, waits_steps}
use Rattle.machine_commands.proofs.declared_run.go.Goals as goal

pub returns-then-waits-clause-happens : goal.returns-then-waits-clause-happens
returns-then-waits-clause-happens g c =
    waits_declared (meaning c.args.declaration.now) (view c.args.world.now) c.args.event (sym c.is_continue.ensures ∙ c.if-is_continue.true) (sym c.waits.ensures ∙ c.if-waits.true)

pub returns-then-waits-clause-counts : goal.returns-then-waits-clause-counts
returns-then-waits-clause-counts g c = waits_steps (meaning c.args.declaration.now).profile (view c.args.world.now) c.args.event (sym c.is_continue.ensures ∙ c.if-is_continue.true)

pub returns-then-waits-clause-line : goal.returns-then-waits-clause-line
returns-then-waits-clause-line g c = waits_line (meaning c.args.declaration.now).profile (view c.args.world.now) c.args.event c.args.trace.now.text.items (sym c.is_continue.ensures ∙ c.if-is_continue.true)

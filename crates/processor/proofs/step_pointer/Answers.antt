use Rattle.std.proofs.Common.{sym, ◌∙◌}
use Rattle.processor.specs.Cells.{cell_of}
use Rattle.processor.proofs.StepLemmas.{pointer_stepped}
use Rattle.processor.proofs.step_pointer.Goals as goal

pub returns-then-steps_pointer : goal.returns-then-steps_pointer
returns-then-steps_pointer c =
    pointer_stepped c.args.reference.now.indirect c.args.reference.now.named c.args.reference.now.place (cell_of c.args.memory.now) _ (sym c.steps_pointer.ensures ∙ c.if-steps_pointer.true) c.requires c.set.ensures

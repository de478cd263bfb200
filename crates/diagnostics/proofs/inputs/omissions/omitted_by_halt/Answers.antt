use Rattle.std.proofs.Common.{◌∙◌, sym}
use Rattle.diagnostics.proofs.inputs.omissions.omitted_by_halt.Goals as goal

pub returns-then-is_pause : goal.returns-then-is_pause
returns-then-is_pause g c = λ image halt same. c.omitted_by_pause.ensures image halt same (sym c.is_pause.ensures ∙ c.if-is_pause.true)

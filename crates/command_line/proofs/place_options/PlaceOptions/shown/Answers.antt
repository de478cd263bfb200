use Rattle.std.proofs.lemmas.Result.{MatchResult-weaker}
use Rattle.command_line.specs.declared.fault.PlaceOption.TheVariants.{Show}
use Rattle.command_line.proofs.place_options.PlaceOptions.shown.Goals as goal

pub returns : goal.returns
returns g c = MatchResult-weaker c.named_cells.result (rw c.deref.ensures.value at c.named_cells.ensures) (λ _ cells. cells) (λ _ wrong. (Show, wrong.0, wrong.1))

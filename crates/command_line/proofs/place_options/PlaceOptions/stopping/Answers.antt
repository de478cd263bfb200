use Rattle.std.proofs.Common.{refl, sym, ◌∙◌}
use Rattle.command_line.proofs.place_options.PlaceOptions.stopping.Goals as goal

pub returns : goal.returns
returns g c = record {
  asked = sym c.is_followed.ensures ∙ c.if-not-is_followed.false;
  stops = c.in_ok-stops.ensures;
  last = refl;
}

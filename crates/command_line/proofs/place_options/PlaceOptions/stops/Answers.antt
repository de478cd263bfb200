use Rattle.command_line.proofs.place_options.PlaceOptions.stops.Goals as goal

pub returns : goal.returns
returns g c = record {
  until = c.in_ok-stop.ensures;
  written = rw c.deref.ensures.value at c.in_ok-written.ensures;
  read = rw c.deref-2.ensures.value at c.in_ok-read.ensures;
}

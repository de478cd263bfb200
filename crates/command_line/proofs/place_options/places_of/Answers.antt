use Rattle.command_line.proofs.place_options.places_of.Goals as goal

pub returns : goal.returns
returns c = record {
  show = c.in_ok-show.ensures;
  until = c.get_str-until.ensures;
  written = c.in_ok-written.ensures;
  read = c.in_ok-read.ensures;
  last = c.in_ok-last.ensures.last;
  alone = c.in_ok-last.ensures.alone;
}

use Rattle.command_line.proofs.sources.list_request.Goals as goal

pub returns : goal.returns
returns c = record {
  sources = c.in_ok-sources.ensures.given;
  once = c.in_ok-sources.ensures.once;
  machine = c.in_ok-profile.ensures;
  explained = c.is_given-explained.ensures;
  crossed = c.is_given-crossed.ensures;
}

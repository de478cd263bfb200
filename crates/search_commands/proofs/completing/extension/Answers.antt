use Rattle.search_commands.proofs.completing.extension.Goals as goal

pub returns-else-not-adds_only-clause-extends : goal.returns-else-not-adds_only-clause-extends
returns-else-not-adds_only-clause-extends g c = record {
  declares = c.in-Ok.ensures.found;
  extends = c.is_no_wider.ensures.0 c.if-not-is_no_wider.false;
  adds = c.adds_only.ensures.0 c.if-not-adds_only.false;
  keeps = c.keeps_lines.ensures c.if-not-keeps_lines.false;
}

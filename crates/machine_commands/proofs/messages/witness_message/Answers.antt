use Rattle.std.proofs.Common.{rules}
use Rattle.machine_commands.proofs.messages.witness_message.Goals as goal

pub returns-clause-told : goal.returns-clause-told
returns-clause-told g c = record {
  events = c.args.found.events.items;
  spells = c.requires.spelled;
  event = c.args.found.event;
  rule = c.args.found.rule;
  breaks = c.requires.broken;
  last = c.requires.last;
  line_is = search rules;
  unexplained = c.in_ok-why.ensures;
}

use Rattle.peripherals.proofs.EventLemmas.{only_from, exact_from}
use Rattle.peripherals.proofs.event_text.events.Goals as goal

pub returns-clause-only : goal.returns-clause-only
returns-clause-only g c = only_from c.read_lines.result c.args.text.now c.read_lines.ensures.refused

pub returns-clause-exact : goal.returns-clause-exact
returns-clause-exact g c = exact_from (λ events. events.items) c.read_lines.result c.args.text.now c.read_lines.ensures.found c.read_lines.ensures.refused

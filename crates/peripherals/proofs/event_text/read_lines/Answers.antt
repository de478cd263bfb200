use Rattle.peripherals.proofs.EventLemmas.{spells_text, fails_text}
use Rattle.peripherals.proofs.event_text.read_lines.Goals as goal

pub returns-in-Ok-clause-found : goal.returns-in-Ok-clause-found
returns-in-Ok-clause-found g c = spells_text (λ list. list.events.items) _ c.take_lines.new.taker c.args.text.now c.requires c.new.ensures.items c.in-Ok.ensures.taken

pub returns-in-Err-clause-refused : goal.returns-in-Err-clause-refused
returns-in-Err-clause-refused g c = fails_text (λ list. list.events.items) _ c.take_lines.new.taker c.args.text.now c.in-Err.fault c.requires c.new.ensures.items c.in-Err.ensures.refused

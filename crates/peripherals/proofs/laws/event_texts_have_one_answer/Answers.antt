use Rattle.peripherals.proofs.EventLemmas.{events_are_one, fault_is_one, events_are_no_fault, each_is_answered}
use Rattle.peripherals.proofs.laws.event_texts_have_one_answer.Goals as goal

pub returns : goal.returns
returns c = record { events = events_are_one; fault = fault_is_one; either = events_are_no_fault; some = each_is_answered }

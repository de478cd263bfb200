use Rattle.std.proofs.Common.{rules, inl}
use Rattle.machine_commands.proofs.RunLemmas.{refused_events, tape_wants_none, text_came}
use Rattle.machine_commands.proofs.running.run_events.Goals as goal

pub returns-in_err-image-clause-traced_whole : goal.returns-in_err-image-clause-traced_whole
returns-in_err-image-clause-traced_whole g c = λ same asked. absurd (tape_wants_none _ c.tape_from.result c.tape_from.ensures.faults (search rules))

pub returns-in_err-list-clause-traced_whole : goal.returns-in_err-list-clause-traced_whole
returns-in_err-list-clause-traced_whole g c = λ same asked. inl (text_came _ c.events_from.result c.events_from.ensures.faults (search rules))

pub returns-clause-traced_whole : goal.returns-clause-traced_whole
returns-clause-traced_whole g c = λ same asked.
    refused_events c.args.options _ _ c.in_ok-image.image c.in_ok-list.list.items c.run_course.result _ _ _ _ c.in_ok-image.ensures.tape c.in_ok-list.ensures.spells c.run_course.ensures.marks (rw c.deref.ensures.value at c.run_course.ensures.traced) same asked

use Rattle.std.proofs.Common.{rules}
use Rattle.machine_commands.proofs.RunLemmas.{refused_rounds, tape_wants_none}
use Rattle.machine_commands.proofs.running.run.Goals as goal

pub returns-in_err-image-clause-traced_whole : goal.returns-in_err-image-clause-traced_whole
returns-in_err-image-clause-traced_whole g c = λ same asked. absurd (tape_wants_none _ c.tape_from.result c.tape_from.ensures.faults (search rules))

pub returns-clause-traced_whole : goal.returns-clause-traced_whole
returns-clause-traced_whole g c = λ same asked.
    refused_rounds c.args.options _ c.in_ok-image.image c.run_course.result _ _ _ c.in_ok-image.ensures.tape c.run_course.ensures.marks c.run_course.ensures.traced same asked

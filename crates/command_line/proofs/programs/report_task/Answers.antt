use Rattle.command_line.proofs.programs.report_task.Goals as goal

pub returns : goal.returns
returns c = (
  c.name_or_input-certificate.ensures,
  record { given = c.in_ok-out.ensures.given; apart = rw (← c.requires.given) c.in_ok-out.ensures.free },
  c.is_given.ensures,
)

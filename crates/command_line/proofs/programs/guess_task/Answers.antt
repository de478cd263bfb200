use Rattle.std.proofs.Common.{◌∙◌, ap, inl, refl, sym}
use Rattle.std.specs.Prelude.{is_some}
use Rattle.command_line.proofs.TaskLemmas.{some_now}
use Rattle.command_line.proofs.programs.guess_task.Goals as goal

pub returns : goal.returns
returns c = (
  record { given = c.in_ok-out.ensures.given; apart = rw (← c.requires.given) c.in_ok-out.ensures.free },
  record {
    given = c.in_ok-report.ensures.named;
    apart = rw (← c.requires.given) (c.if-is_any_taken.ensures.none refl);
    another = c.in_ok-report.ensures.another;
    unlike = c.in_ok-report.ensures.unlike;
  },
  c.in_ok-version.ensures,
)

pub returns-then-is_any_taken : goal.returns-then-is_any_taken
returns-then-is_any_taken c = inl (ap is_some (sym c.in_ok-report.ensures.named) ∙ (sym (some_now c.in_ok-report.report) ∙ c.if-is_any_taken.ensures.some refl))

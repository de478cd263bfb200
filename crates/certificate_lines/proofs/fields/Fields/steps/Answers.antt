use Rattle.std.proofs.Common.{map, refl}
use Rattle.std.proofs.lemmas.List.{map_push}
use Rattle.domain.specs.ChainsInCode.{step_of}
use Rattle.certificate_lines.specs.FieldsLeft.{left}
use Rattle.certificate_lines.proofs.SumFieldLemmas.{no_steps, step_more, steps_shorter, steps_end, none_kept}
use Rattle.certificate_lines.proofs.fields.Fields.steps.Goals as goal

pub loop-self-init : goal.loop-self-init
loop-self-init c = rw c.requires (no_steps (left c.args.self.now))

pub loop-self-preserved : goal.loop-self-preserved
loop-self-preserved c =
    rw (c.in-Ok.ensures.ok, map_push step_of c.loop-self.steps.items c.step-step.result)
    (step_more (left c.args.self.now) (left c.loop-self.self) (left c.takes.new.self) (left c.step-step.new.self) (map step_of c.loop-self.steps.items) (step_of c.step-step.result)
    c.loop-self.invariant (c.loop-self-test.ensures.taken refl) c.loop-self-test.ensures.only c.step-step.ensures.form c.step-step.ensures.read c.step-step.ensures.only)

pub loop-self-smaller : goal.loop-self-smaller
loop-self-smaller c =
    steps_shorter (left c.loop-self.self) (left c.takes.new.self) (left c.step-step.new.self) (step_of c.step-step.result) (c.loop-self-test.ensures.taken refl) c.step-step.ensures.read

pub returns-clause-only : goal.returns-clause-only
returns-clause-only c = λ ps f e.
    (steps_end (left c.args.self.now) (left c.loop-self.self) (left c.takes.new.self) (map step_of c.loop-self.steps.items) c.loop-self.invariant (c.loop-self-test.ensures.kept refl)
    c.loop-self-test.ensures.only ps f.form e).1

pub returns-then-is_empty-clause-only : goal.returns-then-is_empty-clause-only
returns-then-is_empty-clause-only c = λ ps f e.
    let p = steps_end (left c.args.self.now) (left c.loop-self.self) (left c.takes.new.self) (map step_of c.loop-self.steps.items) c.loop-self.invariant (c.loop-self-test.ensures.kept refl)
    c.loop-self-test.ensures.only ps f.form e in
    none_kept ps c.loop-self.steps.items f.some p.0 c.if-is_empty.ensures

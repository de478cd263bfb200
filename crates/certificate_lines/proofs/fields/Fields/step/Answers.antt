use Rattle.std.proofs.Common.{◌∙◌, refl, ap, sym}
use Rattle.std.proofs.lemmas.Bool.{true≢false}
use Rattle.certificate_lines.specs.FieldsLeft.{left}
use Rattle.certificate_lines.specs.LineOf.{is_step}
use Rattle.certificate_lines.proofs.SumFieldLemmas.{and_only, add_only, operate_only}
use Rattle.certificate_lines.proofs.fields.Fields.step.Goals as goal

pub returns-then-takes_text-clause-only : goal.returns-then-takes_text-clause-only
returns-then-takes_text-clause-only c =
    and_only c.word.result (left c.args.self.now) (left c.takes_text.new.self) (left c.word.new.self) (c.if-takes_text.ensures.taken refl) c.if-takes_text.ensures.only c.word.ensures.only

pub returns-then-takes_text-2-clause-only : goal.returns-then-takes_text-2-clause-only
returns-then-takes_text-2-clause-only c =
    add_only c.word-then-takes_text-2.result (left c.args.self.now) (left c.takes_text.new.self) (left c.takes_text-2.new.self) (left c.word-then-takes_text-2.new.self) (c.if-takes_text.ensures.kept refl) c.if-takes_text.ensures.only
    (c.if-takes_text-2.ensures.taken refl) c.if-takes_text-2.ensures.only c.word-then-takes_text-2.ensures.only

pub returns-clause-only : goal.returns-clause-only
returns-clause-only c =
    operate_only c.word-word.result (left c.args.self.now) (left c.takes_text.new.self) (left c.takes_text-2.new.self) (left c.word-word.new.self) (c.if-takes_text.ensures.kept refl) c.if-takes_text.ensures.only
    (c.if-takes_text-2.ensures.kept refl) c.if-takes_text-2.ensures.only c.word-word.ensures.only

pub returns-then-not-is_step-clause-only : goal.returns-then-not-is_step-clause-only
returns-then-not-is_step-clause-only c = λ p rest form e.
    let q = operate_only c.word-word.result (left c.args.self.now) (left c.takes_text.new.self) (left c.takes_text-2.new.self) (left c.word-word.new.self) (c.if-takes_text.ensures.kept refl) c.if-takes_text.ensures.only
    (c.if-takes_text-2.ensures.kept refl) c.if-takes_text-2.ensures.only c.word-word.ensures.only p rest form e in
    absurd (true≢false (sym form ∙ (ap is_step (sym q.0) ∙ sym c.if-not-is_step.ensures)))

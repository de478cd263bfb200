use Rattle.std.proofs.Common.{◌≡◌, ◌∙◌, refl, ap, sym}
use Rattle.std.proofs.lemmas.Bool.{true≢false}
use Rattle.domain.specs.Terms.{is_sign}
use Rattle.certificate_lines.specs.FieldsLeft.{left}
use Rattle.certificate_lines.proofs.SumFieldLemmas.{plus_read, minus_read, digits_next, no_sign, digits_are}
use Rattle.certificate_lines.proofs.fields.Fields.coefficient.Goals as goal

pub returns-then-takes-clause-only : goal.returns-then-takes-clause-only
returns-then-takes-clause-only c = λ k rest small e.
    rw c.from_index.ensures (plus_read (left c.args.self.now) (left c.takes.new.self) k rest small (c.if-takes.ensures.taken refl) c.if-takes.ensures.only e)

pub returns-then-takes-2-clause-only : goal.returns-then-takes-2-clause-only
returns-then-takes-2-clause-only c = λ k rest small e.
    rw c.from_index-then-takes-2.ensures (minus_read (left c.args.self.now) (left c.takes.new.self) (left c.takes-2.new.self) k rest small (c.if-takes.ensures.kept refl) c.if-takes.ensures.only
    (c.if-takes-2.ensures.taken refl) c.if-takes-2.ensures.only e)

pub returns-clause-read : goal.returns-clause-read
returns-clause-read c =
    let k : left c.takes-2.new.self ≡ left c.args.self.now = c.if-takes-2.ensures.kept refl ∙ c.if-takes.ensures.kept refl in
    rw (digits_are c.word-coefficient.result (sym c.if-is_sign.ensures)) (rw k at c.word-coefficient.ensures.read)

pub returns-clause-only : goal.returns-clause-only
returns-clause-only c = λ k rest small e.
    c.word-coefficient.ensures.only k rest small (digits_next (left c.args.self.now) (left c.takes.new.self) (left c.takes-2.new.self) k rest (c.if-takes.ensures.kept refl) c.if-takes.ensures.only
    (c.if-takes-2.ensures.kept refl) c.if-takes-2.ensures.only e)

pub returns-then-is_sign-clause-only : goal.returns-then-is_sign-clause-only
returns-then-is_sign-clause-only c = λ k rest small e.
    let p = c.word-coefficient.ensures.only k rest small (digits_next (left c.args.self.now) (left c.takes.new.self) (left c.takes-2.new.self) k rest (c.if-takes.ensures.kept refl) c.if-takes.ensures.only
    (c.if-takes-2.ensures.kept refl) c.if-takes-2.ensures.only e) in
    absurd (true≢false (c.if-is_sign.ensures ∙ (ap is_sign p.0 ∙ no_sign (left c.args.self.now) (left c.takes.new.self) (left c.takes-2.new.self) k rest (c.if-takes.ensures.kept refl)
    c.if-takes.ensures.only (c.if-takes-2.ensures.kept refl) c.if-takes-2.ensures.only e)))

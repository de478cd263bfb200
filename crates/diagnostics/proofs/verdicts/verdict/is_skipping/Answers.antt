use Rattle.std.proofs.Common.{◌≡◌, ◌∙◌, ap, sym, arith, inl, inr}
use Rattle.std.proofs.lemmas.Bool.{cases_lt}
use Rattle.declaration.specs.DeclarationInCode.{meaning}
use Rattle.diagnostics.proofs.CheckLemmas.{none_above, one_above}
use Rattle.diagnostics.proofs.verdicts.verdict.is_skipping.Goals as goal

pub loop-offset-init : goal.loop-offset-init
loop-offset-init g c = λ o high below. absurd (omega (arith, high, below))

pub loop-offset-preserved : goal.loop-offset-preserved
loop-offset-preserved g c = λ o high below. elim (cases_lt o c.loop-offset.offset) [
  | inl l ↦ c.loop-offset.invariant o high l
  | inr m ↦ (let here : o ≡ c.loop-offset.offset = omega (arith, m, below) in
      ap ((meaning c.args.declaration.now).offset c.args.entry) (here ∙ sym c.from_index.ensures) ∙ sym c.has_offset.ensures ∙ c.if-has_offset.false)
]

pub returns-then-has_offset : goal.returns-then-has_offset
returns-then-has_offset g c =
    sym (one_above ((meaning c.args.declaration.now).offset c.args.entry) c.loop-offset.offset (omega arith) (omega arith)
    (ap ((meaning c.args.declaration.now).offset c.args.entry) (sym c.from_index.ensures) ∙ sym c.has_offset.ensures ∙ c.if-has_offset.true))

pub returns : goal.returns
returns g c =
    sym (none_above ((meaning c.args.declaration.now).offset c.args.entry) (λ o high below. c.loop-offset.invariant o high (omega (arith, below))))

-- What a declaration leaves out.
use Rattle.std.proofs.Common.{ℕ, ◌≡◌, ◌∙◌, ◌+◌, ◌%◌, List, sym, subst, ap}
use Rattle.std.specs.Prelude.{Bool, Option, false, true}
use Rattle.instruct.specs.Instructions.{reference}
use Rattle.instruct.specs.Skips.{may_skip, skip_condition_of}
use Rattle.instruct.specs.declared.microinstructions.SkipCondition.{SkipCondition}
use Rattle.instruct.specs.declared.Operation.{Operation}
use Rattle.declaration.specs.Declaration.{Declaration, Routine}
use Rattle.diagnostics.specs.Omissions.{GoesOut, IsHalt, Means}

-- A reference by the one operation is one by the other, if they are the same.
pub meant_as : (image : List (Option ℕ)) (d : Declaration) (at named : ℕ) (o p : Operation) → o ≡ p → Means image d at (reference o false named) → Means image d at (reference p false named)
meant_as image d at named o p is means = let P : Operation → Type 0 = λ q. Means image d at (reference q false named) in subst P is means

-- The operator goes on at the next address behind a HLT that never skips.
pub goes_out : (image : List (Option ℕ)) (d : Declaration) (r : Routine) (at next word : ℕ) (condition : SkipCondition) (skips inside : Bool) (halt : IsHalt image d at)
    → halt.word ≡ word → d.pause at ≡ true → condition ≡ skip_condition_of word → skips ≡ may_skip condition → skips ≡ false → next ≡ (at + 1) % 4096
    → inside ≡ d.body r next → inside ≡ false → GoesOut image d r at next
goes_out image d r at next word condition skips inside halt same pause tests says never next_is place out = record {
  halt = halt;
  skips = ap (λ w. may_skip (skip_condition_of w)) same ∙ (ap may_skip (sym tests) ∙ (sym says ∙ never));
  pause = pause;
  next_is = next_is;
  outside = sym place ∙ out;
}

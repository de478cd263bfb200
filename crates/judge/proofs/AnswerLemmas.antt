-- What is known of two answers.
use Rattle.std.proofs.Common.{◌≡◌, Result, Ok, Err, sym, ap, ◌∙◌}
use Rattle.std.specs.Prelude.{is_err}
use Rattle.std.proofs.lemmas.Bool.{false≢true}

-- no answer is both good and a fault
pub ok_or_err : {X E : Type 0} {r : Result X E} {x : X} {e : E} → r ≡ Ok x → r ≡ Err e → ⊥
ok_or_err good bad = false≢true (ap is_err (sym good ∙ bad))

-- two answers that are faults and one are one fault
pub same_fault : {X E : Type 0} {r s : Result X E} {e f : E} → r ≡ Err e → s ≡ Err f → r ≡ s → e ≡ f
same_fault {X} {E} {r} {s} {e} {f} one other is = ap (fault_or e) (sym one ∙ is ∙ other)
  where
    fault_or : E → Result X E → E
    fault_or d (Ok x) = d
    fault_or d (Err k) = k

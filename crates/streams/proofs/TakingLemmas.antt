-- Lines taken one by one.
use Rattle.std.proofs.Common.{ℕ, List, [], ◌∷◌, ◌++◌, refl, subst, sym, append_assoc, append-nil}
use Rattle.streams.specs.Taking.{TakesAll}

-- one line more
pub TakesAll-push : {S : Type 0} (takes : S → List ℕ → S → Type 0) (s t u : S) (lines : List (List ℕ)) (line : List ℕ) → TakesAll takes s lines t → takes t line u → TakesAll takes s (lines ++ line ∷ []) u
TakesAll-push takes s t u [] line all more = (u, subst (λ x. takes x line u) (sym all) more, refl)
TakesAll-push takes s t u (l ∷ lines) line all more = (all.0, all.1, TakesAll-push takes all.0 t u lines line all.2 more)

takes_after : {S : Type 0} (takes : S → List ℕ → S → Type 0) (P : List (List ℕ) → S → Type 0) → ((before : List (List ℕ)) (line : List ℕ) (s t : S) → P before s → takes s line t → P (before ++ line ∷ []) t)
    → (before lines : List (List ℕ)) (s t : S) → P before s → TakesAll takes s lines t → P (before ++ lines) t
takes_after takes P step before [] s t p all = subst (λ b. P b t) (sym (append-nil before)) (subst (λ x. P before x) all p)
takes_after takes P step before (l ∷ lines) s t p all =
    subst (λ b. P b t) (append_assoc before (l ∷ []) lines) (takes_after takes P step (before ++ l ∷ []) lines all.0 t (step before l s all.0 p all.1) all.2)

-- What holds of no lines, and of one line more whenever it is taken, holds of all lines that are taken.
pub takes_keep : {S : Type 0} (takes : S → List ℕ → S → Type 0) (P : List (List ℕ) → S → Type 0) → ((before : List (List ℕ)) (line : List ℕ) (s t : S) → P before s → takes s line t → P (before ++ line ∷ []) t)
    → (lines : List (List ℕ)) (s t : S) → P [] s → TakesAll takes s lines t → P lines t
takes_keep takes P step lines s t p all = takes_after takes P step [] lines s t p all

-- Lines that are taken one by one, up to the first that is not good.
use Rattle.std.specs.Prelude.{ℕ, ◌≡◌, ◌+◌, List, [], ◌∷◌, ◌++◌, length}

-- Among these lines this one stands, after these and with this number, which counts from 1.
pub record StandsAt (lines before : List (List ℕ)) (line : List ℕ) (number : ℕ) : Type 0 where
  pub after : List (List ℕ)
  pub stands : lines ≡ before ++ line ∷ after
  pub counted : number ≡ length before + 1

-- All these lines are taken, one after the other.
abbrev pub TakesAll : {S : Type 0} → (S → List ℕ → S → Type 0) → S → List (List ℕ) → S → Type 0
TakesAll takes s [] t = s ≡ t
TakesAll takes s (line ∷ lines) t = (m : _) × takes s line m × TakesAll takes m lines t

-- The first of these lines that is not taken is refused so, and all before it are taken; nothing more is done then.
pub record RefusesFirst {S F : Type 0} (takes : S → List ℕ → S → Type 0) (refuses : S → ℕ → List ℕ → F → S → Type 0)
    (s : S) (lines : List (List ℕ)) (fault : F) (u : S) : Type 0 where
  pub before : List (List ℕ)
  pub line : List ℕ
  pub number : ℕ
  pub stands : StandsAt lines before line number
  pub t : S
  pub taken : TakesAll takes s before t
  pub refused : refuses t number line fault u

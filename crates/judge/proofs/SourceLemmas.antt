-- Facts with the sites that they have by the rules.
use Rattle.std.proofs.Common.{◌≡◌, ℕ, ◌<◌, List, [], ◌∷◌, length, map, zero, suc, refl, sym, ap, ◌∙◌, subst, arith}
use Rattle.wordset.specs.Words.{Words}
use Rattle.domain.specs.Facts.{Fact, Rules, OfEquations, OfSums}
use Rattle.facts.specs.Landing.{fact_at}
use Rattle.judge.specs.Landing.{with_sites, sited}
use Rattle.judge.specs.Shapes.{HasShape}
use Rattle.judge.specs.Sources.{sited_one}

mapped_length : (sites : Words) (fs : List Fact) → length (map (with_sites sites) fs) ≡ length fs
mapped_length sites [] = refl
mapped_length sites (f ∷ fs) = ap suc (mapped_length sites fs)

pub sited_length : (rules : Rules) (sites : Words) (fs : List Fact) → length (sited rules sites fs) ≡ length fs
sited_length OfSums sites fs = refl
sited_length OfEquations sites fs = mapped_length sites fs

mapped_at : (sites : Words) (fs : List Fact) (i : ℕ) → i < length fs → fact_at (map (with_sites sites) fs) i ≡ with_sites sites (fact_at fs i)
mapped_at sites [] i lt = absurd (omega arith)
mapped_at sites (f ∷ fs) zero lt = refl
mapped_at sites (f ∷ fs) (suc i) lt = mapped_at sites fs i (omega arith)

sited_at : (rules : Rules) (sites : Words) (fs : List Fact) (i : ℕ) → i < length fs → fact_at (sited rules sites fs) i ≡ sited_one rules sites (fact_at fs i)
sited_at OfSums sites fs i lt = refl
sited_at OfEquations sites fs i lt = mapped_at sites fs i lt

-- the count of claimed facts is that of those with their sites
pub counted : (rules : Rules) (sites : Words) (fs : List Fact) (n : ℕ) → n ≡ length fs → n ≡ length (sited rules sites fs)
counted rules sites fs n h = h ∙ sym (sited_length rules sites fs)

pub inside : (rules : Rules) (sites : Words) (fs : List Fact) (i : ℕ) → i < length (sited rules sites fs) → i < length fs
inside rules sites fs i lt = omega (arith, lt, sited_length rules sites fs)

-- a fact that is read, with its sites
pub put_at : (rules own : Rules) (sites : Words) (fs : List Fact) (i : ℕ) (f g : Fact) → own ≡ rules → i < length (sited rules sites fs) → f ≡ fact_at fs i → g ≡ sited_one own sites f →
    g ≡ fact_at (sited rules sites fs) i
put_at rules own sites fs i f g same lt is put =
    put ∙ (ap (λ (k : Rules). sited_one k sites f) same ∙ (ap (λ (h : Fact). sited_one rules sites h) is ∙ sym (sited_at rules sites fs i (inside rules sites fs i lt))))

-- sites do not change the shape
pub sited_shape : (rules : Rules) (sites : Words) (f : Fact) → HasShape f → HasShape (sited_one rules sites f)
sited_shape OfSums sites f h = h
sited_shape OfEquations sites f h = record { terms = h.terms; short = h.short; few = h.few }

-- one fact alone
pub sited_alone : (rules : Rules) (sites : Words) (f : Fact) → sited rules sites (f ∷ []) ≡ sited_one rules sites f ∷ []
sited_alone OfSums sites f = refl
sited_alone OfEquations sites f = refl

pub sited_by_equations : (rules : Rules) (sites : Words) (f g : Fact) → rules ≡ OfEquations → g ≡ with_sites sites f → g ≡ sited_one rules sites f
sited_by_equations rules sites f g is put = put ∙ ap (λ (k : Rules). sited_one k sites f) (sym is)

pub sited_from : (rules : Rules) (sites : Words) (f g : Fact) → g ≡ sited_one rules sites f → HasShape f → HasShape g
sited_from rules sites f g put shape = subst HasShape (sym put) (sited_shape rules sites f shape)

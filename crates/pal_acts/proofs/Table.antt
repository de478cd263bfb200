-- Looking names up in tables.
use Rattle.std.proofs.Common.{◌≡◌, ◌∙◌, sym, ap, refl, ℕ, List, [], ◌∷◌, ◌++◌, Bool, Some, None, Option, Ok, inl, inr, length, ◌<◌, nat_lt, lt-ltb}
use Rattle.std.specs.Map.{lookup}
use Rattle.std.proofs.lemmas.Bool.{cases_Bool, cond-true}
use Rattle.pal_text.specs.declared.names.Name.{Name}
use Rattle.pal_acts.specs.declared.fault_code.FaultCode.{FaultCode}
use Rattle.pal_acts.specs.Meaning.{given}

-- a name in the first of two tables
pub lookup-left : {K : Type 0} (test : K → Bool) (xs ys : List (K × ℕ)) (v : ℕ) → lookup test xs ≡ Some v → lookup test (xs ++ ys) ≡ Some v
lookup-left test [] ys v h = cc
lookup-left {K} test (x ∷ xs) ys v h =
    elim (cases_Bool (test x.0)) [
      | inl is ↦ rw is (rw is at h)
      | inr not ↦ rw not (lookup-left test xs ys v (rw not at h))
    ]

-- a name that isn't
pub lookup-right : {K : Type 0} (test : K → Bool) (xs ys : List (K × ℕ)) → lookup test xs ≡ None → lookup test (xs ++ ys) ≡ lookup test ys
lookup-right test [] ys h = refl
lookup-right {K} test (x ∷ xs) ys h =
    elim (cases_Bool (test x.0)) [
      | inl is ↦ cc (rw is at h)
      | inr not ↦ rw not (lookup-right test xs ys (rw not at h))
    ]

pub lookup-none : {K : Type 0} (test : K → Bool) (xs ys : List (K × ℕ)) → lookup test (xs ++ ys) ≡ None → lookup test ys ≡ None
lookup-none test [] ys h = h
lookup-none {K} test (x ∷ xs) ys h =
    elim (cases_Bool (test x.0)) [
      | inl is ↦ cc (rw is at h)
      | inr not ↦ lookup-none test xs ys (rw not at h)
    ]

-- a new name finds room
pub given_new : (code : FaultCode) (limit : ℕ) (own new : List (Name × ℕ)) (n : Name) (o : Option ℕ) (v : ℕ) → o ≡ None → length own < limit → new ≡ own ++ (n, v) ∷ [] → given code limit own n o v ≡ Ok new
given_new code limit own new n o v none room e =
    ap (λ o. given code limit own n o v) none ∙ cond-true (nat_lt (length own) limit) _ _ (lt-ltb (length own) limit room) ∙ ap Ok (sym e)

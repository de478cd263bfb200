-- The routine whose body has a cell.
use Rattle.std.proofs.Common.{ℕ, ◌≡◌, Bool, true, false, ◌&&◌, ◌||◌, ◌==◌, List, [], ◌∷◌, refl, sym, ap, Option, Some, None, inl, inr}
use Rattle.std.specs.Prelude.{IfSome, IfNone}
use Rattle.std.specs.List.{find}
use Rattle.std.specs.Option.{option_map}
use Rattle.std.proofs.lemmas.Bool.{cases_Bool, eq-eqb}
use Rattle.wordset.specs.Lanes.{words}
use Rattle.declaration.specs.Declaration.{Routine, IsDeclared}
use Rattle.declaration.specs.DeclarationInCode.{Kept, bodies, body_of, meaning, routine_of}
use Rattle.declaration.specs.declared.Owner.{Owner}
use Rattle.declaration.specs.declared.Owner.TheVariants as owner
use Rattle.declaration.specs.declared.Routine.{Routine as KeptRoutine}

-- the entry of the first routine whose body has a cell
abbrev pub first_with : List KeptRoutine → ℕ → Option Routine
first_with routines a = option_map (λ r. Some r.entry) (find (λ r. words r.body a) routines)

or_true : (b : Bool) → (b || true) ≡ true
or_true true = refl
or_true false = refl

and_false : (b : Bool) → (b && false) ≡ false
and_false true = refl
and_false false = refl

-- that routine's body has it; where there is none no body has it; and it isn't main
first_has : (routines : List KeptRoutine) (a e : ℕ) → first_with routines a ≡ Some (Some e) → bodies routines e a ≡ true
first_has [] a e is = absurd (cc)
first_has (r ∷ rs) a e is = elim (cases_Bool (words r.body a)) [
  | inl y ↦ let here : Some (Some r.entry) ≡ Some (Some e) = rw y at is in let same : r.entry ≡ e = cc in rw (y, eq-eqb r.entry e same) refl
  | inr n ↦ let later : bodies rs e a ≡ true = first_has rs a e (rw n at is) in rw later (or_true (r.entry == e && words r.body a))
]

none_has : (routines : List KeptRoutine) (a e : ℕ) → first_with routines a ≡ None → bodies routines e a ≡ false
none_has [] a e is = refl
none_has (r ∷ rs) a e is = elim (cases_Bool (words r.body a)) [
  | inl y ↦ let here : Some (Some r.entry) ≡ None = rw y at is in absurd (cc)
  | inr n ↦ let later : bodies rs e a ≡ false = none_has rs a e (rw n at is) in rw (n, later, and_false (r.entry == e)) refl
]

not_main : (routines : List KeptRoutine) (a : ℕ) → first_with routines a ≡ Some None → ⊥
not_main [] a is = cc
not_main (r ∷ rs) a is = elim (cases_Bool (words r.body a)) [
  | inl y ↦ let here : Some (Some r.entry) ≡ Some None = rw y at is in cc
  | inr n ↦ not_main rs a (rw n at is)
]

-- the same of a declaration, where main's body doesn't have the cell
pub owner_found : (k d : Kept) (a : ℕ) (o : Option Owner) → k ≡ d → option_map routine_of o ≡ first_with k.routines a → IfSome o (λ x. body_of d (routine_of x) a ≡ true)
owner_found k d a None same is = tt
owner_found k d a (Some owner.Main) same is = absurd (not_main k.routines a (sym is))
owner_found k d a (Some (owner.Routine e)) same is = rw (← same) (first_has k.routines a e (sym is))

pub owner_none : (k d : Kept) (a : ℕ) (o : Option Owner) → k ≡ d → words k.main a ≡ false → option_map routine_of o ≡ first_with k.routines a → IfNone o ((r : Routine) → body_of d r a ≡ false)
owner_none k d a None same outside is = rw (← same) (elim [ None ↦ outside | Some e ↦ none_has k.routines a e (sym is) ])
owner_none k d a (Some x) same outside is = tt

pub owner_only : (k d : Kept) (a : ℕ) (o : Option Owner) → k ≡ d → IsDeclared (meaning k) → words k.main a ≡ false → option_map routine_of o ≡ first_with k.routines a
    → (r : Routine) → body_of d r a ≡ true → option_map routine_of o ≡ Some r
owner_only k d a None same declared outside is r has = let none = owner_none k d a None same outside is r in absurd (cc)
owner_only k d a (Some x) same declared outside is r has =
    let inside : body_of k r a ≡ true = rw (← same) at has in
    ap Some (declared.bodies_apart a (routine_of x) r (owner_found k k a (Some x) refl is) inside)

pub main_only : (k d : Kept) (a : ℕ) → k ≡ d → IsDeclared (meaning k) → words k.main a ≡ true → (r : Routine) → body_of d r a ≡ true → Some None ≡ Some r
main_only k d a same declared inside r has = ap Some (declared.bodies_apart a None r inside (rw (← same) at has))

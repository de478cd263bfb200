-- What an act makes of the own symbols: it adds one or none, and the current location stays where it is.
use Rattle.std.proofs.Common.{◌≡◌, ◌∙◌, sym, ap, refl, subst, ℕ, nat_lt, nat_eq, List, [], ◌∷◌, ◌++◌, append_assoc, length, Option, Some, None, Ok, Err, inl, inr}
use Rattle.std.specs.Prelude.{unwrap_or}
use Rattle.std.specs.Option.{option_and_then}
use Rattle.std.specs.Map.{lookup}
use Rattle.std.proofs.lemmas.Bool.{cases_Bool}
use Rattle.pal_text.specs.declared.names.Name.{Name}
use Rattle.pal_acts.specs.declared.act.ExpressionTerm.{ExpressionTerm}
use Rattle.pal_acts.specs.declared.act.ExpressionTerm.TheVariants.{Number, Symbol, Here}
use Rattle.pal_acts.specs.declared.act.SignedTerm.{SignedTerm}
use Rattle.pal_acts.specs.declared.act.Act.{Act}
use Rattle.pal_acts.specs.declared.act.Act.TheVariants as act
use Rattle.pal_acts.specs.declared.fault_code.FaultCode.{FaultCode}
use Rattle.pal_acts.specs.declared.fault_code.FaultCode.TheVariants.{Redefined, DuplicateTag}
use Rattle.pal_acts.specs.Acts.{PlacedAct}
use Rattle.pal_acts.specs.Values.{Values, known, same, term_value, joined, value_after, value, needed}
use Rattle.pal_acts.specs.Meaning.{location_after, location, given, taken, next_taken, Defines, nothing, one_more}
use Rattle.pal_acts.proofs.Table.{lookup-left}

-- symbols, and perhaps one more with such a value
pub data Grown (P : ℕ → Type 0) (own : List (Name × ℕ)) : List (Name × ℕ) → Type 0 where
  as_before : Grown P own own
  with_one : (n : Name) (v : ℕ) → P v → Grown P own (own ++ (n, v) ∷ [])

module _ (P : ℕ → Type 0) (limit : ℕ) (own : List (Name × ℕ)) where
  given_grown : (code : FaultCode) (n : Name) (o : Option ℕ) (v : ℕ) (new : List (Name × ℕ)) → P v → given code limit own n o v ≡ Ok new → Grown P own new
  given_grown code n None v new h e = elim (cases_Bool (nat_lt (length own) limit)) [
    | inl is ↦ subst (Grown P own) (let e : Ok (own ++ (n, v) ∷ []) ≡ Ok new = rw is at e in cc) (with_one n v h)
    | inr not ↦ cc (rw not at e)
  ]
  given_grown code n (Some w) v new h e = elim (cases_Bool (nat_eq w v)) [
    | inl is ↦ subst (Grown P own) (let e : Ok own ≡ Ok new = rw is at e in cc) as_before
    | inr not ↦ cc (rw not at e)
  ]

  module _ (perm : List (Name × ℕ)) (here : ℕ) (e : List SignedTerm) (at : P here) (is_such : (v : ℕ) → value (known perm own) here e ≡ Some v → P v) where
    assign_grown : (n : Name) (o : Option ℕ) (new : List (Name × ℕ)) → value (known perm own) here e ≡ o → needed o (given Redefined limit own n (known perm own n)) ≡ Ok new → Grown P own new
    assign_grown n None new is h = cc
    assign_grown n (Some v) new is h = given_grown Redefined n (known perm own n) v new (is_such v is) h

    origin_grown : (o : Option ℕ) (new : List (Name × ℕ)) → needed o (λ v. Ok own) ≡ Ok new → Grown P own new
    origin_grown None new h = cc
    origin_grown (Some v) new h = subst (Grown P own) (let e : Ok own ≡ Ok new = h in cc) as_before

    directed : (o : Option ℕ) (new : List (Name × ℕ)) → needed o (λ v. Err Redefined) ≡ Ok new → Grown P own new
    directed None new h = cc
    directed (Some v) new h = cc

    pub taken_grown : (a : Act) (new : List (Name × ℕ)) → taken perm limit own here e a ≡ Ok new → Grown P own new
    taken_grown (act.Wrong c) new h = cc
    taken_grown (act.Tag n) new h = given_grown DuplicateTag n (known perm own n) here new at h
    taken_grown act.Origin new h = origin_grown (value (known perm own) here e) new h
    taken_grown (act.Assign n) new h = assign_grown n (value (known perm own) here e) new refl h
    taken_grown act.AssignDirection new h = directed (value (known perm own) here e) new h
    taken_grown act.Word new h = subst (Grown P own) (let e : Ok own ≡ Ok new = h in cc) as_before
    taken_grown act.LastPause new h = cc

-- a name that has a value has it among more symbols
abbrev pub Extends : Values → Values → Type 0
Extends σ τ = (n : Name) (v : ℕ) → σ n ≡ Some v → τ n ≡ Some v

extends : (P : ℕ → Type 0) (perm own new : List (Name × ℕ)) → Grown P own new → Extends (known perm own) (known perm new)
extends P perm own new as_before n v h = h
extends P perm own new (with_one m w p) n v h = ap (lookup (same n)) (sym (append_assoc perm own ((m, w) ∷ []))) ∙ lookup-left (same n) (perm ++ own) ((m, w) ∷ []) v h

pub next_extends : (perm : List (Name × ℕ)) (limit : ℕ) (before : List PlacedAct) (next : PlacedAct) (own new : List (Name × ℕ)) → next_taken perm limit own before next ≡ Ok new → Extends (known perm own) (known perm new)
next_extends perm limit before next own new e =
    extends (λ v. Unit {0}) perm own new (taken_grown (λ v. Unit {0}) limit own perm (location (known perm own) before) next.terms tt (λ v h. tt) next.act new e)

-- what has a value there has it here
module _ (σ τ : Values) (more : Extends σ τ) where
  term_stays : (here : ℕ) (t : ExpressionTerm) (v : ℕ) → term_value σ here t ≡ Some v → term_value τ here t ≡ Some v
  term_stays here (Number w) v e = e
  term_stays here (Symbol n) v e = more n v e
  term_stays here Here v e = e

  joined_stays : (here a : ℕ) (j : SignedTerm) (js : List SignedTerm) (v : ℕ) (o : Option ℕ) → term_value σ here j.term ≡ o → option_and_then (λ w. value_after σ here (joined j.sign a w) js) o ≡ Some v
      → ((w : ℕ) → value_after σ here (joined j.sign a w) js ≡ Some v → value_after τ here (joined j.sign a w) js ≡ Some v) → value_after τ here a (j ∷ js) ≡ Some v
  joined_stays here a j js v None is e k = cc
  joined_stays here a j js v (Some w) is e k = ap (option_and_then (λ w. value_after τ here (joined j.sign a w) js)) (term_stays here j.term w is) ∙ k w e

  value_stays : (here a : ℕ) (js : List SignedTerm) (v : ℕ) → value_after σ here a js ≡ Some v → value_after τ here a js ≡ Some v
  value_stays here a [] v e = e
  value_stays here a (j ∷ js) v e = joined_stays here a j js v (term_value σ here j.term) refl e (λ w h. value_stays here (joined j.sign a w) js v h)

  origin_stays : (here : ℕ) (e : List SignedTerm) (own new : List (Name × ℕ)) (o : Option ℕ) → value σ here e ≡ o → needed o (λ v. Ok own) ≡ Ok new → unwrap_or (value τ here e) 0 ≡ unwrap_or (value σ here e) 0
  origin_stays here e own new None is h = cc
  origin_stays here e own new (Some v) is h = ap (λ o. unwrap_or o 0) (value_stays here 0 e v is ∙ sym is)

pub act_stays : (perm : List (Name × ℕ)) (limit : ℕ) (own new : List (Name × ℕ)) (τ : Values) (here : ℕ) (e : List SignedTerm) (a : Act) → Extends (known perm own) τ → taken perm limit own here e a ≡ Ok new
    → location_after τ here e a ≡ location_after (known perm own) here e a
act_stays perm limit own new τ here e act.Origin more h = origin_stays (known perm own) τ more here e own new (value (known perm own) here e) refl h
act_stays perm limit own new τ here e _ more h = refl

-- more symbols leave the location where it was
pub stays : (perm : List (Name × ℕ)) (limit : ℕ) (acts : List PlacedAct) (own : List (Name × ℕ)) (τ : Values) → Defines perm limit acts own → Extends (known perm own) τ → location τ acts ≡ location (known perm own) acts
stays perm limit acts own τ nothing more = refl
stays perm limit acts all τ (one_more before next own new d e) more =
    let σ : Values = known perm own in
    let grown : Extends σ (known perm new) = next_extends perm limit before next own new e in
    let there : location τ before ≡ location σ before = stays perm limit before own τ d (λ n v h. more n v (grown n v h)) in
    let then : location (known perm new) before ≡ location σ before = stays perm limit before own (known perm new) d grown in
    ap (λ l. location_after τ l next.terms next.act) there
    ∙ act_stays perm limit own new τ (location σ before) next.terms next.act (λ n v h. more n v (grown n v h)) e
    ∙ sym (act_stays perm limit own new (known perm new) (location σ before) next.terms next.act grown e)
    ∙ sym (ap (λ l. location_after (known perm new) l next.terms next.act) then)

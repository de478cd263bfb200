-- What is said and keeps the rules is a declaration.
use Rattle.std.proofs.Common.{ℕ, ◌≡◌, ◌<◌, ◌≤◌, ◌+◌, ◌==◌, ◌⊎◌, Bool, true, false, not, ◌&&◌, ◌||◌, List, [], ◌∷◌, zero-add, arith, refl, sym, ◌∙◌, ap, Some, None, inl, inr}
use Rattle.std.specs.Prelude.{nat_le, if◌then◌else◌}
use Rattle.std.specs.List.{list_any, count_by}
use Rattle.std.proofs.lemmas.Bool.{cases_Bool, and_parts, eqb-true, leb-true, leb-false, eq-eqb}
use Rattle.wordset.specs.Words.{HasNoneFrom}
use Rattle.processor.specs.Machine.{is_auto_index}
use Rattle.declaration.specs.Declaration.{Routine, IsDeclared}
use Rattle.declaration.specs.Lines.{Subroutine}
use Rattle.declaration.specs.Text.{Contents, is_entry, in_bodies, bodies_at, overlaps, halt_outside, is_named_entry, misplaced, declaration_of}
use Rattle.declaration.specs.Drafts.{KeepsRules, entries_at}
use Rattle.declaration.proofs.RuleLemmas.{count-cons, some_counted}

-- All cells that are spoken of are words.
pub record AreWords (c : Contents) : Type 0 where
  pub bodies : (a : ℕ) → in_bodies c a ≡ true → a < 4096
  pub entries : (a : ℕ) → is_entry c a ≡ true → a < 4096
  pub stops : (a : ℕ) → c.stop a ≡ true → a < 4096
  pub pauses : (a : ℕ) → c.pause a ≡ true → a < 4096
  pub moves : (a : ℕ) → c.moves a ≡ true → a < 4096
  pub abandons : (a : ℕ) → c.abandon a ≡ true → a < 4096

or_no_first : (a b : Bool) → (a || b) ≡ false → a ≡ false
or_no_first true b e = e
or_no_first false b e = refl

or_no_second : (a b : Bool) → (a || b) ≡ false → b ≡ false
or_no_second true b e = absurd (cc)
or_no_second false b e = e

or_yes : (a b : Bool) → b ≡ true → (a || b) ≡ true
or_yes true b e = refl
or_yes false b e = e

or_yes_first : (a b : Bool) → a ≡ true → (a || b) ≡ true
or_yes_first true b e = refl
or_yes_first false b e = absurd (cc)

and_no : (a b : Bool) → (a && b) ≡ false → a ≡ true → b ≡ false
and_no true b e h = e
and_no false b e h = absurd (cc)

false_of : (b : Bool) → (b ≡ true → ⊥) → b ≡ false
false_of true h = absurd (h refl)
false_of false h = refl

-- some routine that has an entry and more
any_both : (p q : Subroutine → Bool) (rs : List Subroutine) → list_any (λ r. p r && q r) rs ≡ true → (list_any p rs ≡ true) × (list_any q rs ≡ true)
any_both p q [] h = absurd (cc)
any_both p q (r ∷ rs) h = elim (cases_Bool (p r && q r)) [
  | inl e ↦ let parts = and_parts (p r) (q r) e in (or_yes_first (p r) (list_any p rs) parts.0, or_yes_first (q r) (list_any q rs) parts.1)
  | inr e ↦ let rest = any_both p q rs (rw e at h) in (or_yes (p r) (list_any p rs) rest.0, or_yes (q r) (list_any q rs) rest.1)
]

-- a routine whose body has a cell
body_found : (a : ℕ) (rs : List Subroutine) → list_any (λ r. r.body a) rs ≡ true → (e : ℕ) × (list_any (λ r. r.entry == e && r.body a) rs ≡ true)
body_found a [] h = absurd (cc)
body_found a (r ∷ rs) h = elim (cases_Bool (r.body a)) [
  | inl e ↦ (r.entry, or_yes_first (r.entry == r.entry && r.body a) (list_any (λ s. s.entry == r.entry && s.body a) rs) (rw (eq-eqb r.entry r.entry refl, e) refl))
  | inr e ↦ let rest = body_found a rs (rw e at h) in (rest.0, or_yes (r.entry == rest.0 && r.body a) (list_any (λ s. s.entry == rest.0 && s.body a) rs) rest.1)
]

-- where no later body has a cell, the routine of an entry that has it is the first
first_of : (e : ℕ) (r : Subroutine) (rs : List Subroutine) (a : ℕ) → list_any (λ s. s.entry == e && s.body a) (r ∷ rs) ≡ true → list_any (λ s. s.body a) rs ≡ false → e ≡ r.entry
first_of e r rs a at others = elim (cases_Bool (r.entry == e && r.body a)) [
  | inl b ↦ sym (eqb-true r.entry e (and_parts (r.entry == e) (r.body a) b).0)
  | inr b ↦ let rest = any_both (λ s. s.entry == e) (λ s. s.body a) rs (rw b at at) in
      let wrong : true ≡ false = sym rest.1 ∙ others in absurd (cc)
]

-- where the first body lacks a cell, a later one has it
later : (e : ℕ) (r : Subroutine) (rs : List Subroutine) (a : ℕ) → list_any (λ s. s.entry == e && s.body a) (r ∷ rs) ≡ true → r.body a ≡ false → list_any (λ s. s.entry == e && s.body a) rs ≡ true
later e r rs a at lacks = elim (cases_Bool (r.entry == e && r.body a)) [
  | inl b ↦ let wrong : true ≡ false = sym (and_parts (r.entry == e) (r.body a) b).1 ∙ lacks in absurd (cc)
  | inr b ↦ rw b at at
]

-- a cell in one body alone
one_body : (a e f : ℕ) (rs : List Subroutine) → nat_le 2 (count_by (λ r. r.body a) rs) ≡ false
    → list_any (λ r. r.entry == e && r.body a) rs ≡ true → list_any (λ r. r.entry == f && r.body a) rs ≡ true → e ≡ f
one_body a e f [] one at also = absurd (cc)
one_body a e f (r ∷ rs) one at also = elim (cases_Bool (r.body a)) [
  | inl b ↦
      (let few : count_by (λ s. s.body a) (r ∷ rs) < 2 = leb-false 2 (count_by (λ s. s.body a) (r ∷ rs)) one in
      let long : count_by (λ s. s.body a) (r ∷ rs) ≡ 1 + count_by (λ s. s.body a) rs = count-cons (λ s. s.body a) r rs ∙ ap (λ t. (if t then 1 else 0) + count_by (λ s. s.body a) rs) b in
      let none : count_by (λ s. s.body a) rs < 1 = omega arith in
      let others : list_any (λ s. s.body a) rs ≡ false = false_of (list_any (λ s. s.body a) rs) (λ t. absurd (omega (arith, leb-true 1 (count_by (λ s. s.body a) rs) (some_counted (λ s. s.body a) rs ∙ t)))) in
      first_of e r rs a at others ∙ sym (first_of f r rs a also others))
  | inr b ↦
      (let long : count_by (λ s. s.body a) (r ∷ rs) ≡ count_by (λ s. s.body a) rs = count-cons (λ s. s.body a) r rs ∙ ap (λ t. (if t then 1 else 0) + count_by (λ s. s.body a) rs) b ∙ zero-add (count_by (λ s. s.body a) rs) in
      one_body a e f rs (ap (λ n. nat_le 2 n) (sym long) ∙ one) (later e r rs a at b) (later f r rs a also b))
]

-- ---- the rules, cell by cell

not_two : (c : Contents) → HasNoneFrom 0 (overlaps c) → (a : ℕ) → a < 4096 → nat_le 2 (bodies_at c a) ≡ false
not_two c apart a h = or_no_first (nat_le 2 (bodies_at c a)) _ (or_no_first _ _ (or_no_first _ _ (or_no_first _ _ (apart a (omega arith) h))))

entry_outside : (c : Contents) → HasNoneFrom 0 (overlaps c) → (a : ℕ) → a < 4096 → is_entry c a ≡ true → in_bodies c a ≡ false
entry_outside c apart a h is = and_no (is_entry c a) (in_bodies c a) (or_no_second (nat_le 2 (bodies_at c a)) _ (or_no_first _ _ (or_no_first _ _ (or_no_first _ _ (apart a (omega arith) h))))) is

entry_fixed : (c : Contents) → HasNoneFrom 0 (overlaps c) → (a : ℕ) → a < 4096 → is_entry c a ≡ true → c.variable a ≡ false
entry_fixed c apart a h is = and_no (is_entry c a) (c.variable a) (or_no_second (nat_le 2 (bodies_at c a) || is_entry c a && in_bodies c a) _ (or_no_first _ _ (or_no_first _ _ (apart a (omega arith) h)))) is

halts_differ : (c : Contents) → HasNoneFrom 0 (overlaps c) → (a : ℕ) → a < 4096 → (c.stop a && c.pause a) ≡ false
halts_differ c apart a h =
    or_no_second (nat_le 2 (bodies_at c a) || is_entry c a && in_bodies c a || is_entry c a && c.variable a || nat_le 2 (entries_at c a)) _ (apart a (omega arith) h)

and_turned : (a b : Bool) → (a && b) ≡ false → b ≡ true → a ≡ false
and_turned true b e h = absurd (cc)
and_turned false b e h = refl

not_false : (b : Bool) → not b ≡ false → b ≡ true
not_false true e = refl
not_false false e = absurd (cc)

-- of two bodies the one is main's
main_apart : (c : Contents) → (a e : ℕ) → nat_le 2 (bodies_at c a) ≡ false → c.main a ≡ true → list_any (λ r. r.entry == e && r.body a) c.routines ≡ true → ⊥
main_apart c a e one main at =
    let other : list_any (λ r. r.body a) c.routines ≡ true = (any_both (λ r. r.entry == e) (λ r. r.body a) c.routines at).1 in
    let some : 1 ≤ count_by (λ r. r.body a) c.routines = leb-true 1 (count_by (λ r. r.body a) c.routines) (some_counted (λ r. r.body a) c.routines ∙ other) in
    let few : bodies_at c a < 2 = leb-false 2 (bodies_at c a) one in
    let long : bodies_at c a ≡ 1 + count_by (λ r. r.body a) c.routines = ap (λ b. (if b then 1 else 0) + count_by (λ r. r.body a) c.routines) main in
    absurd (omega arith)

bodies_of_routines : (c : Contents) (a : ℕ) → nat_le 2 (bodies_at c a) ≡ false → nat_le 2 (count_by (λ r. r.body a) c.routines) ≡ false
bodies_of_routines c a one =
    let few : bodies_at c a < 2 = leb-false 2 (bodies_at c a) one in
    false_of (nat_le 2 (count_by (λ r. r.body a) c.routines)) (λ t. absurd (omega (arith, leb-true 2 (count_by (λ r. r.body a) c.routines) t)))

same_routine : (c : Contents) (s : ℕ) → AreWords c → HasNoneFrom 0 (overlaps c) → (a : ℕ) (r q : Routine) → (declaration_of c s).body r a ≡ true → (declaration_of c s).body q a ≡ true → r ≡ q
same_routine c s w apart a None None at also = refl
same_routine c s w apart a None (Some f) at also =
    let small : a < 4096 = w.bodies a (or_yes_first (c.main a) _ at) in absurd (main_apart c a f (not_two c apart a small) at also)
same_routine c s w apart a (Some e) None at also =
    let small : a < 4096 = w.bodies a (or_yes_first (c.main a) _ also) in absurd (main_apart c a e (not_two c apart a small) also at)
same_routine c s w apart a (Some e) (Some f) at also =
    let small : a < 4096 = w.bodies a (or_yes (c.main a) _ (any_both (λ r. r.entry == e) (λ r. r.body a) c.routines at).1) in
    ap (λ x. Some x) (one_body a e f c.routines (bodies_of_routines c a (not_two c apart a small)) at also)

outside_of : (c : Contents) (s a : ℕ) (r : Routine) → in_bodies c a ≡ false → (declaration_of c s).body r a ≡ false
outside_of c s a None out = or_no_first (c.main a) _ out
outside_of c s a (Some e) out =
    false_of (list_any (λ r. r.entry == e && r.body a) c.routines) (λ t.
    let wrong : true ≡ false = sym (any_both (λ r. r.entry == e) (λ r. r.body a) c.routines t).1 ∙ or_no_second (c.main a) _ out in absurd (cc))

body_of_cell : (c : Contents) (s a : ℕ) → in_bodies c a ≡ true → (r : Routine) × ((declaration_of c s).body r a ≡ true)
body_of_cell c s a inside = elim (cases_Bool (c.main a)) [
  | inl e ↦ (None, e)
  | inr e ↦ let found = body_found a c.routines (rw e at inside) in (Some found.0, found.1)
]

halt_inside : (c : Contents) → HasNoneFrom 0 (halt_outside c) → (a : ℕ) → a < 4096 → (c.stop a || c.pause a) ≡ true → in_bodies c a ≡ true
halt_inside c halts a h is = not_false (in_bodies c a) (and_no (c.stop a || c.pause a) (not (in_bodies c a)) (halts a (omega arith) h) is)

halt_of : (c : Contents) (s : ℕ) → AreWords c → HasNoneFrom 0 (halt_outside c) → (a : ℕ) → (c.stop a ≡ true) ⊎ (c.pause a ≡ true) → (r : Routine) × ((declaration_of c s).body r a ≡ true)
halt_of c s w halts a (inl is) = body_of_cell c s a (halt_inside c halts a (w.stops a is) (or_yes_first (c.stop a) (c.pause a) is))
halt_of c s w halts a (inr is) = body_of_cell c s a (halt_inside c halts a (w.pauses a is) (or_yes (c.stop a) (c.pause a) is))

-- an entry in which its routine may store, and a place for which calls may be abandoned
moves_an_entry : (c : Contents) → HasNoneFrom 0 (misplaced c) → (a : ℕ) → a < 4096 → c.moves a ≡ true → is_entry c a ≡ true
moves_an_entry c placed a h is =
    let none : (is_named_entry c a && not (is_entry c a)) ≡ false = or_no_first _ _ (or_no_first _ _ (placed a (omega arith) h)) in
    let named : is_named_entry c a ≡ true = or_yes_first (list_any (λ s. s.entry == a) c.skips || c.moves a) _ (or_yes (list_any (λ s. s.entry == a) c.skips) (c.moves a) is) in
    not_false (is_entry c a) (and_no (is_named_entry c a) (not (is_entry c a)) none named)

abandons_in_main : (c : Contents) → HasNoneFrom 0 (misplaced c) → (a : ℕ) → a < 4096 → c.abandon a ≡ true → c.main a ≡ true
abandons_in_main c placed a h is =
    let none : (c.abandon a && not (c.main a)) ≡ false = or_no_second (is_named_entry c a && not (is_entry c a)) _ (or_no_first _ _ (placed a (omega arith) h)) in
    not_false (c.main a) (and_no (c.abandon a) (not (c.main a)) none is)

-- What is said and keeps the rules is a declaration.
pub IsDeclared-from : (c : Contents) (s : ℕ) → KeepsRules c s → AreWords c → IsDeclared (declaration_of c s)
IsDeclared-from c s k w = record {
  start_is_word = w.bodies s (or_yes_first (c.main s) _ k.start_in_main);
  entry_is_word = w.entries;
  start_in_main = k.start_in_main;
  bodies_apart = same_routine c s w k.apart;
  body_of_routine = λ a e at. (any_both (λ r. r.entry == e) (λ r. r.body a) c.routines at).0;
  entry_not_in_body = λ e r is. outside_of c s e r (entry_outside c k.apart e (w.entries e is) is);
  entry_not_variable = λ e is. entry_fixed c k.apart e (w.entries e is) is;
  entry_not_index = λ e is. and_no (is_entry c e) (is_auto_index e) (k.outside_index e (omega arith) (w.entries e is)) is;
  stop_not_pause = λ a pause. and_turned (c.stop a) (c.pause a) (halts_differ c k.apart a (w.pauses a pause)) pause;
  halt_in_body = halt_of c s w k.halts_inside;
  moves_entry = λ e moves. moves_an_entry c k.placed e (w.moves e moves) moves;
  abandon_in_main = λ a abandons. abandons_in_main c k.placed a (w.abandons a abandons) abandons;
}

-- Fields that version 3 adds: offsets of two digits, sums and steps.
use Rattle.std.proofs.Common.{◌≡◌, ◌≢◌, ℕ, suc, ◌+◌, ◌/◌, ◌<◌, ◌≤◌, ◌==◌, ◌&&◌, ◌||◌, Bool, true, false, List, [], ◌∷◌, ◌++◌, length, map, Option, Some, None, refl, ap, ◌∙◌, sym, subst, inl, inr, arith, append_assoc, append-nil, length-append}
use Rattle.std.specs.Prelude.{IfSome, if◌then◌else◌, codes, flat_map, nat_le, nat_lt}
use Rattle.std.specs.List.{list_all}
use Rattle.std.specs.Option.{IsSomeAnd}
use Rattle.std.proofs.Math.Bool.{or-false}
use Rattle.std.proofs.lemmas.Bool.{true≢false, false≢true, and_parts, eq-eqb, eqb-true, ltb-true, leb-true, lt-ltb, cases_Bool}
use Rattle.std.proofs.lemmas.Bool.Decides.{eqb_tells, nat_tests}
use Rattle.std.proofs.lemmas.List.Concat.{flat_map-append}
use Rattle.word12.specs.Words.{octal_text}
use Rattle.wordset.specs.Words.{minus}
use Rattle.domain.specs.Locations.{Location, Ac, Cell}
use Rattle.domain.specs.Shapes.{has_shape, is_triple, is_cell}
use Rattle.domain.specs.Terms.{Term, Holding, Behind, Summand, Sum, arranged, same_sum, name_of_term}
use Rattle.domain.specs.InCode.{summand_at}
use Rattle.std.proofs.lemmas.List.{length-map}
use Rattle.domain.specs.declared.chains.Step.{Step as KeptStep}
use Rattle.domain.specs.ChainsInCode.{step_of}
use Rattle.domain.specs.Chains.{Step, Operates, Ands, Adds}
use Rattle.certificate_lines.specs.FieldSpelling.{name_text}
use Rattle.certificate_lines.specs.RisingLists.{place_of_name}
use Rattle.certificate_lines.specs.Spelling.{coefficient_text, further_text, term_text, sum_text, step_text}
use Rattle.certificate_lines.specs.LineOf.{is_term, is_summand, is_relation, is_step}
use Rattle.certificate_lines.specs.Fields.{third_text, step_rest}
use Rattle.certificate_lines.specs.Packed.{third_terms}
use Rattle.certificate_lines.proofs.DigitLemmas.{at_some}
use Rattle.certificate_lines.proofs.RunLemmas.{how_long}

-- Two codes that differ.
differ : (a b : ℕ) → (a == b) ≡ false → a ≡ b → ⊥
differ a b e f = true≢false (sym (eq-eqb a b f) ∙ e)

-- Offsets put in from one to another.
pub run_begun : (x : Bool) (first v : ℕ) → x ≡ (x || nat_le first v && nat_lt v first)
run_begun true first v = refl
run_begun false first v = grind (arith, nat_tests)

pub run_more : (x y : Bool) (first n v : ℕ) → first ≤ n → y ≡ (x || nat_le first v && nat_lt v n) → (y || v == n) ≡ (x || nat_le first v && nat_lt v (n + 1))
run_more true y first n v h e = rw e refl
run_more false y first n v h e = rw e (go first n v h)
  where
    go : (first n v : ℕ) → first ≤ n → (nat_le first v && nat_lt v n || v == n) ≡ (nat_le first v && nat_lt v (n + 1))
    go first n v h = grind (arith, nat_tests)

pub run_done : (x y : Bool) (first last n v : ℕ) → n ≡ last + 1 → y ≡ (x || nat_le first v && nat_lt v n) → y ≡ (x || nat_le first v && nat_le v last)
run_done x y first last n v e h = h ∙ ap (λ b. x || nat_le first v && b) (same last n v e)
  where
    same : (last n v : ℕ) → n ≡ last + 1 → nat_lt v n ≡ nat_le v last
    same last n v e = grind (arith, nat_tests)

-- A coefficient.
pub plus_read : (old new : Option (List ℕ)) (c : ℕ) (rest : List ℕ) → c < 4096 → IsSomeAnd new (λ r. old ≡ Some (43 ∷ r)) →
    ((r : List ℕ) → old ≡ Some (43 ∷ r) → (true ≡ true) × (new ≡ Some r)) → old ≡ Some (coefficient_text c ++ rest) → (1 ≡ c) × (new ≡ Some rest)
plus_read old None c rest small took begins e = absurd took
plus_read old (Some r) c rest small took begins e = elim (eqb_tells c 1) [
  | inl t ↦ (sym t.1, (begins rest (rw t.0 at e)).1)
  | inr t ↦ (let f : old ≡ Some ((if c == 4095 then codes "-" else octal_text c) ++ rest) = rw t.0 at e in elim (eqb_tells c 4095) [
    | inl u ↦ (let g : old ≡ Some (45 ∷ rest) = rw u.0 at f in absurd (differ 45 43 refl (cc)))
    | inr u ↦ (let g : old ≡ Some (octal_text c ++ rest) = rw u.0 at f in absurd (let z : 48 + c / 512 ≡ 43 = cc in omega arith))
  ])
]

pub minus_read : (old mid new : Option (List ℕ)) (c : ℕ) (rest : List ℕ) → c < 4096 → mid ≡ old → ((r : List ℕ) → old ≡ Some (43 ∷ r) → (false ≡ true) × (mid ≡ Some r)) →
    IsSomeAnd new (λ r. mid ≡ Some (45 ∷ r)) →
    ((r : List ℕ) → mid ≡ Some (45 ∷ r) → (true ≡ true) × (new ≡ Some r)) → old ≡ Some (coefficient_text c ++ rest) → (4095 ≡ c) × (new ≡ Some rest)
minus_read old mid None c rest small same lacks took begins e = absurd took
minus_read old mid (Some r) c rest small same lacks took begins e = elim (eqb_tells c 1) [
  | inl t ↦ absurd (false≢true (lacks rest (rw t.0 at e)).0)
  | inr t ↦ (let f : mid ≡ Some ((if c == 4095 then codes "-" else octal_text c) ++ rest) = same ∙ (rw t.0 at e) in elim (eqb_tells c 4095) [
    | inl u ↦ (sym u.1, (begins rest (rw u.0 at f)).1)
    | inr u ↦ (let g : mid ≡ Some (octal_text c ++ rest) = rw u.0 at f in absurd (let z : 48 + c / 512 ≡ 45 = cc in omega arith))
  ])
]

-- Neither sign is next, so the coefficient has four digits.
pub digits_next : (old mid last : Option (List ℕ)) (c : ℕ) (rest : List ℕ) → mid ≡ old → ((r : List ℕ) → old ≡ Some (43 ∷ r) → (false ≡ true) × (mid ≡ Some r)) →
    last ≡ mid → ((r : List ℕ) → mid ≡ Some (45 ∷ r) → (false ≡ true) × (last ≡ Some r)) → old ≡ Some (coefficient_text c ++ rest) →
    last ≡ Some (octal_text c ++ rest)
digits_next old mid last c rest same lacks also none e = elim (eqb_tells c 1) [
  | inl t ↦ absurd (false≢true (lacks rest (rw t.0 at e)).0)
  | inr t ↦ (let f : mid ≡ Some ((if c == 4095 then codes "-" else octal_text c) ++ rest) = same ∙ (rw t.0 at e) in elim (eqb_tells c 4095) [
    | inl u ↦ absurd (false≢true (none rest (rw u.0 at f)).0)
    | inr u ↦ also ∙ (rw u.0 at f)
  ])
]

-- A coefficient with a sign is not spelled with digits.
pub no_sign : (old mid last : Option (List ℕ)) (c : ℕ) (rest : List ℕ) → mid ≡ old → ((r : List ℕ) → old ≡ Some (43 ∷ r) → (false ≡ true) × (mid ≡ Some r)) →
    last ≡ mid → ((r : List ℕ) → mid ≡ Some (45 ∷ r) → (false ≡ true) × (last ≡ Some r)) → old ≡ Some (coefficient_text c ++ rest) →
    ((c == 1) || (c == 4095)) ≡ false
no_sign old mid last c rest same lacks also none e = elim (eqb_tells c 1) [
  | inl t ↦ absurd (false≢true (lacks rest (rw t.0 at e)).0)
  | inr t ↦ (let f : mid ≡ Some ((if c == 4095 then codes "-" else octal_text c) ++ rest) = same ∙ (rw t.0 at e) in elim (eqb_tells c 4095) [
    | inl u ↦ absurd (false≢true (none rest (rw u.0 at f)).0)
    | inr u ↦ rw (t.0, u.0) refl
  ])
]

pub digits_are : (c : ℕ) → ((c == 1) || (c == 4095)) ≡ false → coefficient_text c ≡ octal_text c
digits_are c e = elim (cases_Bool (c == 1)) [
  | inl t ↦ absurd (true≢false (rw t at e))
  | inr t ↦ (let f : (c == 4095) ≡ false = rw t at e in rw (t, f) refl)
]

-- A sum as it is kept: a name, a term with its coefficient, and perhaps a cell with minus that coefficient.
pub record IsKept (s : Sum) : Type 0 where
  pub first : Location
  pub second : Summand
  pub third : Option ℕ
  pub is : s ≡ record { coefficient = 1; term = Holding first } ∷ second ∷ third_terms second.coefficient third
  pub place : place_of_name first < 4097
  pub term : is_term second.term ≡ true
  pub coefficient : second.coefficient < 4096
  pub cell : IfSome third (λ z. z < 4096)

summand_is : (s : Summand) (c : ℕ) (t : Term) → s.coefficient ≡ c → s.term ≡ t → s ≡ record { coefficient = c; term = t }
summand_is s c t e f = rw (sym e, sym f) refl

name_small : (n : Location) → is_term (Holding n) ≡ true → place_of_name n < 4097
name_small Ac h = omega arith
name_small (Cell a) h = let z : a < 4096 = ltb-true a 4096 h in omega arith

summand_parts : (s : Summand) → is_summand s ≡ true → (s.coefficient < 4096) × (is_term s.term ≡ true)
summand_parts s h = let p = and_parts (nat_lt s.coefficient 4096) _ h in (ltb-true s.coefficient 4096 p.0, p.1)

-- The numbers and the shape of a sum as it is kept.
pub shape_of : (s : Sum) → is_relation s ≡ true → (list_all is_summand s ≡ true) × (has_shape s ≡ true)
shape_of s h = let p = and_parts (nat_le 2 (length s)) _ h in let q = and_parts (list_all is_summand s) _ p.1 in let r = and_parts (has_shape s) _ q.1 in (q.0, r.0)

pair_kept : (x y : Summand) (t : Term) → x.term ≡ t → is_relation (x ∷ y ∷ []) ≡ true → IsKept (x ∷ y ∷ [])
pair_kept x y (Behind a k) e h =
    let p = and_parts (x.coefficient == 1) _ (shape_of (x ∷ y ∷ []) h).1 in absurd (false≢true (rw e at p.1))
pair_kept x y (Holding n) e h =
    let g = shape_of (x ∷ y ∷ []) h in
    let p = and_parts (x.coefficient == 1) _ g.1 in
    let one = and_parts (is_summand x) _ g.0 in
    let two = and_parts (is_summand y) _ one.1 in
    let a = summand_parts x one.0 in
    let b = summand_parts y two.0 in
    record {
      first = n;
      second = y;
      third = None;
      is = ap (λ (z : Summand). z ∷ y ∷ []) (summand_is x 1 (Holding n) (eqb-true x.coefficient 1 p.0) e);
      place = name_small n (rw e at a.1);
      term = b.1;
      coefficient = b.0;
      cell = tt;
    }

one_opposite : (c d : ℕ) → c ≡ 1 → (((c == 1) && (d == 4095)) || ((c == 4095) && (d == 1))) ≡ true → d ≡ 4095
one_opposite c d e h =
    let q : ((d == 4095) || false) ≡ true = rw e at h in
    eqb-true d 4095 (sym (or-false (d == 4095)) ∙ q)

other_opposite : (c d : ℕ) → (c == 1) ≡ false → (((c == 1) && (d == 4095)) || ((c == 4095) && (d == 1))) ≡ true → d ≡ minus 0 c
other_opposite c d e h =
    let q : ((c == 4095) && (d == 1)) ≡ true = rw e at h in
    let p = and_parts (c == 4095) (d == 1) q in
    rw (eqb-true c 4095 p.0) (eqb-true d 1 p.1)

opposite : (c d : ℕ) → (((c == 1) && (d == 4095)) || ((c == 4095) && (d == 1))) ≡ true → d ≡ minus 0 c
opposite c d h = elim (eqb_tells c 1) [ inl t ↦ rw t.1 (one_opposite c d t.1 h) | inr t ↦ other_opposite c d t.0 h ]

triple_kept : (x y u : Summand) (t w : Term) → x.term ≡ t → u.term ≡ w → is_relation (x ∷ y ∷ u ∷ []) ≡ true → IsKept (x ∷ y ∷ u ∷ [])
triple_kept x y u (Behind a k) w e f h = let p = and_parts (x.coefficient == 1) _ (shape_of (x ∷ y ∷ u ∷ []) h).1 in absurd (false≢true (rw e at p.1))
triple_kept x y u (Holding (Cell a)) w e f h = let p = and_parts (x.coefficient == 1) _ (shape_of (x ∷ y ∷ u ∷ []) h).1 in absurd (false≢true (rw e at p.1))
triple_kept x y u (Holding Ac) w e f h = go w f
  where
    g : (list_all is_summand (x ∷ y ∷ u ∷ []) ≡ true) × (has_shape (x ∷ y ∷ u ∷ []) ≡ true)
    g = shape_of (x ∷ y ∷ u ∷ []) h

    p : ((x.coefficient == 1) ≡ true) × (is_triple x.term y u ≡ true)
    p = and_parts (x.coefficient == 1) (is_triple x.term y u) g.1

    shape : (is_cell y.term && (is_cell u.term && (((y.coefficient == 1) && (u.coefficient == 4095)) || ((y.coefficient == 4095) && (u.coefficient == 1))))) ≡ true
    shape = rw e at p.1

    q : (is_cell u.term ≡ true) × ((((y.coefficient == 1) && (u.coefficient == 4095)) || ((y.coefficient == 4095) && (u.coefficient == 1))) ≡ true)
    q = and_parts (is_cell u.term) _ (and_parts (is_cell y.term) _ shape).1

    go : (w : Term) → u.term ≡ w → IsKept (x ∷ y ∷ u ∷ [])
    go (Behind b k) f = absurd (false≢true (rw f at q.0))
    go (Holding Ac) f = absurd (false≢true (rw f at q.0))
    go (Holding (Cell z)) f =
        let one = and_parts (is_summand x) _ g.0 in
        let two = and_parts (is_summand y) _ one.1 in
        let three = and_parts (is_summand u) _ two.1 in
        let b = summand_parts y two.0 in
        let d = summand_parts u three.0 in
        record {
          first = Ac;
          second = y;
          third = Some z;
          is = ap (λ (i : Summand). i ∷ y ∷ u ∷ []) (summand_is x 1 (Holding Ac) (eqb-true x.coefficient 1 p.0) e) ∙
              ap (λ (i : Summand). record { coefficient = 1; term = Holding Ac } ∷ y ∷ i ∷ []) (summand_is u (minus 0 y.coefficient) (Holding (Cell z)) (opposite y.coefficient u.coefficient q.1) f);
          place = omega arith;
          term = b.1;
          coefficient = b.0;
          cell = ltb-true z 4096 (rw f at d.1);
        }

pub is_kept : (s : Sum) → is_relation s ≡ true → IsKept s
is_kept [] h = absurd (false≢true h)
is_kept (x ∷ []) h = absurd (false≢true h)
is_kept (x ∷ y ∷ []) h = pair_kept x y x.term refl h
is_kept (x ∷ y ∷ u ∷ []) h = triple_kept x y u x.term u.term refl refl h
is_kept (x ∷ y ∷ u ∷ w ∷ s) h = absurd (false≢true (shape_of (x ∷ y ∷ u ∷ w ∷ s) h).1)

-- The text of a sum, field by field.
pub sum_fields : (s : Sum) (k : IsKept s) (rest : List ℕ) → sum_text s ++ codes " in " ++ rest ≡
    name_text k.first ++ (further_text k.second ++ (third_text k.second.coefficient k.third ++ codes " in " ++ rest))
sum_fields s k rest =
    ap (λ (x : Sum). sum_text x ++ codes " in " ++ rest) k.is ∙
    three (name_text k.first) (further_text k.second) (third_text k.second.coefficient k.third) (codes " in ") rest
  where
    three : (a b c d e : List ℕ) → (a ++ (b ++ c)) ++ d ++ e ≡ a ++ (b ++ (c ++ d ++ e))
    three a b c d e = simp append_assoc

-- A term: a name has no bracket before it.
no_bracket : (n : Location) (rest r : List ℕ) → place_of_name n < 4097 → name_text n ++ rest ≡ 91 ∷ r → ⊥
no_bracket Ac rest r small e = differ 65 91 refl (cc)
no_bracket (Cell a) rest r small e = let z : 48 + a / 512 ≡ 91 = cc in let s : a + 1 < 4097 = small in omega arith

pub told_name : (m : Location) (old mid new : Option (List ℕ)) → mid ≡ old → ((r : List ℕ) → old ≡ Some (91 ∷ r) → (false ≡ true) × (mid ≡ Some r)) →
    ((n : Location) (r : List ℕ) → place_of_name n < 4097 → mid ≡ Some (name_text n ++ r) → (m ≡ n) × (new ≡ Some r)) →
    (t : Term) (rest : List ℕ) → is_term t ≡ true → old ≡ Some (term_text t ++ rest) → (Holding m ≡ t) × (new ≡ Some rest)
told_name m old mid new same lacks only (Holding n) rest h e = let p = only n rest (name_small n h) (same ∙ e) in (ap Holding p.0, p.1)
told_name m old mid new same lacks only (Behind x k) rest h e = absurd (false≢true (lacks _ e).0)

pub told_behind : (x k : ℕ) (old a b c d last : Option (List ℕ)) → IsSomeAnd a (λ r. old ≡ Some (91 ∷ r)) → ((r : List ℕ) → old ≡ Some (91 ∷ r) → (true ≡ true) × (a ≡ Some r)) →
    ((w : ℕ) (r : List ℕ) → w < 4096 → a ≡ Some (octal_text w ++ r) → (x ≡ w) × (b ≡ Some r)) → ((r : List ℕ) → b ≡ Some (43 ∷ r) → c ≡ Some r) →
    ((w : ℕ) (r : List ℕ) → w < 4096 → c ≡ Some (octal_text w ++ r) → (k ≡ w) × (d ≡ Some r)) → ((r : List ℕ) → d ≡ Some (93 ∷ r) → last ≡ Some r) →
    (t : Term) (rest : List ℕ) → is_term t ≡ true → old ≡ Some (term_text t ++ rest) → (Behind x k ≡ t) × (last ≡ Some rest)
told_behind x k old None b c d last took begins first plus second close t rest h e = absurd took
told_behind x k old (Some y) b c d last took begins first plus second close (Holding n) rest h e =
    absurd (no_bracket n rest y (name_small n h) (let z : name_text n ++ rest ≡ 91 ∷ y = cc in z))
told_behind x k old (Some y) b c d last took begins first plus second close (Behind u w) rest h e =
    let p = and_parts (nat_lt u 4096) _ h in
    let one = first u (43 ∷ (octal_text w ++ 93 ∷ rest)) (ltb-true u 4096 p.0) (begins (octal_text u ++ 43 ∷ (octal_text w ++ 93 ∷ rest)) e).1 in
    let two = second w (93 ∷ rest) (ltb-true w 4096 p.1) (plus (octal_text w ++ 93 ∷ rest) one.1) in
    (rw (one.0, two.0) refl, close rest two.1)

-- What follows the second term: " in " is no text of a third one.
no_third : (c z : ℕ) (rest r : List ℕ) → third_text c (Some z) ++ codes " in " ++ rest ≡ codes " in " ++ r → ⊥
no_third c z rest r e = elim (eqb_tells (minus 0 c) 1) [
  | inl t ↦ (let f : 32 ∷ 43 ∷ (codes " " ++ octal_text z ++ [] ++ codes " in " ++ rest) ≡ codes " in " ++ r = rw t.0 at e in differ 43 105 refl (cc))
  | inr t ↦ elim (eqb_tells (minus 0 c) 4095) [
    | inl u ↦ (let f : 32 ∷ 45 ∷ (codes " " ++ octal_text z ++ [] ++ codes " in " ++ rest) ≡ codes " in " ++ r = rw (t.0, u.0) at e in differ 45 105 refl (cc))
    | inr u ↦ (let f : 32 ∷ (octal_text (minus 0 c) ++ codes " " ++ octal_text z ++ [] ++ codes " in " ++ rest) ≡ codes " in " ++ r = rw (t.0, u.0) at e in
        let z : 48 + minus 0 c / 512 ≡ 105 = cc in let s : minus 0 c < 4096 = minus_small c in omega arith)
  ]
]
  where
    minus_small : (c : ℕ) → minus 0 c < 4096
    minus_small c = omega arith

pub nothing_third : (c : ℕ) (old new : Option (List ℕ)) → ((r : List ℕ) → old ≡ Some (codes " in " ++ r) → (true ≡ true) × (new ≡ Some r)) →
    (cell : Option ℕ) (rest : List ℕ) → old ≡ Some (third_text c cell ++ codes " in " ++ rest) → IsSomeAnd new (λ r. old ≡ Some (codes " in " ++ r)) → (None ≡ cell) × (new ≡ Some rest)
nothing_third c old new begins None rest e took = (refl, (begins rest e).1)
nothing_third c old None begins (Some z) rest e took = absurd took
nothing_third c old (Some y) begins (Some z) rest e took = absurd (no_third c z rest y (let q : third_text c (Some z) ++ codes " in " ++ rest ≡ codes " in " ++ y = cc in q))

-- A third term was read.
pub third_read : (k z : ℕ) (s : Summand) (old new : Option (List ℕ)) → s ∷ [] ≡ third_terms k (Some z) →
    IfSome new (λ r. old ≡ Some (further_text s ++ codes " in " ++ r)) → IfSome new (λ r. old ≡ Some (third_text k (Some z) ++ codes " in " ++ r))
third_read k z s old new is h = let e : further_text s ≡ third_text k (Some z) = sym (append-nil (further_text s)) ∙ ap (flat_map further_text) is in
    subst (λ (x : List ℕ). IfSome new (λ r. old ≡ Some (x ++ codes " in " ++ r))) e h

pub no_cell : {X : Type 0} (k : ℕ) (s : Summand) (old a b : Option (List ℕ)) → a ≡ old →
    ((r : List ℕ) → old ≡ Some (codes " in " ++ r) → (false ≡ true) × (a ≡ Some r)) →
    ((t : Summand) (r : List ℕ) → is_term t.term ≡ true → t.coefficient < 4096 → a ≡ Some (further_text t ++ r) → (s ≡ t) × (b ≡ Some r)) →
    ((z : ℕ) → s ∷ [] ≡ third_terms k (Some z) → None ≡ Some z) →
    (cell : Option ℕ) (rest : List ℕ) → IfSome cell (λ z. z < 4096) → old ≡ Some (third_text k cell ++ codes " in " ++ rest) → X
no_cell k s old a b same lacks told is None rest small e = absurd (false≢true (lacks rest e).0)
no_cell k s old a b same lacks told is (Some z) rest small e =
    let t : Summand = record { coefficient = minus 0 k; term = Holding (Cell z) } in
    let f : a ≡ Some (further_text t ++ (codes " in " ++ rest)) =
    same ∙ (e ∙ ap (λ (x : List ℕ). Some x) (ap (λ (x : List ℕ). x ++ codes " in " ++ rest) (append-nil (further_text t)) ∙ append_assoc (further_text t) (codes " in ") rest)) in
    let p = told t (codes " in " ++ rest) (lt-ltb z 4096 small) (omega arith) f in
    absurd (let q : None ≡ Some z = is z (ap (λ (x : Summand). x ∷ []) p.0) in cc)

pub third_only : (k : ℕ) (found : Option ℕ) (s : Summand) (old a b new : Option (List ℕ)) → a ≡ old →
    ((r : List ℕ) → old ≡ Some (codes " in " ++ r) → (false ≡ true) × (a ≡ Some r)) →
    ((t : Summand) (r : List ℕ) → is_term t.term ≡ true → t.coefficient < 4096 → a ≡ Some (further_text t ++ r) → (s ≡ t) × (b ≡ Some r)) →
    ((r : List ℕ) → b ≡ Some (codes " in " ++ r) → new ≡ Some r) → ((z : ℕ) → s ∷ [] ≡ third_terms k (Some z) → found ≡ Some z) →
    (cell : Option ℕ) (rest : List ℕ) → IfSome cell (λ z. z < 4096) → old ≡ Some (third_text k cell ++ codes " in " ++ rest) → (found ≡ cell) × (new ≡ Some rest)
third_only k found s old a b new same lacks told skip is None rest small e = absurd (false≢true (lacks rest e).0)
third_only k found s old a b new same lacks told skip is (Some z) rest small e =
    let t : Summand = record { coefficient = minus 0 k; term = Holding (Cell z) } in
    let f : a ≡ Some (further_text t ++ (codes " in " ++ rest)) =
    same ∙ (e ∙ ap (λ (x : List ℕ). Some x) (ap (λ (x : List ℕ). x ++ codes " in " ++ rest) (append-nil (further_text t)) ∙ append_assoc (further_text t) (codes " in ") rest)) in
    let p = told t (codes " in " ++ rest) (lt-ltb z 4096 small) (omega arith) f in
    (is z (ap (λ (x : Summand). x ∷ []) p.0), skip rest p.1)

-- A sum by its fields.
pub sum_is : (n m : Location) (s t : Summand) (c d : Option ℕ) → n ≡ m → s ≡ t → c ≡ d →
    (let x : Sum = record { coefficient = 1; term = Holding n } ∷ s ∷ third_terms s.coefficient c in x) ≡ record { coefficient = 1; term = Holding m } ∷ t ∷ third_terms t.coefficient d
sum_is n m s t c d e f g = rw (e, f, g) refl

-- A step.
step_small : (w : ℕ) → is_step (Operates w) ≡ true → w < 3840
step_small w h = let p = and_parts (nat_le 3584 w) _ h in let q = and_parts (nat_le w 3839) _ p.1 in let z : w ≤ 3839 = leb-true w 3839 q.0 in omega (arith, z)

pub and_only : (x : ℕ) (old a new : Option (List ℕ)) → IsSomeAnd a (λ r. old ≡ Some (codes "AND " ++ r)) → ((r : List ℕ) → old ≡ Some (codes "AND " ++ r) → (true ≡ true) × (a ≡ Some r)) →
    ((w : ℕ) (r : List ℕ) → w < 4096 → a ≡ Some (octal_text w ++ r) → (x ≡ w) × (new ≡ Some r)) →
    (p : Step) (rest : List ℕ) → is_step p ≡ true → old ≡ Some (step_rest p ++ rest) → (Ands x ≡ p) × (new ≡ Some rest)
and_only x old None new took begins word p rest h e = absurd took
and_only x old (Some y) new took begins word (Ands w) rest h e =
    let q = word w rest (ltb-true w 4096 h) (begins (octal_text w ++ rest) e).1 in (ap Ands q.0, q.1)
and_only x old (Some y) new took begins word (Adds w) rest h e = absurd (differ 84 65 refl (cc))
and_only x old (Some y) new took begins word (Operates w) rest h e =
    absurd (let z : 48 + w / 512 ≡ 65 = cc in let s = step_small w h in omega (arith, s))

pub add_only : (x : ℕ) (old mid a new : Option (List ℕ)) → mid ≡ old → ((r : List ℕ) → old ≡ Some (codes "AND " ++ r) → (false ≡ true) × (mid ≡ Some r)) →
    IsSomeAnd a (λ r. mid ≡ Some (codes "TAD " ++ r)) → ((r : List ℕ) → mid ≡ Some (codes "TAD " ++ r) → (true ≡ true) × (a ≡ Some r)) →
    ((w : ℕ) (r : List ℕ) → w < 4096 → a ≡ Some (octal_text w ++ r) → (x ≡ w) × (new ≡ Some r)) →
    (p : Step) (rest : List ℕ) → is_step p ≡ true → old ≡ Some (step_rest p ++ rest) → (Adds x ≡ p) × (new ≡ Some rest)
add_only x old mid None new same lacks took begins word p rest h e = absurd took
add_only x old mid (Some y) new same lacks took begins word (Ands w) rest h e = absurd (false≢true (lacks (octal_text w ++ rest) e).0)
add_only x old mid (Some y) new same lacks took begins word (Adds w) rest h e =
    let q = word w rest (ltb-true w 4096 h) (begins (octal_text w ++ rest) (same ∙ e)).1 in (ap Adds q.0, q.1)
add_only x old mid (Some y) new same lacks took begins word (Operates w) rest h e =
    let f : mid ≡ Some (octal_text w ++ rest) = same ∙ e in absurd (let z : 48 + w / 512 ≡ 84 = cc in let s = step_small w h in omega (arith, s))

pub operate_only : (x : ℕ) (old mid a new : Option (List ℕ)) → mid ≡ old → ((r : List ℕ) → old ≡ Some (codes "AND " ++ r) → (false ≡ true) × (mid ≡ Some r)) →
    a ≡ mid → ((r : List ℕ) → mid ≡ Some (codes "TAD " ++ r) → (false ≡ true) × (a ≡ Some r)) →
    ((w : ℕ) (r : List ℕ) → w < 4096 → a ≡ Some (octal_text w ++ r) → (x ≡ w) × (new ≡ Some r)) →
    (p : Step) (rest : List ℕ) → is_step p ≡ true → old ≡ Some (step_rest p ++ rest) → (Operates x ≡ p) × (new ≡ Some rest)
operate_only x old mid a new same lacks also none word (Ands w) rest h e = absurd (false≢true (lacks (octal_text w ++ rest) e).0)
operate_only x old mid a new same lacks also none word (Adds w) rest h e = absurd (false≢true (none (octal_text w ++ rest) (same ∙ e)).0)
operate_only x old mid a new same lacks also none word (Operates w) rest h e =
    let s = step_small w h in let q = word w rest (omega (arith, s)) (also ∙ (same ∙ e)) in (ap Operates q.0, q.1)

-- Steps read one after another.
pub record StepsRead (old now : Option (List ℕ)) (told : List Step) : Type 0 where
  pub read : IfSome now (λ r. old ≡ Some (flat_map step_text told ++ r))
  pub form : IfSome now (λ r. list_all is_step told ≡ true)
  pub only : (ps : List Step) → list_all is_step ps ≡ true → old ≡ Some (flat_map step_text ps) → (rest : List Step) × (ps ≡ told ++ rest) × (now ≡ Some (flat_map step_text rest))

pub no_steps : (old : Option (List ℕ)) → StepsRead old old []
no_steps old = record { read = reads old; form = formed old; only = λ ps h e. (ps, refl, e) }
  where
    reads : (o : Option (List ℕ)) → IfSome o (λ r. o ≡ Some r)
    reads None = tt
    reads (Some r) = refl

    formed : (o : Option (List ℕ)) → IfSome o (λ r. true ≡ true)
    formed None = tt
    formed (Some r) = refl

step_spaced : (p : Step) → step_text p ≡ 32 ∷ step_rest p
step_spaced (Operates w) = refl
step_spaced (Ands w) = refl
step_spaced (Adds w) = refl

steps_push : (told : List Step) (p : Step) → flat_map step_text (told ++ p ∷ []) ≡ flat_map step_text told ++ step_text p
steps_push told p = flat_map-append step_text told (p ∷ []) ∙ ap (λ (x : List ℕ). flat_map step_text told ++ x) (append-nil (step_text p))

form_push : (told : List Step) (p : Step) → list_all is_step told ≡ true → is_step p ≡ true → list_all is_step (told ++ p ∷ []) ≡ true
form_push [] p h g = rw g refl
form_push (x ∷ told) p h g = let q = and_parts (is_step x) _ h in rw q.0 (form_push told p q.1 g)

form_of : (told rest : List Step) → list_all is_step (told ++ rest) ≡ true → list_all is_step rest ≡ true
form_of [] rest h = h
form_of (x ∷ told) rest h = form_of told rest (and_parts (is_step x) _ h).1

pub step_more : (old now a new : Option (List ℕ)) (told : List Step) (p : Step) → StepsRead old now told → IsSomeAnd a (λ r. now ≡ Some (32 ∷ r)) →
    ((r : List ℕ) → now ≡ Some (32 ∷ r) → (true ≡ true) × (a ≡ Some r)) → IfSome new (λ r. is_step p ≡ true) → IfSome new (λ r. a ≡ Some (step_rest p ++ r)) →
    ((q : Step) (r : List ℕ) → is_step q ≡ true → a ≡ Some (step_rest q ++ r) → (p ≡ q) × (new ≡ Some r)) → StepsRead old new (told ++ p ∷ [])
step_more old now None new told p h took begins form read only = absurd took
step_more old now (Some y) new told p h took begins form read only = record { read = reads new read; form = formed new form read; only = went }
  where
    before : old ≡ Some (flat_map step_text told ++ 32 ∷ y)
    before = at_some (λ r. old ≡ Some (flat_map step_text told ++ r)) now (32 ∷ y) h.read took

    reads : (o : Option (List ℕ)) → IfSome o (λ r. Some y ≡ Some (step_rest p ++ r)) → IfSome o (λ r. old ≡ Some (flat_map step_text (told ++ p ∷ []) ++ r))
    reads None e = tt
    reads (Some r) e =
        let f : y ≡ step_rest p ++ r = cc in
        before ∙ ap (λ (x : List ℕ). Some x) (ap (λ (x : List ℕ). flat_map step_text told ++ 32 ∷ x) f ∙
        (ap (λ (x : List ℕ). flat_map step_text told ++ (x ++ r)) (sym (step_spaced p)) ∙
        (sym (append_assoc (flat_map step_text told) (step_text p) r) ∙ ap (λ (x : List ℕ). x ++ r) (sym (steps_push told p)))))

    formed : (o : Option (List ℕ)) → IfSome o (λ r. is_step p ≡ true) → IfSome o (λ r. Some y ≡ Some (step_rest p ++ r)) → IfSome o (λ r. list_all is_step (told ++ p ∷ []) ≡ true)
    formed None f e = tt
    formed (Some r) f e = form_push told p (at_some (λ r. list_all is_step told ≡ true) now (32 ∷ y) h.form took) f

    went : (ps : List Step) → list_all is_step ps ≡ true → old ≡ Some (flat_map step_text ps) →
        (rest : List Step) × (ps ≡ (told ++ p ∷ []) ++ rest) × (new ≡ Some (flat_map step_text rest))
    went ps f e = let w = h.only ps f e in go w.0 w.1 w.2
      where
        go : (rest : List Step) → ps ≡ told ++ rest → now ≡ Some (flat_map step_text rest) → (others : List Step) × (ps ≡ (told ++ p ∷ []) ++ others) × (new ≡ Some (flat_map step_text others))
        go [] is left = absurd (let z : 32 ∷ y ≡ [] = cc in let q : length (32 ∷ y) ≡ 0 = ap length z in omega (arith, q))
        go (q ∷ qs) is left =
            let g : now ≡ Some (32 ∷ (step_rest q ++ flat_map step_text qs)) = left ∙ ap (λ (x : List ℕ). Some (x ++ flat_map step_text qs)) (step_spaced q) in
            let all : list_all is_step (q ∷ qs) ≡ true = form_of told (q ∷ qs) (rw is at f) in
            let s = only q (flat_map step_text qs) (and_parts (is_step q) _ all).0 (begins (step_rest q ++ flat_map step_text qs) g).1 in
            (qs, is ∙ (ap (λ (x : Step). told ++ x ∷ qs) (sym s.0) ∙ sym (append_assoc told (p ∷ []) qs)), s.1)

-- No further step is next.
pub steps_end : (old now a : Option (List ℕ)) (told : List Step) → StepsRead old now told → a ≡ now → ((r : List ℕ) → now ≡ Some (32 ∷ r) → (false ≡ true) × (a ≡ Some r)) →
    (ps : List Step) → list_all is_step ps ≡ true → old ≡ Some (flat_map step_text ps) → (ps ≡ told) × (a ≡ Some [])
steps_end old now a told h same none ps f e = let w = h.only ps f e in go w.0 w.1 w.2
  where
    go : (rest : List Step) → ps ≡ told ++ rest → now ≡ Some (flat_map step_text rest) → (ps ≡ told) × (a ≡ Some [])
    go [] is left = (is ∙ append-nil told, same ∙ left)
    go (q ∷ qs) is left = absurd (false≢true (none (step_rest q ++ flat_map step_text qs) (left ∙ ap (λ (x : List ℕ). Some (x ++ flat_map step_text qs)) (step_spaced q))).0)

-- There was no room for a step.
pub too_many : (old now a : Option (List ℕ)) (told : List Step) → StepsRead old now told → IsSomeAnd a (λ r. now ≡ Some (32 ∷ r)) → length told ≡ 16 →
    (ps : List Step) → list_all is_step ps ≡ true → length ps ≤ 16 → old ≡ Some (flat_map step_text ps) → ⊥
too_many old now None told h took full ps f few e = took
too_many old now (Some y) told h took full ps f few e = let w = h.only ps f e in go w.0 w.1 w.2
  where
    go : (rest : List Step) → ps ≡ told ++ rest → now ≡ Some (flat_map step_text rest) → ⊥
    go [] is left = let z : 32 ∷ y ≡ [] = cc in let q : length (32 ∷ y) ≡ 0 = ap length z in omega (arith, q)
    go (q ∷ qs) is left = let z : length ps ≡ length (told ++ q ∷ qs) = ap length is in omega (arith, z, few, full, length-append told (q ∷ qs))

pub summand_made : (s : Summand) (c : ℕ) (t : Term) → c ≡ s.coefficient → t ≡ s.term → (let x : Summand = record { coefficient = c; term = t } in x) ≡ s
summand_made s c t e f = rw (e, f) refl

pub further_fields : (s : Summand) (rest : List ℕ) → further_text s ++ rest ≡ codes " " ++ (coefficient_text s.coefficient ++ (codes " " ++ (term_text s.term ++ rest)))
further_fields s rest = four (codes " ") (coefficient_text s.coefficient) (codes " ") (term_text s.term) rest
  where
    four : (a b c d e : List ℕ) → (a ++ b ++ c ++ d) ++ e ≡ a ++ (b ++ (c ++ (d ++ e)))
    four a b c d e = simp append_assoc

pub same_coefficient : (s t : Summand) (c : Option ℕ) (rest : List ℕ) → s ≡ t →
    Some (third_text t.coefficient c ++ codes " in " ++ rest) ≡ Some (third_text s.coefficient c ++ codes " in " ++ rest)
same_coefficient s t c rest e = rw e refl

pub steps_shorter : (now a new : Option (List ℕ)) (p : Step) → IsSomeAnd a (λ r. now ≡ Some (32 ∷ r)) → IfSome new (λ r. a ≡ Some (step_rest p ++ r)) → how_long new < how_long now
steps_shorter now None new p took read = absurd took
steps_shorter None (Some y) new p took read = absurd (cc)
steps_shorter (Some x) (Some y) None p took read = omega arith
steps_shorter (Some x) (Some y) (Some r) p took read =
    let e : x ≡ 32 ∷ y = cc in
    let f : y ≡ step_rest p ++ r = cc in
    let g : length x ≡ suc (length y) = ap length e in
    let k : length y ≡ length (step_rest p ++ r) = ap length f in
    omega (arith, g, k, length-append (step_rest p) r)

-- A packed sum has two terms or three.
pub no_words : (x y : Summand) (c : ℕ) (t : Option ℕ) → list_all is_summand (x ∷ y ∷ third_terms c t) ≡ false → is_relation (x ∷ y ∷ third_terms c t) ≡ false
no_words x y c None e = ap (λ b. b && (has_shape (x ∷ y ∷ []) && same_sum (arranged (x ∷ y ∷ [])) (x ∷ y ∷ []))) e
no_words x y c (Some z) e = ap (λ b. b && (has_shape (x ∷ y ∷ third_terms c (Some z)) && same_sum (arranged (x ∷ y ∷ third_terms c (Some z))) (x ∷ y ∷ third_terms c (Some z)))) e

pub of_words : (x y : Summand) (c : ℕ) (t : Option ℕ) → list_all is_summand (x ∷ y ∷ third_terms c t) ≡ true →
    is_relation (x ∷ y ∷ third_terms c t) ≡ (has_shape (x ∷ y ∷ third_terms c t) && same_sum (arranged (x ∷ y ∷ third_terms c t)) (x ∷ y ∷ third_terms c t))
of_words x y c None e = ap (λ b. b && (has_shape (x ∷ y ∷ []) && same_sum (arranged (x ∷ y ∷ [])) (x ∷ y ∷ []))) e
of_words x y c (Some z) e = ap (λ b. b && (has_shape (x ∷ y ∷ third_terms c (Some z)) && same_sum (arranged (x ∷ y ∷ third_terms c (Some z))) (x ∷ y ∷ third_terms c (Some z)))) e

-- A sum that is packed.
module _ (s : Sum) (k : IsKept s) (n : Location) (a t : Summand) (e : a ≡ summand_at s 0) (f : n ≡ name_of_term a.term) (g : t ≡ summand_at s 1) where
  name_is : n ≡ k.first
  name_is = f ∙ (ap (λ (x : Summand). name_of_term x.term) e ∙ ap (λ (x : Sum). name_of_term (summand_at x 0).term) k.is)

  second_is : t ≡ k.second
  second_is = g ∙ ap (λ (x : Sum). summand_at x 1) k.is

  pub pair_packed : length s ≡ 2 → (let x : Sum = record { coefficient = 1; term = Holding n } ∷ t ∷ third_terms t.coefficient None in x) ≡ s
  pair_packed two = go k.third k.is
    where
      go : (third : Option ℕ) → s ≡ record { coefficient = 1; term = Holding k.first } ∷ k.second ∷ third_terms k.second.coefficient third →
          (let x : Sum = record { coefficient = 1; term = Holding n } ∷ t ∷ third_terms t.coefficient None in x) ≡ s
      go None is = sum_is n k.first t k.second None None name_is second_is refl ∙ sym is
      go (Some z) is = absurd (let q : length s ≡ 3 = ap length is in omega (arith, q, two))

  module _ (b : Summand) (m : Location) (h : b ≡ summand_at s 2) (i : m ≡ name_of_term b.term) (more : length s ≡ 2 → ⊥) where
    third_is : (third : Option ℕ) → s ≡ record { coefficient = 1; term = Holding k.first } ∷ k.second ∷ third_terms k.second.coefficient third →
        (y : ℕ) × (third ≡ Some y) × (m ≡ Cell y)
    third_is None is = absurd (more (ap length is))
    third_is (Some y) is = (y, refl, i ∙ (ap (λ (x : Summand). name_of_term x.term) h ∙ ap (λ (x : Sum). name_of_term (summand_at x 2).term) is))

    pub triple_packed : (z : ℕ) → m ≡ Cell z → (let x : Sum = record { coefficient = 1; term = Holding n } ∷ t ∷ third_terms t.coefficient (Some z) in x) ≡ s
    triple_packed z q =
        let y = third_is k.third k.is in
        let same : Cell z ≡ Cell y.0 = sym q ∙ y.2 in
        let w : z ≡ y.0 = cc in
        sum_is n k.first t k.second (Some z) k.third name_is second_is (ap (λ (x : ℕ). Some x) w ∙ sym y.1) ∙ sym k.is

    pub no_accumulator : {X : Type 0} → m ≡ Ac → X
    no_accumulator q = let y = third_is k.third k.is in absurd (let same : Ac ≡ Cell y.0 = sym q ∙ y.2 in cc)

pub two_or_more : (s : Sum) → is_relation s ≡ true → 2 ≤ length s
two_or_more s h = let p = and_parts (nat_le 2 (length s)) _ h in leb-true 2 (length s) p.0

-- Without a step there is no chain.
pub none_kept : {X : Type 0} (ps : List Step) (xs : List KeptStep) → 1 ≤ length ps → ps ≡ map step_of xs → true ≡ (length xs == 0) → X
none_kept ps xs some e none =
    let z : length ps ≡ length (map step_of xs) = ap length e in
    let y : length xs ≡ 0 = eqb-true (length xs) 0 (sym none) in absurd (omega (arith, z, y, some, length-map xs step_of))

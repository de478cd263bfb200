-- A line is read from its text.
use Rattle.std.proofs.Common.{◌≡◌, ℕ, zero, suc, ◌+◌, ◌<◌, ◌≤◌, ◌==◌, Bool, true, false, ◌&&◌, ◌||◌, List, [], ◌∷◌, ◌++◌, map, refl, ap, ◌∙◌, sym, inl, inr, arith, append-nil}
use Rattle.std.specs.Prelude.{if◌then◌else◌, codes, nat_lt, not}
use Rattle.std.specs.List.{slice_split, onto_first, list_any}
use Rattle.std.specs.Str.{bytes_eq}
use Rattle.std.proofs.Math.Bool.{or-false}
use Rattle.std.proofs.Math.Path.{fun_ext}
use Rattle.std.proofs.lemmas.Bool.{true≢false, ne_eqb, eq-eqb, cases_lt, cases_Bool, lt-ltb, le-ltb}
use Rattle.std.proofs.lemmas.Bool.Decides.{eqb_tells}
use Rattle.std.proofs.lemmas.List.Splits.{slice_split-cons_yes, slice_split-cons_no}
use Rattle.std.proofs.lemmas.List.Folds.{list_any-append}
use Rattle.std.proofs.lemmas.Slice.Eq.{bytes_eq-Decides}
use Rattle.word12.specs.Words.{octal_text}
use Rattle.word12.specs.Octal.{octal_value}
use Rattle.wordset.specs.Words.{Words, nothing, between, some_below}
use Rattle.domain.specs.Locations.{Location, Ac, Cell}
use Rattle.certificate_lines.specs.declared.runs.Run.{Run}
use Rattle.certificate_lines.specs.FieldSpelling.{Registers, digits, numbers_text, set_text, offsets_text, name_text, rank_text}
use Rattle.certificate_lines.specs.RisingLists.{Each, EndsBefore, IsOfLinks}
use Rattle.certificate_lines.specs.FieldsLeft.{run_text}
use Rattle.certificate_lines.specs.Runs.{joined, StandApart}
use Rattle.certificate_lines.specs.LineWords.{run_of, set_of, has_digit, offsets_in, links_in}
use Rattle.certificate_lines.proofs.ApartLemmas.{more_text, runs_text, AllBelow, first_or}
use Rattle.certificate_lines.proofs.PackedLemmas.{or_with}
use Rattle.certificate_lines.proofs.SetLemmas.{RunsOf, by_words, empty_text}
use Rattle.certificate_lines.proofs.RunLemmas.{first_digit}
use Rattle.certificate_lines.proofs.DigitLemmas.{by_offsets, some_offsets, no_offsets}
use Rattle.certificate_lines.proofs.TextLemmas.{each_append}

-- Lists in pieces.
pub split_at : {X : Type 0} (p : X → Bool) (xs : List X) (y : X) (ys : List X) → Each (λ x. p x ≡ false) xs → p y ≡ true →
    slice_split p (xs ++ y ∷ ys) ≡ xs ∷ slice_split p ys
split_at p [] y ys h e = slice_split-cons_yes p y ys e
split_at p (x ∷ xs) y ys h e = slice_split-cons_no p x (xs ++ y ∷ ys) h.0 ∙ ap (onto_first x) (split_at p xs y ys h.1 e)

pub split_none : {X : Type 0} (p : X → Bool) (xs : List X) → Each (λ x. p x ≡ false) xs → slice_split p xs ≡ xs ∷ []
split_none p [] h = refl
split_none p (x ∷ xs) h = slice_split-cons_no p x xs h.0 ∙ ap (onto_first x) (split_none p xs h.1)

-- Bytes that are all above another one, as fields are above a space, and runs above a comma.
abbrev pub Above : ℕ → List ℕ → Type 0
Above k xs = Each (λ c. k < c) xs

pub apart : (k b : ℕ) (xs : List ℕ) → b ≤ k → Above k xs → Each (λ c. (c == b) ≡ false) xs
apart k b [] le h = tt
apart k b (x ∷ xs) le h = (let z : k < x = h.0 in ne_eqb x b (λ e. omega arith), apart k b xs le h.1)

pub lower : (xs : List ℕ) → Above 44 xs → Above 43 xs
lower [] h = tt
lower (x ∷ xs) h = (let z : 44 < x = h.0 in omega arith, lower xs h.1)

pub either : (k : ℕ) (b : Bool) (xs ys : List ℕ) → Above k xs → Above k ys → Above k (if b then xs else ys)
either k true xs ys f g = f
either k false xs ys f g = g

pub octal_above : (n : ℕ) → Above 44 (octal_text n)
octal_above n = (omega arith, (omega arith, (omega arith, (omega arith, tt))))

run_above : (text : ℕ → List ℕ) → ((n : ℕ) → Above 44 (text n)) → (low high : ℕ) → Above 44 (run_text text low high)
run_above text above low high =
    each_append (λ c. 44 < c) (text low) _ (above low) (either 44 (low == high) [] (codes "-" ++ text high) tt (omega arith, above high))

more_above : (text : ℕ → List ℕ) → ((n : ℕ) → Above 44 (text n)) → (rs : List Run) → Above 43 (more_text text rs)
more_above text above [] = tt
more_above text above (r ∷ rs) = (
  omega arith,
  each_append (λ c. 43 < c) (run_text text r.first r.last) (more_text text rs) (lower (run_text text r.first r.last) (run_above text above r.first r.last))
      (more_above text above rs),
)

pub runs_above : (text : ℕ → List ℕ) → ((n : ℕ) → Above 44 (text n)) → (rs : List Run) → Above 43 (runs_text text rs)
runs_above text above [] = tt
runs_above text above (r ∷ rs) = (more_above text above (r ∷ rs)).1

pub set_above : (s : Words) → Above 43 (set_text s)
set_above s = elim (by_words s) [
  | inl f ↦ rw f.text_is (runs_above octal_text octal_above (f.first ∷ f.more))
  | inr empty ↦ rw (empty_text s empty) (omega arith, tt)
]

pub digits_above : (n : ℕ) (s : Words) → Above 44 (digits n s)
unfolding digits
digits_above zero s = tt
digits_above (suc n) s =
    each_append (λ c. 44 < c) (digits n s) _ (digits_above n s) (either 44 (s n) ((48 + n) ∷ []) [] (omega arith, tt) tt)

pub offsets_above : (s : Words) → Above 44 (offsets_text s)
offsets_above s = either 44 (some_below 8 s) (digits 8 s) (codes "-") (digits_above 8 s) (omega arith, tt)

pub name_above : (n : Location) → Above 44 (name_text n)
name_above Ac = (omega arith, (omega arith, tt))
name_above (Cell a) = octal_above a

-- Numbers.
pub octal_back : (n : ℕ) → n < 4096 → octal_value (octal_text n) ≡ n
octal_back n h = omega arith

pub rank_back : (n : ℕ) → n < 64 → octal_value (rank_text n) ≡ n
rank_back n h = omega arith

pub digit_back : (n : ℕ) → octal_value ((48 + n) ∷ []) ≡ n
digit_back n = omega arith

-- Sets. Numbers below `most` are spelled so: each byte is above a comma, and a run is read as it is.
pub record IsSpelled (text : ℕ → List ℕ) (count most : ℕ) : Type 0 where
  pub above : (n : ℕ) → Above 44 (text n)
  pub run : (low high a : ℕ) → low ≤ high → high < most → run_of count (run_text text low high) a ≡ between low high a

pub ends_are : (x y low high a : ℕ) → x ≡ low → y ≡ high → between x y a ≡ between low high a
ends_are x y low high a e f = rw (e, f) refl

run_back : (low high a : ℕ) → low ≤ high → high < 4096 → run_of 4 (run_text octal_text low high) a ≡ between low high a
run_back low high a order small = elim (eqb_tells low high) [
  | inl e ↦ rw e.0 (ends_are _ _ low high a (octal_back low (omega arith)) (octal_back low (omega arith) ∙ e.1))
  | inr e ↦ rw e.0 (ends_are _ _ low high a (octal_back low (omega arith)) (octal_back high small))
]

abbrev text_of : (ℕ → List ℕ) → Run → List ℕ
text_of text r = run_text text r.first r.last

runs_split : (text : ℕ → List ℕ) → ((n : ℕ) → Above 44 (text n)) → (r : Run) (rs : List Run) →
    slice_split (λ c. c == 44) (runs_text text (r ∷ rs)) ≡ map (text_of text) (r ∷ rs)
runs_split text above r [] =
    ap (slice_split (λ c. c == 44)) (append-nil (text_of text r)) ∙
    split_none (λ c. c == 44) (text_of text r) (apart 44 44 (text_of text r) (omega arith) (run_above text above r.first r.last))
runs_split text above r (t ∷ ts) =
    split_at (λ c. c == 44) (text_of text r) 44 (runs_text text (t ∷ ts)) (apart 44 44 (text_of text r) (omega arith) (run_above text above r.first r.last)) refl ∙
    ap (λ (x : List (List ℕ)). text_of text r ∷ x) (runs_split text above t ts)

runs_back : (text : ℕ → List ℕ) (count most : ℕ) → IsSpelled text count most → (n a : ℕ) (rs : List Run) → StandApart n rs → AllBelow most rs →
    list_any (λ t. run_of count t a) (map (text_of text) rs) ≡ joined nothing rs a
runs_back text count most k n a [] h small = refl
runs_back text count most k n a (r ∷ rs) h small =
    or_with _ _ _ _ (k.run r.first r.last a h.1 small.0) (runs_back text count most k (r.last + 2) a rs h.3 small.1) ∙ sym (first_or r rs a)

pub other_text : (xs ys : List ℕ) → (xs ≡ ys → ⊥) → bytes_eq xs ys ≡ false
other_text xs ys other = elim (cases_Bool (bytes_eq xs ys)) [
  | inl e ↦ absurd (other ((bytes_eq-Decides xs ys).0 e))
  | inr e ↦ e
]

-- The text of a set with runs is read as the set.
pub numbers_back : (text : ℕ → List ℕ) (count most : ℕ) → IsSpelled text count most → (s : Words) (r : RunsOf text most s) → (numbers_text text most s ≡ codes "-" → ⊥) →
    (a : ℕ) → a < 4096 → (not (bytes_eq (numbers_text text most s) (codes "-")) &&
    list_any (λ t. run_of count t a) (slice_split (λ c. c == 44) (numbers_text text most s))) ≡ s a
numbers_back text count most k s r other a small =
    rw (other_text (numbers_text text most s) (codes "-") other)
    (ap (λ (x : List ℕ). list_any (λ t. run_of count t a) (slice_split (λ c. c == 44) x)) r.text_is ∙
    (ap (λ (x : List (List ℕ)). list_any (λ t. run_of count t a) x) (runs_split text k.above r.first r.more) ∙
    (runs_back text count most k 0 a (r.first ∷ r.more) r.apart r.below ∙ sym (r.same a small))))

pub set_back : (s : Words) → EndsBefore 4096 s → set_of (set_text s) ≡ s
set_back s end = fun_ext (λ a. elim (cases_lt a 4096) [
  | inl small ↦ rw (lt-ltb a 4096 small) (elim (by_words s) [
    | inl r ↦ numbers_back octal_text 4 4096 (record { above = octal_above; run = run_back }) s r (λ e. first_digit s r [] [] (append-nil (set_text s) ∙ e)) a small
    | inr none ↦ rw (empty_text s none) (sym (none a small))
  ])
  | inr past ↦ rw (le-ltb a 4096 past) (sym (end a past))
])

-- Digits.
at_digit : (s : Words) (n d : ℕ) → has_digit (if s n then (48 + n) ∷ [] else []) d ≡ (n == d && s n)
at_digit s n d = elim (cases_Bool (s n)) [
  | inl e ↦ rw e (elim (eqb_tells n d) [
    | inl t ↦ rw (t.0, eq-eqb (48 + n) (48 + d) (let z : n ≡ d = t.1 in omega arith)) refl
    | inr t ↦ rw (t.0, ne_eqb (48 + n) (48 + d) (λ z. t.1 (omega arith))) refl
  ])
  | inr e ↦ rw e (elim (eqb_tells n d) [ inl t ↦ rw t.0 refl | inr t ↦ rw t.0 refl ])
]

digits_have : (n d : ℕ) (s : Words) → has_digit (digits n s) d ≡ (nat_lt d n && s d)
unfolding digits
digits_have zero d s = rw (le-ltb d zero (omega arith)) refl
digits_have (suc n) d s =
    list_any-append (λ c. c == 48 + d) (digits n s) (if s n then (48 + n) ∷ [] else []) ∙
    (or_with _ _ _ _ (digits_have n d s) (at_digit s n d) ∙ told)
  where
    told : ((nat_lt d n && s d) || (n == d && s n)) ≡ (nat_lt d (suc n) && s d)
    told = elim (cases_lt d n) [
      | inl below ↦ rw (lt-ltb d n below, lt-ltb d (suc n) (omega arith), ne_eqb n d (λ z. omega arith)) (or-false (s d))
      | inr past ↦ elim (eqb_tells n d) [
        | inl t ↦ (let z : n ≡ d = t.1 in rw (le-ltb d n past, lt-ltb d (suc n) (omega arith), t.0) (ap s t.1))
        | inr t ↦ (let z : n ≡ d → ⊥ = t.1 in rw (le-ltb d n past, le-ltb d (suc n) (omega arith), t.0) refl)
      ]
    ]

pub offsets_back : (s : Words) → EndsBefore 8 s → offsets_in (offsets_text s) ≡ s
offsets_back s end = fun_ext (λ o. elim (cases_lt o 8) [
  | inl small ↦ rw (lt-ltb o 8 small) (elim (by_offsets s) [
    | inl some ↦ rw (some_offsets s some) (digits_have 8 o s ∙ rw (lt-ltb o 8 small) refl)
    | inr none ↦ rw (no_offsets s none, ne_eqb 45 (48 + o) (λ z. omega arith)) (sym (none o small))
  ])
  | inr past ↦ rw (le-ltb o 8 past) (sym (end o past))
])

pub links_back : (s : Words) → IsOfLinks s → links_in (digits 2 s) ≡ s
links_back s h = rw (digits_have 2 0 s, digits_have 2 1 s) (sym h)

pub literal : (w : List ℕ) → list_any (λ c. nat_lt c 44) w ≡ false → Above 43 w
literal [] e = tt
literal (c ∷ cs) e = elim (cases_lt c 44) [
  | inl small ↦ absurd (true≢false (rw (lt-ltb c 44 small) at e))
  | inr big ↦ (omega arith, literal cs (rw (le-ltb c 44 big) at e))
]

pub registers_are : (a b m n k l : Words) → a ≡ b → m ≡ n → k ≡ l → (let x : Registers = record { ac = a; mq = m; link = k } in x) ≡ record { ac = b; mq = n; link = l }
registers_are a b m n k l e f g = rw (e, f, g) refl

-- What is read as a line ends its sets.
pub set_ends : (w : List ℕ) → EndsBefore 4096 (set_of w)
set_ends w v past = rw (le-ltb v 4096 past) refl

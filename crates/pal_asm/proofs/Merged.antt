-- Words that are in order, given to lines in one pass, are given to the lines on which they stand.
use Rattle.std.proofs.Common.{◌≡◌, ◌∙◌, sym, ap, refl, ◌<◌, ◌≤◌, List, [], ◌∷◌, ◌++◌, true, false, ◌||◌, ◌&&◌, arith, inl, inr, ◌⊎◌}
use Rattle.std.specs.Prelude.{filter, nat_eq, nat_lt}
use Rattle.std.proofs.lemmas.Bool.{cond-true, cond-false, cases_order, cond_both, lt-ltb, le-ltb, eq-eqb, ne_eqb}
use Rattle.pal_text.specs.Characters.{characters}
use Rattle.pal_acts.specs.declared.act.SourcePlace.{SourcePlace}
use Rattle.pal_acts.specs.declared.act.PlacedWord.{PlacedWord}
use Rattle.pal_asm.specs.Sources.{TextLine}
use Rattle.pal_asm.specs.Listings.{is_at, line_text, without_front, lines_text}
use Rattle.pal_asm.specs.SourceInCode.{is_before, skip, next_at, after_those, turns_text}

abbrev pub Upto : SourcePlace → SourcePlace → Type 0
Upto p q = (p.part < q.part) ⊎ ((p.part ≡ q.part) × (p.line ≤ q.line))

abbrev pub Strict : SourcePlace → SourcePlace → Type 0
Strict p q = (p.part < q.part) ⊎ ((p.part ≡ q.part) × (p.line < q.line))

pub upto_trans : (p q r : SourcePlace) → Upto p q → Upto q r → Upto p r
upto_trans p q r (inl a) (inl b) = inl (omega arith)
upto_trans p q r (inl a) (inr b) = inl (omega (arith, b.0))
upto_trans p q r (inr a) (inl b) = inl (omega (arith, a.0))
upto_trans p q r (inr a) (inr b) = inr (a.0 ∙ b.0, omega (arith, a.1, b.1))

pub strict_trans : (p q r : SourcePlace) → Strict p q → Strict q r → Strict p r
strict_trans p q r (inl a) (inl b) = inl (omega arith)
strict_trans p q r (inl a) (inr b) = inl (omega (arith, b.0))
strict_trans p q r (inr a) (inl b) = inl (omega (arith, a.0))
strict_trans p q r (inr a) (inr b) = inr (a.0 ∙ b.0, omega (arith, a.1, b.1))

strict_upto : (p q r : SourcePlace) → Strict p q → Upto q r → Strict p r
strict_upto p q r (inl a) (inl b) = inl (omega arith)
strict_upto p q r (inl a) (inr b) = inl (omega (arith, b.0))
strict_upto p q r (inr a) (inl b) = inl (omega (arith, a.0))
strict_upto p q r (inr a) (inr b) = inr (a.0 ∙ b.0, omega (arith, a.1, b.1))

not_both_ways : (p q : SourcePlace) → Strict p q → Upto q p → ⊥
not_both_ways p q (inl a) (inl b) = omega arith
not_both_ways p q (inl a) (inr b) = omega (arith, b.0)
not_both_ways p q (inr a) (inl b) = omega (arith, a.0)
not_both_ways p q (inr a) (inr b) = omega (arith, a.1, b.1)

-- where a word stands to a place
data Stands (p : SourcePlace) (w : PlacedWord) : Type 0 where
  before : is_before p w ≡ true → is_at p w ≡ false → Strict w.place p → Stands p w
  there : is_before p w ≡ false → is_at p w ≡ true → Upto p w.place → Upto w.place p → Stands p w
  after : is_before p w ≡ false → is_at p w ≡ false → Strict p w.place → Stands p w

stands : (p : SourcePlace) (w : PlacedWord) → Stands p w
stands p w = elim (cases_order w.place.part p.part) [
  | inl e ↦ elim (cases_order w.place.line p.line) [
    | inl f ↦ there
        (ap (λ t. t || (nat_eq w.place.part p.part && nat_lt w.place.line p.line)) (le-ltb w.place.part p.part (omega arith)) ∙ ap (λ t. nat_eq w.place.part p.part && t) (le-ltb w.place.line p.line (omega arith)) ∙ ap (λ t. t && false) (eq-eqb w.place.part p.part e))
        (ap (λ t. t && nat_eq w.place.line p.line) (eq-eqb w.place.part p.part e) ∙ eq-eqb w.place.line p.line f)
        (inr (sym e, omega arith))
        (inr (e, omega arith))
    | inr (inl lt) ↦ before
        (ap (λ t. t || (nat_eq w.place.part p.part && nat_lt w.place.line p.line)) (le-ltb w.place.part p.part (omega arith)) ∙ ap (λ t. t && nat_lt w.place.line p.line) (eq-eqb w.place.part p.part e) ∙ lt-ltb w.place.line p.line lt)
        (ap (λ t. t && nat_eq w.place.line p.line) (eq-eqb w.place.part p.part e) ∙ ne_eqb w.place.line p.line (λ f. omega arith))
        (inr (e, lt))
    | inr (inr gt) ↦ after
        (ap (λ t. t || (nat_eq w.place.part p.part && nat_lt w.place.line p.line)) (le-ltb w.place.part p.part (omega arith)) ∙ ap (λ t. t && nat_lt w.place.line p.line) (eq-eqb w.place.part p.part e) ∙ le-ltb w.place.line p.line (omega arith))
        (ap (λ t. t && nat_eq w.place.line p.line) (eq-eqb w.place.part p.part e) ∙ ne_eqb w.place.line p.line (λ f. omega arith))
        (inr (sym e, gt))
  ]
  | inr (inl lt) ↦ before
      (ap (λ t. t || (nat_eq w.place.part p.part && nat_lt w.place.line p.line)) (lt-ltb w.place.part p.part lt))
      (ap (λ t. t && nat_eq w.place.line p.line) (ne_eqb w.place.part p.part (λ f. omega arith)))
      (inl lt)
  | inr (inr gt) ↦ after
      (ap (λ t. t || (nat_eq w.place.part p.part && nat_lt w.place.line p.line)) (le-ltb w.place.part p.part (omega arith)) ∙ ap (λ t. t && nat_lt w.place.line p.line) (ne_eqb w.place.part p.part (λ f. omega arith)))
      (ap (λ t. t && nat_eq w.place.line p.line) (ne_eqb w.place.part p.part (λ f. omega arith)))
      (inl gt)
]

-- words in order from this place on, and lines in order after it
abbrev pub After : SourcePlace → List PlacedWord → Type 0
After p [] = Unit {0}
After p (w ∷ ws) = Upto p w.place × After w.place ws

abbrev pub LinesAfter : SourcePlace → List TextLine → Type 0
LinesAfter p [] = Unit {0}
LinesAfter p (l ∷ ls) = Strict p l.place × LinesAfter l.place ls

pub words_weaker : (p q : SourcePlace) (ws : List PlacedWord) → Upto p q → After q ws → After p ws
words_weaker p q [] h a = tt
words_weaker p q (w ∷ ws) h a = (upto_trans p q w.place h a.0, a.1)

pub lines_weaker : (p q : SourcePlace) (ls : List TextLine) → Strict p q → LinesAfter q ls → LinesAfter p ls
lines_weaker p q [] h a = tt
lines_weaker p q (l ∷ ls) h a = (strict_trans p q l.place h a.0, a.1)

weak : (p q : SourcePlace) → Strict p q → Upto p q
weak p q (inl a) = inl a
weak p q (inr a) = inr (a.0, omega (arith, a.1))

none_at : (p q : SourcePlace) (ws : List PlacedWord) → Strict p q → After q ws → filter (is_at p) ws ≡ []
none_at p q [] h a = refl
none_at p q (w ∷ ws) h a = elim (stands p w) [
  | before b at s ↦ absurd (not_both_ways p w.place (strict_upto p q w.place h a.0) (weak w.place p s))
  | there b at s t ↦ absurd (not_both_ways p w.place (strict_upto p q w.place h a.0) t)
  | after b at s ↦ cond-false (is_at p w) (w ∷ filter (is_at p) ws) (filter (is_at p) ws) at ∙ none_at p w.place ws s a.1
]

those_at : (p q : SourcePlace) (ws : List PlacedWord) → Upto p q → After q ws → filter (is_at p) ws ≡ next_at p ws
those_at p q [] h a = refl
those_at p q (w ∷ ws) h a = elim (stands p w) [
  | before b at s ↦ absurd (not_both_ways w.place p s (upto_trans p q w.place h a.0))
  | there b at s t ↦ cond-true (is_at p w) (w ∷ filter (is_at p) ws) (filter (is_at p) ws) at ∙ ap (λ l. w ∷ l) (those_at p w.place ws s a.1) ∙ sym (cond-true (is_at p w) (w ∷ next_at p ws) [] at)
  | after b at s ↦ cond-false (is_at p w) (w ∷ filter (is_at p) ws) (filter (is_at p) ws) at ∙ none_at p w.place ws s a.1 ∙ sym (cond-false (is_at p w) (w ∷ next_at p ws) [] at)
]

all_at : (p q : SourcePlace) (ws : List PlacedWord) → After q ws → filter (is_at p) ws ≡ next_at p (skip p ws)
all_at p q [] a = refl
all_at p q (w ∷ ws) a = elim (stands p w) [
  | before b at s ↦ cond-false (is_at p w) (w ∷ filter (is_at p) ws) (filter (is_at p) ws) at ∙ all_at p w.place ws a.1 ∙ ap (next_at p) (sym (cond-true (is_before p w) (skip p ws) (w ∷ ws) b))
  | there b at s t ↦ those_at p w.place (w ∷ ws) s (inr (refl, omega arith), a.1) ∙ ap (next_at p) (sym (cond-false (is_before p w) (skip p ws) (w ∷ ws) b))
  | after b at s ↦ those_at p w.place (w ∷ ws) (weak p w.place s) (inr (refl, omega arith), a.1) ∙ ap (next_at p) (sym (cond-false (is_before p w) (skip p ws) (w ∷ ws) b))
]

-- what was passed over isn't on a later line
upto_strict : (p q r : SourcePlace) → Upto p q → Strict q r → Strict p r
upto_strict p q r (inl a) (inl b) = inl (omega arith)
upto_strict p q r (inl a) (inr b) = inl (omega (arith, b.0))
upto_strict p q r (inr a) (inl b) = inl (omega (arith, a.0))
upto_strict p q r (inr a) (inr b) = inr (a.0 ∙ b.0, omega (arith, a.1, b.1))

elsewhere : (l : SourcePlace) (w : PlacedWord) → Strict w.place l → is_at l w ≡ false
elsewhere l w h = elim (stands l w) [
  | before b at s ↦ at
  | there b at s t ↦ absurd (not_both_ways w.place l h s)
  | after b at s ↦ at
]

skip_kept : (p l : SourcePlace) (ws : List PlacedWord) → Strict p l → filter (is_at l) (skip p ws) ≡ filter (is_at l) ws
skip_kept p l [] h = refl
skip_kept p l (w ∷ ws) h = elim (stands p w) [
  | before b at s ↦ ap (filter (is_at l)) (cond-true (is_before p w) (skip p ws) (w ∷ ws) b) ∙ skip_kept p l ws h ∙ sym (cond-false (is_at l w) (w ∷ filter (is_at l) ws) (filter (is_at l) ws) (elsewhere l w (strict_trans w.place p l s h)))
  | there b at s t ↦ ap (filter (is_at l)) (cond-false (is_before p w) (skip p ws) (w ∷ ws) b)
  | after b at s ↦ ap (filter (is_at l)) (cond-false (is_before p w) (skip p ws) (w ∷ ws) b)
]

those_kept : (p l : SourcePlace) (ws : List PlacedWord) → Strict p l → filter (is_at l) (after_those p ws) ≡ filter (is_at l) ws
those_kept p l [] h = refl
those_kept p l (w ∷ ws) h = elim (stands p w) [
  | before b at s ↦ ap (filter (is_at l)) (cond-false (is_at p w) (after_those p ws) (w ∷ ws) at)
  | there b at s t ↦ ap (filter (is_at l)) (cond-true (is_at p w) (after_those p ws) (w ∷ ws) at) ∙ those_kept p l ws h
      ∙ sym (cond-false (is_at l w) (w ∷ filter (is_at l) ws) (filter (is_at l) ws) (elsewhere l w (upto_strict w.place p l t h)))
  | after b at s ↦ ap (filter (is_at l)) (cond-false (is_at p w) (after_those p ws) (w ∷ ws) at)
]

lines_kept : (p : SourcePlace) (ls : List TextLine) (ws : List PlacedWord) → LinesAfter p ls → lines_text ls (after_those p (skip p ws)) ≡ lines_text ls ws
lines_kept p [] ws a = refl
lines_kept p (l ∷ ls) ws a =
    let one : filter (is_at l.place) (after_those p (skip p ws)) ≡ filter (is_at l.place) ws = those_kept p l.place (skip p ws) a.0 ∙ skip_kept p l.place ws a.0 in
    let more : lines_text ls (after_those p (skip p ws)) ≡ lines_text ls ws = lines_kept p ls ws (lines_weaker p l.place ls a.0 a.1) in
    λ i. line_text (one i) (without_front (characters l.bytes)) ++ more i

skip_after : (p q : SourcePlace) (ws : List PlacedWord) → After q ws → After q (skip p ws)
skip_after p q [] a = tt
skip_after p q (w ∷ ws) a = cond_both (is_before p w) (skip p ws) (w ∷ ws) (λ l. After q l) (λ is. words_weaker q w.place (skip p ws) a.0 (skip_after p w.place ws a.1)) (λ is. a)

those_after : (p q : SourcePlace) (ws : List PlacedWord) → After q ws → After q (after_those p ws)
those_after p q [] a = tt
those_after p q (w ∷ ws) a = cond_both (is_at p w) (after_those p ws) (w ∷ ws) (λ l. After q l) (λ is. words_weaker q w.place (after_those p ws) a.0 (those_after p w.place ws a.1)) (λ is. a)

pub turns_are : (p q : SourcePlace) (ls : List TextLine) (ws : List PlacedWord) → LinesAfter p ls → After q ws → turns_text ls ws ≡ lines_text ls ws
turns_are p q [] ws a b = refl
turns_are p q (l ∷ ls) ws a b =
    let rest : List PlacedWord = after_those l.place (skip l.place ws) in
    let one : next_at l.place (skip l.place ws) ≡ filter (is_at l.place) ws = sym (all_at l.place q ws b) in
    let more : turns_text ls rest ≡ lines_text ls ws = turns_are l.place q ls rest a.1 (those_after l.place q (skip l.place ws) (skip_after l.place q ws b)) ∙ lines_kept l.place ls ws a.1 in
    λ i. line_text (one i) (without_front (characters l.bytes)) ++ more i

-- The first six characters of a symbol, one by one.
use Rattle.std.proofs.Common.{◌≡◌, ◌∙◌, sym, ap, ℕ, zero, suc, ◌+◌, ◌<◌, ◌≤◌, List, [], ◌∷◌, ◌++◌, true, false, cond, arith, length, take, set, get_or, append_assoc, subst, inl, inr}
use Rattle.std.specs.Prelude.{replicate, filter, map}
use Rattle.std.proofs.lemmas.List.{take_more, map_push, take-append-le, take-replicate, append-nil, length_push}
use Rattle.std.proofs.lemmas.List.Elements.{filter-append}
use Rattle.pal_text.specs.Characters.{code, is_character, characters}
use Rattle.std.proofs.lemmas.Bool.{cases_Bool}

-- The first six of some characters, with spaces after fewer.
abbrev pub first_six : List ℕ → List ℕ
first_six cs = take 6 (cs ++ replicate 6 32)

one_more : (bytes : List ℕ) (i : ℕ) → i < length bytes → characters (take (i + 1) bytes) ≡ characters (take i bytes) ++ cond (is_character (code (get_or bytes i 0))) (code (get_or bytes i 0) ∷ []) []
one_more bytes i h =
    ap characters (take_more bytes i 0 h)
    ∙ ap (filter is_character) (map_push code (take i bytes) (get_or bytes i 0))
    ∙ filter-append is_character (map code (take i bytes)) (code (get_or bytes i 0) ∷ [])

pub characters_more : (bytes : List ℕ) (i : ℕ) → i < length bytes → is_character (code (get_or bytes i 0)) ≡ true → characters (take (i + 1) bytes) ≡ characters (take i bytes) ++ code (get_or bytes i 0) ∷ []
characters_more bytes i h ok = one_more bytes i h ∙ ap (λ t. characters (take i bytes) ++ cond t (code (get_or bytes i 0) ∷ []) []) ok

pub characters_same : (bytes : List ℕ) (i : ℕ) → i < length bytes → is_character (code (get_or bytes i 0)) ≡ false → characters (take (i + 1) bytes) ≡ characters (take i bytes)
characters_same bytes i h other = one_more bytes i h ∙ ap (λ t. characters (take i bytes) ++ cond t (code (get_or bytes i 0) ∷ []) []) other ∙ append-nil (characters (take i bytes))

put_first : (k m : ℕ) (cs : List ℕ) (c : ℕ) → length cs < k → k ≤ suc m → set (take k (cs ++ replicate (suc m) 32)) (length cs) c ≡ take k ((cs ++ c ∷ []) ++ replicate (suc m) 32)
put_first zero m cs c h room = absurd (omega arith)
put_first (suc k) m [] c h room = ap (λ l. c ∷ l) (take-replicate k m 32 (omega arith) ∙ sym (take-replicate k (suc m) 32 (omega arith)))
put_first (suc k) m (x ∷ cs) c h room = ap (λ l. x ∷ l) (put_first k m cs c (omega arith) (omega arith))

pub six_more : (cs : List ℕ) (n c : ℕ) → n ≡ length cs → n < 6 → set (first_six cs) n c ≡ first_six (cs ++ c ∷ [])
six_more cs n c is h = ap (λ i. set (first_six cs) i c) is ∙ put_first 6 5 cs c (omega arith) (omega arith)

pub six_full : (cs : List ℕ) (c : ℕ) → 6 ≤ length cs → first_six (cs ++ c ∷ []) ≡ first_six cs
six_full cs c h =
    ap (take 6) (append_assoc cs (c ∷ []) (replicate 6 32))
    ∙ take-append-le 6 cs (c ∷ replicate 6 32) h
    ∙ sym (take-append-le 6 cs (replicate 6 32) h)

-- letters and a count that hold the first six of some characters
abbrev pub Six : List ℕ → List ℕ → ℕ → Type 0
Six cs letters count = (letters ≡ first_six cs) × (count < 6 → count ≡ length cs) × (6 ≤ count → 6 ≤ length cs) × (count ≤ 6)

pub six_same : (cs ds letters : List ℕ) (count : ℕ) → ds ≡ cs → Six cs letters count → Six ds letters count
six_same cs ds letters count e s = let P : List ℕ → Type 0 = λ x. Six x letters count in subst P (sym e) s

pub six_put : (cs ds letters : List ℕ) (c count : ℕ) → ds ≡ cs ++ c ∷ [] → count < 6 → Six cs letters count → Six ds (set letters count c) (count + 1)
six_put cs ds letters c count e h s =
    let size : length ds ≡ length cs + 1 = ap length e ∙ length_push cs c in
    (ap (λ l. set l count c) s.0 ∙ six_more cs count c (s.1 h) h ∙ ap first_six (sym e), (λ g. omega (arith, size, s.1 h)), (λ g. omega (arith, size, s.1 h)), omega arith)

pub six_kept : (cs ds letters : List ℕ) (c count : ℕ) → ds ≡ cs ++ c ∷ [] → 6 ≤ count → Six cs letters count → Six ds letters count
six_kept cs ds letters c count e h s =
    let size : length ds ≡ length cs + 1 = ap length e ∙ length_push cs c in
    (s.0 ∙ sym (six_full cs c (s.2 h)) ∙ ap first_six (sym e), (λ g. absurd (omega arith)), (λ g. omega (arith, size, s.2 h)), s.3)

-- one more byte where six characters are there already
pub six_past : (bytes : List ℕ) (i : ℕ) (letters : List ℕ) (count : ℕ) → i < length bytes → 6 ≤ count → Six (characters (take i bytes)) letters count → Six (characters (take (i + 1) bytes)) letters count
six_past bytes i letters count h full s = elim (cases_Bool (is_character (code (get_or bytes i 0)))) [
  | inl ok ↦ six_kept (characters (take i bytes)) (characters (take (i + 1) bytes)) letters (code (get_or bytes i 0)) count (characters_more bytes i h ok) full s
  | inr other ↦ six_same (characters (take i bytes)) (characters (take (i + 1) bytes)) letters count (characters_same bytes i h other) s
]

pub six_at : (cs letters letters' : List ℕ) (count count' : ℕ) → letters' ≡ letters → count' ≡ count → Six cs letters count → Six cs letters' count'
six_at cs letters letters' count count' e f s =
    let P : List ℕ → Type 0 = λ l. Six cs l count' in
    let Q : ℕ → Type 0 = λ n. Six cs letters n in
    subst P (sym e) (subst Q (sym f) s)

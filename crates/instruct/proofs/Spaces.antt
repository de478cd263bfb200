-- Names with a space between two.
use Rattle.std.proofs.Common.{ℕ, suc, ◌≡◌, ◌==◌, arith, Bool, false, List, [], ◌∷◌, ◌++◌, length, codes, if◌then◌else◌, refl, ap, sym, ◌∙◌, append_assoc}
use Rattle.std.proofs.lemmas.Bool.Decides.{nat_tests}
use Rattle.std.specs.List.{join_with_byte}
use Rattle.instruct.specs.Names.{IsSpaced, named_if, spaced, or_skip}

some_left : (n : ℕ) → (suc n == 0) ≡ false
some_left n = grind (arith, nat_tests)

-- one name more
join-append : (names : List (List ℕ)) (name : List ℕ) → (length names == 0) ≡ false → join_with_byte 32 (names ++ name ∷ []) ≡ (join_with_byte 32 names ++ 32 ∷ []) ++ name
join-append [] name some = cc
join-append (a ∷ []) name some = sym (append_assoc a (32 ∷ []) name)
join-append (a ∷ b ∷ names) name some =
    rw (join-append (b ∷ names) name (some_left (length names))) (simp append_assoc)

longer : (names : List (List ℕ)) (name : List ℕ) → (length (names ++ name ∷ []) == 0) ≡ false
longer [] name = refl
longer (a ∷ names) name = some_left (length (names ++ name ∷ []))

longer_text : (text name : List ℕ) → (length ((text ++ 32 ∷ []) ++ name) == 0) ≡ false
longer_text [] name = some_left (length name)
longer_text (b ∷ text) name = some_left (length ((text ++ 32 ∷ []) ++ name))

-- a further name, after a space
pub next_name : (names : List (List ℕ)) (text name : List ℕ) → (length text == 0) ≡ false → IsSpaced names text → IsSpaced (names ++ name ∷ []) ((text ++ 32 ∷ []) ++ name)
next_name names text name some spaced =
    let some_names : (length names == 0) ≡ false = sym spaced.empty ∙ some in
    record {
      joined = ap (λ (t : List ℕ). (t ++ 32 ∷ []) ++ name) spaced.joined ∙ sym (join-append names name some_names);
      empty = longer_text text name ∙ sym (longer names name);
    }

-- no name yet
pub no_names : (text : List ℕ) → text ≡ [] → IsSpaced [] text
no_names text is = record { joined = is; empty = rw is refl }

-- a name that applies where a bit is set
pub by_bit : (names : List (List ℕ)) (applies bit : Bool) (name text : List ℕ) → applies ≡ bit → IsSpaced (names ++ named_if applies name) text → IsSpaced (names ++ named_if bit name) text
by_bit names applies bit name text is spaced = rw (← is) spaced

-- what stands in the place of no name
empty_or : (names : List (List ℕ)) (text other : List ℕ) → IsSpaced names text → (if length text == 0 then other else text) ≡ (if length names == 0 then other else text)
empty_or names text other spaced = rw spaced.empty refl

pub or_nop : (names : List (List ℕ)) (text : List ℕ) → IsSpaced names text → (if length text == 0 then codes "NOP" else text) ≡ spaced names
or_nop [] text is = empty_or [] text (codes "NOP") is
or_nop (name ∷ names) text is = empty_or (name ∷ names) text (codes "NOP") is ∙ rw (some_left (length names)) is.joined

pub skip_or : (names : List (List ℕ)) (text now : List ℕ) → now ≡ (if length text == 0 then codes "SKP" else text) → IsSpaced names text → IsSpaced (or_skip names) now
skip_or [] text now is spaced = rw (is, empty_or [] text (codes "SKP") spaced) (record { joined = refl; empty = refl })
skip_or (name ∷ names) text now is spaced =
    let same : now ≡ text = is ∙ empty_or (name ∷ names) text (codes "SKP") spaced ∙ rw (some_left (length names)) refl in
    rw same spaced

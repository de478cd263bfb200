-- The lines of a text with their places, as a loop over them sees them.
use Rattle.std.proofs.Common.{ℕ, ◌≡◌, ◌<◌, ◌≤◌, ◌+◌, List, [], ◌∷◌, ◌++◌, length, take, drop, get_or, map, arith, refl, sym, ◌∙◌, ap, suc, eqb, inl, inr}
use Rattle.std.specs.List.{enumerate_from, slice_split, before_first}
use Rattle.std.specs.Str.Lines.{lines, lines_of_parts}
use Rattle.std.proofs.lemmas.Bool.{cases_Bool}
use Rattle.std.proofs.Math.Seq.{drop-cons}
use Rattle.std.proofs.lemmas.List.{take-map, take-append-drop, length-map}
use Rattle.std.proofs.lemmas.List.FromFn.{length-enumerate_from, get_or-enumerate_from}
use Rattle.std.proofs.lemmas.List.Splits.{length-slice_split}
use Rattle.std.proofs.lemmas.List.Sums.{count_by-le-length}
use Rattle.streams.specs.Text.{text_lines, is_slash}

map_seconds : {X : Type 0} (v : X → ℕ × List ℕ) (ys : List X) → map (λ y. (v y).1) ys ≡ map (λ q. q.1) (map v ys)
map_seconds v [] = refl
map_seconds v (y ∷ ys) = ap (λ zs. (v y).1 ∷ zs) (map_seconds v ys)

map_seconds-enumerate_from : (n : ℕ) (xs : List (List ℕ)) → map (λ q. q.1) (enumerate_from n xs) ≡ xs
map_seconds-enumerate_from n [] = refl
map_seconds-enumerate_from n (x ∷ xs) = ap (λ zs. x ∷ zs) (map_seconds-enumerate_from (n + 1) xs)

-- A turn: the lines are those so far, this one, and others; and its place is the number of those so far.
pub lines_split : {X : Type 0} (v : X → ℕ × List ℕ) (ys : List X) (ls : List (List ℕ)) (p : ℕ × List ℕ)
    → map v ys ≡ take (length ys) (enumerate_from 0 ls)
    → (length ys < length (enumerate_from 0 ls)) × (p ≡ get_or (enumerate_from 0 ls) (length ys) p)
    → (after : List (List ℕ)) × (ls ≡ map (λ y. (v y).1) ys ++ p.1 ∷ after) × (p.0 ≡ length (map (λ y. (v y).1) ys))
lines_split v ys ls p so_far here =
    let within : length ys < length ls = omega (arith, length-enumerate_from 0 ls) in
    let item : p ≡ (0 + length ys, get_or ls (length ys) p.1) = here.1 ∙ get_or-enumerate_from 0 ls (length ys) p within in
    let front : map (λ y. (v y).1) ys ≡ take (length ys) ls =
    map_seconds v ys ∙ (ap (map (λ q. q.1)) so_far ∙ (sym (take-map (λ q. q.1) (length ys) (enumerate_from 0 ls)) ∙ ap (take (length ys)) (map_seconds-enumerate_from 0 ls))) in
    let line : p.1 ≡ get_or ls (length ys) p.1 = ap (λ q. q.1) item in
    let back : drop (length ys) ls ≡ p.1 ∷ drop (suc (length ys)) ls = drop-cons ls (length ys) p.1 within ∙ ap (λ l. l ∷ drop (suc (length ys)) ls) (sym line) in
    let place : p.0 ≡ 0 + length ys = ap (λ q. q.0) item in (
      drop (suc (length ys)) ls,
      sym (take-append-drop (length ys) ls) ∙ (ap (λ zs. take (length ys) ls ++ zs) back ∙ ap (λ zs. zs ++ p.1 ∷ drop (suc (length ys)) ls) (sym front)),
      omega (arith, place, length-map ys (λ y. (v y).1)),
    )

-- at the end the lines are those so far
pub lines_all : {X : Type 0} (v : X → ℕ × List ℕ) (ys : List X) (ls : List (List ℕ)) → map v ys ≡ enumerate_from 0 ls → map (λ y. (v y).1) ys ≡ ls
lines_all v ys ls e = map_seconds v ys ∙ (ap (map (λ q. q.1)) e ∙ map_seconds-enumerate_from 0 ls)

length-lines_of_parts : (parts : List (List ℕ)) → length (lines_of_parts parts) ≤ length parts
length-lines_of_parts [] = omega arith
length-lines_of_parts (x ∷ []) = elim (cases_Bool (eqb (length x) 0)) [ inl e ↦ rw e (omega arith) | inr e ↦ rw e (omega arith) ]
length-lines_of_parts (x ∷ y ∷ more) = omega (arith, length-lines_of_parts (y ∷ more))

-- a text has fewer lines than bytes, but for one
pub length-text_lines : (text : List ℕ) → length (text_lines text) ≤ length text + 1
length-text_lines text =
    let parts : List (List ℕ) = slice_split (λ c. eqb c 10) text in
    omega (arith, length-map (lines text) (before_first is_slash), length-lines_of_parts parts, length-slice_split (λ c. eqb c 10) text, count_by-le-length (λ c. eqb c 10) text)

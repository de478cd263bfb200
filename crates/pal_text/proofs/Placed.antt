-- Pieces stand among the tokens, and lines within the bytes.
use Rattle.std.proofs.Common.{◌≡◌, sym, subst, ℕ, ◌+◌, ◌≤◌, List, [], ◌∷◌, arith, length, take}
use Rattle.std.specs.Prelude.{reverse}
use Rattle.std.specs.List.{AllByRecursion}
use Rattle.std.proofs.lemmas.Bool.{cond_both}
use Rattle.std.proofs.lemmas.List.{length-reverse, length-take}
use Rattle.pal_text.specs.declared.characters.Meaning.{Meaning}
use Rattle.pal_text.specs.declared.characters.Meaning.TheVariants.{Ignored, LineEnd, Character}
use Rattle.pal_text.specs.declared.lines.Line.{Line}
use Rattle.pal_text.specs.Characters.{meaning_after}
use Rattle.pal_text.specs.Lines.{line_start, is_begun, ended_lines, line_of, lines, all_lines}
use Rattle.pal_text.specs.Order.{IsLineWithin}
use Rattle.pal_text.proofs.Rises.{all_reverse}
use Rattle.pal_text.proofs.ByMeaning.{lines_by, start_by}

start_by_within : (start n : ℕ) (m : Meaning) → start ≤ n → start_by start (n + 1) m ≤ n + 1
start_by_within start n LineEnd h = omega arith
start_by_within start n Ignored h = omega arith
start_by_within start n (Character c) h = omega arith

start_within : (before : List ℕ) → line_start before ≤ length before
start_within [] = omega arith
start_within (b ∷ before) = omega (arith, start_by_within (line_start before) (length before) (meaning_after before b) (start_within before))

wider : (m n : ℕ) (ls : List Line) → m ≤ n → AllByRecursion (IsLineWithin m) ls → AllByRecursion (IsLineWithin n) ls
wider m n [] h all = tt
wider m n (l ∷ ls) h all = (record { forward = all.0.forward; inside = omega (arith, all.0.inside) }, wider m n ls h all.1)

lines_by_within : (n : ℕ) (ls : List Line) (start at : ℕ) (m : Meaning) → start ≤ at → at ≤ n → AllByRecursion (IsLineWithin n) ls → AllByRecursion (IsLineWithin n) (lines_by ls start at m)
lines_by_within n ls start at LineEnd f h all = (record { forward = f; inside = h }, all)
lines_by_within n ls start at Ignored f h all = all
lines_by_within n ls start at (Character c) f h all = all

ended_within : (before : List ℕ) → AllByRecursion (IsLineWithin (length before)) (ended_lines before)
ended_within [] = tt
ended_within (b ∷ before) = lines_by_within (length (b ∷ before)) (ended_lines before) (line_start before) (length before) (meaning_after before b) (start_within before) (omega arith)
    (wider (length before) (length (b ∷ before)) (ended_lines before) (omega arith) (ended_within before))

lines_within : (before : List ℕ) → AllByRecursion (IsLineWithin (length before)) (lines before)
lines_within before =
    cond_both (is_begun before) (line_of (line_start before) (length before) ∷ ended_lines before) (ended_lines before) (λ ls. AllByRecursion (IsLineWithin (length before)) ls)
    (λ is. (record { forward = start_within before; inside = omega arith }, ended_within before)) (λ is. ended_within before)

-- the lines of a front of the bytes
pub lines_within_by : (source : List ℕ) (stop : ℕ) (ls : List Line) → ls ≡ all_lines (take stop source) → AllByRecursion (IsLineWithin (length source)) ls
lines_within_by source stop ls e =
    let front : List ℕ = take stop source in
    let P : List Line → Type 0 = λ l. AllByRecursion (IsLineWithin (length source)) l in
    subst P (sym e) (all_reverse (IsLineWithin (length source)) (lines (reverse front))
    (wider (length (reverse front)) (length source) (lines (reverse front)) (omega (arith, length-reverse front, length-take stop source)) (lines_within (reverse front))))

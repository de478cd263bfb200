-- The lines of a part, one byte after another, and that where a line has ended there is one.
use Rattle.std.proofs.Common.{◌≡◌, ◌≢◌, ◌∙◌, sym, ap, refl, true, false, Bool, if◌then◌else◌, length-append, ℕ, ◌+◌, ◌<◌, ◌≤◌, List, [], ◌∷◌, ◌++◌, arith, length, take, drop, get_or}
use Rattle.std.specs.Prelude.{reverse}
use Rattle.std.proofs.lemmas.Bool.{cond_both}
use Rattle.std.proofs.lemmas.List.{reverse-append, reverse-reverse, length-reverse, take-append-drop, take_all}
use Rattle.pal_text.specs.declared.characters.Meaning.{Meaning}
use Rattle.pal_text.specs.declared.characters.Meaning.TheVariants.{Ignored, LineEnd, Character}
use Rattle.pal_text.specs.declared.lines.Line.{Line}
use Rattle.pal_text.specs.Scan.{returned_by}
use Rattle.pal_text.specs.Characters.{meaning_after}
use Rattle.pal_text.specs.Characters.{meaning, returned}
use Rattle.pal_text.specs.Lines.{line_of, line_start, is_begun, ended_lines, lines, all_lines}
use Rattle.pal_text.proofs.Fronts.{next_front, front_length}
use Rattle.pal_text.proofs.Grows.{turned}
use Rattle.pal_text.proofs.ByMeaning.{begun_by, lines_by, start_by}

-- no byte takes a line away
more_by : (ls : List Line) (start at : ℕ) (m : Meaning) → length ls ≤ length (lines_by ls start at m)
more_by ls start at Ignored = omega arith
more_by ls start at LineEnd = omega arith
more_by ls start at (Character c) = omega arith

more_lines : (bytes before : List ℕ) → length (ended_lines before) ≤ length (ended_lines (bytes ++ before))
more_lines [] before = omega arith
more_lines (b ∷ bytes) before =
    let f : List ℕ = bytes ++ before in
    omega (arith, more_lines bytes before, more_by (ended_lines f) (line_start f) (length f) (meaning_after f b))

ended_among : (before : List ℕ) → length (ended_lines before) ≤ length (lines before)
ended_among before =
    cond_both (is_begun before) (line_of (line_start before) (length before) ∷ ended_lines before) (ended_lines before) (λ ls. length (ended_lines before) ≤ length ls) (λ is. omega arith) (λ is. omega arith)

some_of : (bytes : List ℕ) → 0 < length (lines (reverse bytes)) → all_lines bytes ≢ []
some_of bytes h none = absurd (omega (arith, h, ap length none, length-reverse (lines (reverse bytes))))

-- a line has ended
pub line_ended : (bytes : List ℕ) (at : ℕ) → at < length bytes → meaning_after (reverse (take at bytes)) (get_or bytes at 0) ≡ LineEnd → all_lines bytes ≢ []
line_ended bytes at h e =
    let f : List ℕ = reverse (take at bytes) in
    let one : ended_lines (get_or bytes at 0 ∷ f) ≡ line_of (line_start f) (length f) ∷ ended_lines f = ap (lines_by (ended_lines f) (line_start f) (length f)) e in
    let split : reverse bytes ≡ reverse (drop (at + 1) bytes) ++ (get_or bytes at 0 ∷ f) =
    ap reverse (sym (take-append-drop (at + 1) bytes)) ∙ reverse-append (take (at + 1) bytes) (drop (at + 1) bytes) ∙ ap (λ l. reverse (drop (at + 1) bytes) ++ l) (next_front bytes at h) in
    some_of bytes (omega (arith, ended_among (reverse bytes), ap (λ l. length (ended_lines l)) split, more_lines (reverse (drop (at + 1) bytes)) (get_or bytes at 0 ∷ f), ap length one))

-- the lines that have ended before a place, and the one there
pub record Lined (bytes : List ℕ) (at : ℕ) (ls : List Line) (start : ℕ) (begun ret : Bool) : Type 0 where
  pub lines_are : ls ≡ reverse (ended_lines (reverse (take at bytes)))
  pub start_is : start ≡ line_start (reverse (take at bytes))
  pub begun_is : begun ≡ is_begun (reverse (take at bytes))
  pub returned_is : ret ≡ returned (reverse (take at bytes))
  pub forward : start ≤ at

pub same_lined : (bytes : List ℕ) (at : ℕ) (ls ls' : List Line) (start start' : ℕ) (begun begun' ret ret' : Bool) → Lined bytes at ls start begun ret → ls' ≡ ls → start' ≡ start → begun' ≡ begun → ret' ≡ ret → Lined bytes at ls' start' begun' ret'
same_lined bytes at ls ls' start start' begun begun' ret ret' l a b c d =
    record { lines_are = a ∙ l.lines_are; start_is = b ∙ l.start_is; begun_is = c ∙ l.begun_is; returned_is = d ∙ l.returned_is; forward = omega (arith, b, l.forward) }

-- after a byte that means this
pub lined_more : (bytes : List ℕ) (at : ℕ) (ls : List Line) (start : ℕ) (begun ret : Bool) (m : Meaning) → at < length bytes → Lined bytes at ls start begun ret → m ≡ meaning ret (get_or bytes at 0)
    → (start_by start (at + 1) m ≤ at + 1) → Lined bytes (at + 1) (reverse (lines_by (reverse ls) start at m)) (start_by start (at + 1) m) (begun_by begun m) (returned_by ret (get_or bytes at 0))
lined_more bytes at ls start begun ret m h l e forward =
    let f : List ℕ = reverse (take at bytes) in
    let b : ℕ = get_or bytes at 0 in
    let more : reverse (take (at + 1) bytes) ≡ b ∷ f = next_front bytes at h in
    let size : at ≡ length f = sym (front_length bytes at (omega (arith, h))) in
    let is : m ≡ meaning_after f b = e ∙ ap (λ r. meaning r b) l.returned_is in
    let ended : reverse ls ≡ ended_lines f = ap reverse l.lines_are ∙ reverse-reverse (ended_lines f) in
    record {
      lines_are = ap reverse (ap (λ ls. lines_by ls start at m) ended ∙ ap (λ s. lines_by (ended_lines f) s at m) l.start_is ∙ ap (λ n. lines_by (ended_lines f) (line_start f) n m) size ∙ ap (lines_by (ended_lines f) (line_start f) (length f)) is)
          ∙ ap (λ g. reverse (ended_lines g)) (sym more);
      start_is = ap (λ s. start_by s (at + 1) m) l.start_is ∙ ap (λ n. start_by (line_start f) (n + 1) m) size ∙ ap (start_by (line_start f) (length f + 1)) is ∙ ap line_start (sym more);
      begun_is = ap (λ x. begun_by x m) l.begun_is ∙ ap (begun_by (is_begun f)) is ∙ ap is_begun (sym more);
      returned_is = ap (λ r. returned_by r b) l.returned_is ∙ ap returned (sym more);
      forward = forward;
    }

-- a line more
pub put_line : (ls : List Line) (l : Line) → ls ++ l ∷ [] ≡ reverse (l ∷ reverse ls)
put_line ls l = ap (λ k. k ++ l ∷ []) (sym (reverse-reverse ls)) ∙ sym (turned l (reverse ls))

either : (b : Bool) (xs ys : List Line) → (if b then reverse xs else reverse ys) ≡ reverse (if b then xs else ys)
either true xs ys = refl
either false xs ys = refl

-- the lines of all bytes, where the last one ends by none of them
pub lined_all : (bytes : List ℕ) (at : ℕ) (ls : List Line) (start : ℕ) (begun ret : Bool) → length bytes ≤ at → Lined bytes at ls start begun ret → (if begun then ls ++ line_of start (length bytes) ∷ [] else ls) ≡ all_lines bytes
lined_all bytes at ls start begun ret h l =
    let all : take at bytes ≡ bytes = take_all at bytes h in
    let f : List ℕ = reverse bytes in
    let ended : ls ≡ reverse (ended_lines f) = l.lines_are ∙ ap (λ g. reverse (ended_lines (reverse g))) all in
    let begun_is : begun ≡ is_begun f = l.begun_is ∙ ap (λ g. is_begun (reverse g)) all in
    let start_is : start ≡ line_start f = l.start_is ∙ ap (λ g. line_start (reverse g)) all in
    let last : Line = line_of start (length bytes) in
    let same : last ≡ line_of (line_start f) (length f) = ap (λ s. line_of s (length bytes)) start_is ∙ ap (line_of (line_start f)) (sym (length-reverse bytes)) in
    ap (λ k. if begun then k ++ last ∷ [] else k) ended
    ∙ ap (λ k. if begun then k else reverse (ended_lines f)) (sym (turned last (ended_lines f)))
    ∙ either begun (last ∷ ended_lines f) (ended_lines f)
    ∙ ap (λ x. reverse (if x then last ∷ ended_lines f else ended_lines f)) begun_is
    ∙ ap (λ x. reverse (if is_begun f then x ∷ ended_lines f else ended_lines f)) same

pub line_begun : (bytes : List ℕ) (at : ℕ) (ls : List Line) (start : ℕ) (begun ret : Bool) → length bytes ≤ at → Lined bytes at ls start begun ret → begun ≡ true → all_lines bytes ≢ []
line_begun bytes at ls start begun ret h l is none =
    let one : ls ++ line_of start (length bytes) ∷ [] ≡ all_lines bytes = ap (λ x. if x then ls ++ line_of start (length bytes) ∷ [] else ls) (sym is) ∙ lined_all bytes at ls start begun ret h l in
    absurd (omega (arith, ap length one, ap length none, length-append ls (line_of start (length bytes) ∷ [])))

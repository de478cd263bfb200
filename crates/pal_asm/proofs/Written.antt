-- The characters of bytes and the lines of parts, one after another.
use Rattle.std.proofs.Common.{◌≡◌, ◌∙◌, sym, ap, ℕ, ◌+◌, ◌<◌, ◌≤◌, List, [], ◌∷◌, ◌++◌, append_assoc, true, false, length, get_or, drop}
use Rattle.std.proofs.lemmas.Bool.{cond-true, cond-false}
use Rattle.std.proofs.lemmas.List.{drop_more, drop_all, append-nil, map-append}
use Rattle.std.specs.Prelude.{slice_range}
use Rattle.pal_text.specs.declared.lines.Line.{Line}
use Rattle.pal_text.specs.Characters.{code, is_character, characters}
use Rattle.pal_text.specs.Lines.{all_lines}
use Rattle.pal_acts.specs.Acts.{place}
use Rattle.pal_asm.specs.declared.part_text.PartText.{PartText}
use Rattle.pal_asm.specs.declared.listing.ListedLine.{ListedLine}
use Rattle.pal_asm.specs.Sources.{TextLine, text_lines}
use Rattle.pal_asm.specs.SourceInCode.{text_line, shown_line, lines_in, lines_of_fronts}

character_left : (bytes : List ℕ) (i : ℕ) → i < length bytes → is_character (code (get_or bytes i 0)) ≡ true → characters (drop i bytes) ≡ code (get_or bytes i 0) ∷ characters (drop (i + 1) bytes)
character_left bytes i h is = ap characters (drop_more bytes i 0 h) ∙ cond-true (is_character (code (get_or bytes i 0))) _ _ is

ignored_left : (bytes : List ℕ) (i : ℕ) → i < length bytes → is_character (code (get_or bytes i 0)) ≡ false → characters (drop i bytes) ≡ characters (drop (i + 1) bytes)
ignored_left bytes i h is = ap characters (drop_more bytes i 0 h) ∙ cond-false (is_character (code (get_or bytes i 0))) _ _ is

-- what is left once a byte was looked at
module _ (text new all bytes : List ℕ) (i : ℕ) (h : i < length bytes) (so : text ++ characters (drop i bytes) ≡ all) where
  pub after_character : is_character (code (get_or bytes i 0)) ≡ true → new ≡ text ++ code (get_or bytes i 0) ∷ [] → new ++ characters (drop (i + 1) bytes) ≡ all
  after_character is e =
      ap (λ l. l ++ characters (drop (i + 1) bytes)) e ∙ append_assoc text (code (get_or bytes i 0) ∷ []) (characters (drop (i + 1) bytes)) ∙ ap (λ l. text ++ l) (sym (character_left bytes i h is)) ∙ so

  pub after_ignored : is_character (code (get_or bytes i 0)) ≡ false → new ≡ text → new ++ characters (drop (i + 1) bytes) ≡ all
  after_ignored is e = ap (λ l. l ++ characters (drop (i + 1) bytes)) e ∙ ap (λ l. text ++ l) (sym (ignored_left bytes i h is)) ∙ so

pub none_written : (text bytes : List ℕ) (i : ℕ) → length bytes ≤ i → text ≡ text ++ characters (drop i bytes)
none_written text bytes i h = sym (append-nil text) ∙ ap (λ l. text ++ characters l) (sym (drop_all i bytes h))

-- a line more of a part
pub line_left : (kept new : List ListedLine) (l : ListedLine) (n k i : ℕ) (bytes : List ℕ) (ls : List Line) (d : Line) → i < length ls → new ≡ kept ++ l ∷ [] → shown_line l ≡ text_line (place n k) (slice_range bytes (get_or ls i d).start (get_or ls i d).end)
    → lines_in new ++ text_lines n (k + 1) bytes (drop (i + 1) ls) ≡ lines_in kept ++ text_lines n k bytes (drop i ls)
line_left kept new l n k i bytes ls d h e is =
    let rest : List TextLine = text_lines n (k + 1) bytes (drop (i + 1) ls) in
    ap (λ x. lines_in x ++ rest) e
    ∙ ap (λ x. x ++ rest) (map-append shown_line kept (l ∷ []))
    ∙ append_assoc (lines_in kept) (shown_line l ∷ []) rest
    ∙ ap (λ x. lines_in kept ++ x ∷ rest) is
    ∙ ap (λ x. lines_in kept ++ text_lines n k bytes x) (sym (drop_more ls i d h))

pub no_line_left : (kept : List TextLine) (n k i : ℕ) (bytes : List ℕ) (ls : List Line) → length ls ≤ i → kept ≡ kept ++ text_lines n k bytes (drop i ls)
no_line_left kept n k i bytes ls h = sym (append-nil kept) ∙ ap (λ x. kept ++ text_lines n k bytes x) (sym (drop_all i ls h))

-- a part more
pub front_left : (kept new : List TextLine) (fs : List PartText) (i : ℕ) (f d : PartText) (ls : List Line) → i < length fs → f ≡ get_or fs i d → ls ≡ all_lines f.bytes.now → new ≡ kept ++ text_lines f.number 1 f.bytes.now ls
    → new ++ lines_of_fronts (drop (i + 1) fs) ≡ kept ++ lines_of_fronts (drop i fs)
front_left kept new fs i f d ls h is lines e =
    let rest : List TextLine = lines_of_fronts (drop (i + 1) fs) in
    ap (λ x. x ++ rest) e
    ∙ append_assoc kept (text_lines f.number 1 f.bytes.now ls) rest
    ∙ ap (λ x. kept ++ (text_lines f.number 1 f.bytes.now x ++ rest)) lines
    ∙ ap (λ g. kept ++ (text_lines g.number 1 g.bytes.now (all_lines g.bytes.now) ++ rest)) is
    ∙ ap (λ x. kept ++ lines_of_fronts x) (sym (drop_more fs i d h))

pub no_front_left : (kept : List TextLine) (fs : List PartText) (i : ℕ) → length fs ≤ i → kept ≡ kept ++ lines_of_fronts (drop i fs)
no_front_left kept fs i h = sym (append-nil kept) ∙ ap (λ x. kept ++ lines_of_fronts x) (sym (drop_all i fs h))

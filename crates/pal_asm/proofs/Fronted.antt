-- A part that was read up to where it ended.
use Rattle.std.proofs.Common.{◌≡◌, ◌∙◌, sym, ap, refl, ℕ, ◌+◌, ◌≤◌, List, [], ◌∷◌, ◌++◌, append_assoc, arith, length, take, drop, Bool}
use Rattle.std.specs.Prelude.{slice_range}
use Rattle.std.specs.List.{AllByRecursion}
use Rattle.std.proofs.lemmas.List.{append-nil, take_all, take-append-drop}
use Rattle.pal_text.specs.declared.tokens.Token.{Token}
use Rattle.pal_text.specs.declared.statement.PartEnd.{PartEnd}
use Rattle.pal_text.specs.declared.lines.Line.{Line}
use Rattle.pal_text.specs.Lines.{all_lines}
use Rattle.pal_text.specs.Order.{IsLineWithin}
use Rattle.pal_text.specs.Names.{part_tokens}
use Rattle.pal_text.specs.Statements.{Piece, pieces, own, closing}
use Rattle.pal_text.proofs.Rises.{part_tokens_within}
use Rattle.pal_text.proofs.Ends.{Marks, marks_within, closing_within, stop_by, own_within}
use Rattle.pal_text.proofs.Placed.{lines_within_by}
use Rattle.pal_asm.specs.declared.number.Radix.{Radix}
use Rattle.pal_asm.specs.declared.part_text.PartText.{PartText}
use Rattle.pal_asm.specs.declared.reading.ReadingState.{ReadingState}
use Rattle.pal_asm.specs.declared.statement.NumberedPart.{NumberedPart}
use Rattle.pal_acts.specs.Acts.{PlacedAct, place}
use Rattle.pal_asm.specs.Numbers.{radix_after}
use Rattle.pal_asm.specs.Acts.{Does, ends, goes_on}
use Rattle.pal_asm.specs.Sources.{text_lines, part_lines}
use Rattle.pal_asm.specs.SourceInCode.{text_line, IsRead, lines_of_fronts}
use Rattle.pal_acts.proofs.Flat.{range_kept}

-- the lines of a front of some bytes are lines of those bytes
lines_kept : (n k : ℕ) (front more : List ℕ) (ls : List Line) → AllByRecursion (IsLineWithin (length front)) ls → text_lines n k (front ++ more) ls ≡ text_lines n k front ls
lines_kept n k front more [] h = refl
lines_kept n k front more (l ∷ ls) h =
    let one : slice_range (front ++ more) l.start l.end ≡ slice_range front l.start l.end = range_kept front more l.start l.end h.0.forward h.0.inside in
    let rest : text_lines n (k + 1) (front ++ more) ls ≡ text_lines n (k + 1) front ls = lines_kept n (k + 1) front more ls h.1 in
    λ i. text_line (place n k) (one i) ∷ rest i

pub all_lines_within : (front : List ℕ) → AllByRecursion (IsLineWithin (length front)) (all_lines front)
all_lines_within front = lines_within_by front (length front) (all_lines front) (ap all_lines (sym (take_all (length front) front (omega arith))))

lines_same : (n : ℕ) (source : List ℕ) (stop : ℕ) → text_lines n 1 (take stop source) (all_lines (take stop source)) ≡ text_lines n 1 source (all_lines (take stop source))
lines_same n source stop =
    let front : List ℕ = take stop source in
    sym (lines_kept n 1 front (drop stop source) (all_lines front) (all_lines_within front)) ∙ ap (λ s. text_lines n 1 s (all_lines front)) (take-append-drop stop source)

fronts_more : (fs : List PartText) (f : PartText) → lines_of_fronts (fs ++ f ∷ []) ≡ lines_of_fronts fs ++ text_lines f.number 1 f.bytes.now (all_lines f.bytes.now)
fronts_more [] f = append-nil (text_lines f.number 1 f.bytes.now (all_lines f.bytes.now))
fronts_more (g ∷ fs) f =
    ap (λ l. text_lines g.number 1 g.bytes.now (all_lines g.bytes.now) ++ l) (fronts_more fs f)
    ∙ sym (append_assoc (text_lines g.number 1 g.bytes.now (all_lines g.bytes.now)) (lines_of_fronts fs) (text_lines f.number 1 f.bytes.now (all_lines f.bytes.now)))

-- a part ends within its bytes
does_within : (n : ℕ) (last : Bool) (source : List ℕ) (r r' : Radix) (ps : List Piece) (acts : List PlacedAct) (c : PartEnd) → Marks (length source) ps → Does n last source r ps acts r' c → c.stop ≤ length source
does_within n last source r r' ps acts c marks (ends q p qs tags said d reads e) =
    let tokens : List Token = part_tokens source in
    stop_by (length source) (closing (length source) (own tokens p) p.mark said.form) d
    (closing_within (length source) (own tokens p) p.mark said.form marks.0 (own_within tokens (length source) p (part_tokens_within source))) e
does_within n last source r r' ps acts c marks (goes_on q q' p qs tags said later d reads e h) = does_within n last source (radix_after q said.form) q' qs later d marks.1 h

module _ (part : NumberedPart) (before : Radix) (old new : List PlacedAct) (reached : ReadingState) (is : IsRead part before old new reached) where
  pub stop_inside : reached.close.stop ≤ length part.source.now
  stop_inside =
      does_within part.number part.last part.source.now before reached.radix (pieces 0 0 (part_tokens part.source.now)) is.acts reached.close
      (marks_within (length part.source.now) 0 0 (part_tokens part.source.now) (part_tokens_within part.source.now)) is.does

-- the lines of one part more
pub front_lines : (n : ℕ) (source : List ℕ) (c : PartEnd) (fs fs' : List PartText) (f : PartText) → fs' ≡ fs ++ f ∷ [] → f.number ≡ n → f.bytes.now ≡ take c.stop source
    → lines_of_fronts fs' ≡ lines_of_fronts fs ++ part_lines n source c
front_lines n source c fs fs' f more number bytes =
    ap lines_of_fronts more ∙ fronts_more fs f
    ∙ (λ i. lines_of_fronts fs ++ text_lines (number i) 1 (bytes i) (all_lines (bytes i)))
    ∙ ap (λ l. lines_of_fronts fs ++ l) (lines_same n source c.stop)

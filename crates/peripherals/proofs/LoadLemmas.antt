-- One more word of an image laid over a memory.
use Rattle.std.proofs.Common.{ℕ, ◌≡◌, ◌≢◌, ◌<◌, ◌+◌, Option, Some, None, List, arith, refl, Bool, true, false, inl, inr, if◌then◌else◌}
use Rattle.std.specs.Prelude.{unwrap_or, nat_lt}
use Rattle.std.proofs.lemmas.Bool.Decides.{nat_tests}
use Rattle.std.proofs.lemmas.Bool.{cases_eq}
use Rattle.std.proofs.Math.Path.{fun_ext}
use Rattle.bin_tape.specs.Image.{word_at}
use Rattle.processor.specs.Cells.{Cells, updated}
use Rattle.processor.specs.Runs.{Image}
use Rattle.processor.proofs.CellLemmas.{updated_same, updated_other}
use Rattle.peripherals.specs.Loading.{image_of, laid}

-- the image laid over the first addresses
abbrev pub laid_below : ℕ → Image → Cells → ℕ → ℕ
laid_below n image memory a = if nat_lt a n then laid image memory a else memory a

further : (i a x y : ℕ) → a ≢ i → (if nat_lt a (i + 1) then x else y) ≡ (if nat_lt a i then x else y)
further i a x y other = grind (arith, nat_tests)

there : (i x y : ℕ) → (if nat_lt i (i + 1) then x else y) ≡ x
there i x y = grind (arith, nat_tests)

not_there : (i x y : ℕ) → (if nat_lt i i then x else y) ≡ y
not_there i x y = grind (arith, nat_tests)

pub lay_some : (image : Image) (cell start : Cells) (i w : ℕ) → image i ≡ Some w → ((a : ℕ) → cell a ≡ laid_below i image start a) → (a : ℕ) → updated cell i w a ≡ laid_below (i + 1) image start a
lay_some image cell start i w word so_far a = elim (cases_eq a i) [
  | inl e ↦ rw (e, updated_same cell i w, there i (laid image start i) (start i), word) refl
  | inr other ↦ rw (updated_other cell i w a other, further i a (laid image start a) (start a) other) (so_far a)
]

pub lay_none : (image : Image) (cell start : Cells) (i : ℕ) → image i ≡ None → ((a : ℕ) → cell a ≡ laid_below i image start a) → (a : ℕ) → cell a ≡ laid_below (i + 1) image start a
lay_none image cell start i word so_far a = elim (cases_eq a i) [
  | inl e ↦ rw (e, there i (laid image start i) (start i), word) (rw (not_there i (laid image start i) (start i)) at (so_far i))
  | inr other ↦ rw (further i a (laid image start a) (start a) other) (so_far a)
]

none_yet : (a x y : ℕ) → (if nat_lt a 0 then x else y) ≡ y
none_yet a x y = grind (arith, nat_tests)

pub lay_start : (image : Image) (start : Cells) (a : ℕ) → start a ≡ laid_below 0 image start a
lay_start image start a = rw (none_yet a (laid image start a) (start a)) refl

-- beyond the addresses an image has no word
beyond : (b : Bool) (x : Option ℕ) (y : ℕ) → (if b then unwrap_or (if b then x else None) y else y) ≡ unwrap_or (if b then x else None) y
beyond true x y = refl
beyond false x y = refl

pub lay_all : (cells : List (Option ℕ)) (cell start : Cells) → ((a : ℕ) → cell a ≡ laid_below 4096 (image_of cells) start a) → cell ≡ laid (image_of cells) start
lay_all cells cell start all = fun_ext (λ a. rw (all a) (beyond (nat_lt a 4096) _ (start a)))

if_below : (a : ℕ) (x y : Option ℕ) → a < 4096 → (if nat_lt a 4096 then x else y) ≡ x
if_below a x y h = grind (arith, nat_tests)

pub image_of-word : (cells : List (Option ℕ)) (a : ℕ) → a < 4096 → image_of cells a ≡ word_at cells a
image_of-word cells a h = if_below a (word_at cells a) None h

-- a word of the tape is what is loaded
pub laid_word : (image : Image) (memory : Cells) (a w : ℕ) → image a ≡ Some w → laid image memory a ≡ w
laid_word image memory a w is = rw is refl

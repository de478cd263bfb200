-- Texts of lists of bytes, one byte more.
use Rattle.std.proofs.Common.{ℕ, Bool, ◌≡◌, ◌+◌, ◌%◌, ◌==◌, ◌<◌, List, [], ◌∷◌, ◌++◌, take, get_or, length, map, refl, sym, append_assoc, append-nil, add-one, arith}
use Rattle.std.specs.Prelude.{not}
use Rattle.machine_commands.specs.Session.{character, leaves_open}
use Rattle.std.proofs.lemmas.List.{take_more}
use Rattle.processor.specs.Cells.{Cells}
use Rattle.machine_commands.specs.Summary.{bytes_text, byte_text, cell_line, cells_below}

bytes_text-push : (bs : List ℕ) (b : ℕ) → bytes_text (bs ++ b ∷ []) ≡ bytes_text bs ++ byte_text b
bytes_text-push [] b = append-nil (byte_text b)
bytes_text-push (x ∷ bs) b = rw (bytes_text-push bs b) (sym (append_assoc (byte_text x) (bytes_text bs) (byte_text b)))

pub next_byte : (text bs : List ℕ) (i : ℕ) → i < length bs → text ++ bytes_text (take (i + 1) bs) ≡ (text ++ bytes_text (take i bs)) ++ byte_text (get_or bs i 0)
next_byte text bs i h = rw (take_more bs i 0 h, bytes_text-push (take i bs) (get_or bs i 0)) (sym (append_assoc text (bytes_text (take i bs)) (byte_text (get_or bs i 0))))

-- whether the last byte leaves a line open
open_at : (b : ℕ) (bytes : List ℕ) → not (get_or (b ∷ bytes) (length bytes) 0 % 128 == 10) ≡ leaves_open (map character (b ∷ bytes))
open_at b [] = refl
open_at b (d ∷ bytes) = open_at d bytes

pub open_last : (bytes : List ℕ) (i : ℕ) → i + 1 ≡ length bytes → not (get_or bytes i 0 % 128 == 10) ≡ leaves_open (map character bytes)
open_last [] i is = absurd (omega (arith, is))
open_last (b ∷ bytes) i is = let same : i ≡ length bytes = omega (arith, is) in rw same (open_at b bytes)

-- the lines of the named cells, one address more
pub cells_none : (text : List ℕ) (named : ℕ → Bool) (memory : Cells) → text ++ cells_below named memory 0 ≡ text
unfolding cells_below
cells_none text named memory = append-nil text

pub cells_next : (text : List ℕ) (named : ℕ → Bool) (memory : Cells) (i : ℕ) → text ++ cells_below named memory (i + 1) ≡ (text ++ cells_below named memory i) ++ cell_line (named i) i (memory i)
unfolding cells_below
cells_next text named memory i = rw (add-one i) (sym (append_assoc text (cells_below named memory i) (cell_line (named i) i (memory i))))

pub ruleset cells_steps = (arith, cells_none, cells_next)

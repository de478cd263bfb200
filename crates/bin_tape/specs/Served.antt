-- What the reading in pieces keeps, frame by frame: the private contracts of the calls below `read_from`.
use Rattle.std.specs.Prelude.{◌≡◌, ℕ, ◌+◌, ◌≤◌, List, length, take, Option, Some, None, Result, Err, nat_lt, ◌⊎◌, ⊤}
use Rattle.std.specs.Io.KnownBytes.{Consumes}
use Rattle.bin_tape.specs.declared.fault.TapeFault.{TapeFault}
use Rattle.bin_tape.specs.declared.fault.TapeFault.TheVariants.{ReadFault}
use Rattle.bin_tape.specs.declared.reader.TapeParser.{TapeParser}
use Rattle.bin_tape.specs.Reading.{reads, Answers}
use Rattle.bin_tape.specs.Holds.{Shows, IsOpen}

-- So many frames were taken, and brought no answer.
pub record CameTo (old new : Option (List ℕ)) (at : ℕ) (r : TapeParser) : Type 0 where
  pub given : List ℕ
  pub taken : Consumes old new given
  pub count : length given ≡ at
  pub shows : Shows (reads given) r
  pub unanswered : IsOpen (reads given)

-- They bring no answer, and are so few that another is looked at.
pub record StaysOpen (given : List ℕ) : Type 0 where
  pub few : length given ≤ 65536
  pub unanswered : IsOpen (reads given)

-- What the source gave brings the answer of all its bytes, or a read failed before it had one.
pub record ServesAll (bytes : List ℕ) (new : Option (List ℕ)) (r : Result (List (Option ℕ)) TapeFault) : Type 0 where
  pub given : List ℕ
  pub taken : Consumes (Some bytes) new given
  pub count : length given ≤ 65537
  pub prompt : (n : ℕ) → n + 512 ≤ length given → IsOpen (reads (take n given))
  pub answer : ((r ≡ Err ReadFault) × StaysOpen given) ⊎ Answers (nat_lt 65536 (length bytes)) (reads (take 65536 bytes)) r

-- What the source gave brings the answer of all its bytes, or a read failed before it had one. Nothing is said of a
-- source that does not tell its bytes.
abbrev pub Serves : Option (List ℕ) → Option (List ℕ) → Result (List (Option ℕ)) TapeFault → Type 0
Serves None new r = ⊤
Serves (Some bytes) new r = ServesAll bytes new r

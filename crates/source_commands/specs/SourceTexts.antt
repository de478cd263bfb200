-- The parts of a source as they are read.
use Rattle.std.specs.Prelude.{ℕ, ◌≡◌, ◌+◌, ◌≤◌, ◌<◌, Bool, true, false, ◌||◌, nat_lt, IfSome, List, [], ◌∷◌, Option, Some, Result, Err, length, map, take, drop, slice_get}
use Rattle.std.specs.List.{AllByRecursion, list_any}
use Rattle.streams.specs.Bytes.{Gave}
use Rattle.pal_acts.specs.declared.fault_code.FaultCode.TheVariants.{TooLong}
use Rattle.pal_asm.specs.Sources.{fault_at, size_fault}
use Rattle.command_parts.specs.declared.status.Fault.{Fault}
use Rattle.command_parts.specs.Faults.{fails_to_read}
use Rattle.command_parts.specs.Inputs.{TakesAtMost}
use Rattle.command_parts.specs.declared.status.Fault.TheVariants.{Source, Device}
use Rattle.command_parts.specs.declared.status.Fault.TheVariants as fault
use Rattle.command_parts.specs.declared.status.DeviceFault.TheVariants.{Read}

-- These are the parts that sources with these bytes hold: one part for each source, equal to its bytes as far as they
-- are known.
abbrev pub AreRead : List (Option (List ℕ)) → List (List ℕ) → Type 0
AreRead [] [] = Unit {0}
AreRead [] (part ∷ parts) = ⊥
AreRead (source ∷ sources) [] = ⊥
AreRead (source ∷ sources) (part ∷ parts) = IfSome source (λ bytes. part ≡ bytes) × AreRead sources parts

-- Whether there are no parts, or more than 16.
abbrev pub is_bad_number : ℕ → Bool
is_bad_number n = nat_lt n 1 || nat_lt 16 n

-- A part with these bytes is not too long: it has at most 65,536 bytes.
abbrev pub IsShort : List ℕ → Type 0
IsShort bytes = length bytes ≤ 65536

-- Among sources that have these marks, had these bytes and have those bytes left, the read of one failed. The number of
-- sources is valid, none before it is too long, and the bytes that it gave until then are not too many.
pub record FailsToReadPart (marks : List Bool) (sources left : List (Option (List ℕ))) : Type 0 where
  pub at : ℕ
  pub failed : slice_get marks at ≡ Some true
  pub number : is_bad_number (length sources) ≡ false
  pub before : AllByRecursion (λ source. IfSome source IsShort) (take at sources)
  pub had : Option (List ℕ)
  pub there : slice_get sources at ≡ Some had
  pub has : Option (List ℕ)
  pub still : slice_get left at ≡ Some has
  pub gave : Gave had has IsShort

-- A source holds this part, which is too long.
pub record IsLong (had : Option (List ℕ)) : Type 0 where
  pub part : List ℕ
  pub is : IfSome had (λ bytes. part ≡ bytes)
  pub long : 65536 < length part

-- Why the part with this number is not read from a source that had these bytes and has those bytes left: it is too
-- long, its read failed, or memory was refused.
abbrev pub IsPartFault : ℕ → Option (List ℕ) → Option (List ℕ) → Fault → Type 0
IsPartFault n had has (Source fault) = (fault ≡ fault_at TooLong n 0) × IsLong had
IsPartFault n had has (Device Read) = Gave had has IsShort
IsPartFault n had has fault.NoMemory = Unit {0}
IsPartFault n had has _ = ⊥

-- Why there are no parts: the sources have a fault of their sizes, a read failed, or memory was refused.
abbrev pub ArePartsFault : List Bool → List (Option (List ℕ)) → List (Option (List ℕ)) → Fault → Type 0
ArePartsFault marks sources left (Source fault) =
    (parts : List (List ℕ)) × AreRead sources parts × (size_fault parts ≡ Some fault)
ArePartsFault marks sources left (Device Read) = FailsToReadPart marks sources left
ArePartsFault marks sources left fault.NoMemory = is_bad_number (length sources) ≡ false
ArePartsFault marks sources left _ = ⊥

-- At most this many bytes were taken from each of these sources, which had these bytes and have those bytes left.
abbrev pub EachTakesAtMost : ℕ → List (Option (List ℕ)) → List (Option (List ℕ)) → Type 0
EachTakesAtMost most [] left = Unit {0}
EachTakesAtMost most (had ∷ sources) [] = ⊥
EachTakesAtMost most (had ∷ sources) (has ∷ left) = TakesAtMost most had has × EachTakesAtMost most sources left

-- Among sources with these bytes, this one holds a part that is too long.
pub record IsLongAt (sources : List (Option (List ℕ))) (at : ℕ) : Type 0 where
  pub part : List ℕ
  pub there : slice_get sources at ≡ Some (Some part)
  pub long : 65536 < length part

-- Among sources that had these bytes and have those bytes left, this one has some left.
pub record HasLeft (sources left : List (Option (List ℕ))) (at : ℕ) : Type 0 where
  pub part : List ℕ
  pub there : slice_get sources at ≡ Some (Some part)
  pub next : ℕ
  pub more : List ℕ
  pub still : slice_get left at ≡ Some (Some (next ∷ more))

-- The sources after this one are as they were.
abbrev pub LeavesThoseAfter : {S : Type 0} → ℕ → List S → List S → Type 0
LeavesThoseAfter at old new = drop (at + 1) new ≡ drop (at + 1) old

-- How sources are read as parts, one after another, where it is given whether a read of a source failed and which bytes it
-- has; and what the command answers.
pub record ReadsParts {S T : Type 0} (mark : S → Bool) (remaining : S → Option (List ℕ)) (old new : List S) (result : Result T Fault) : Type 0 where
  -- a read failed if and only if the answer says so
  pub marks : list_any mark new ≡ fails_to_read result
  -- a wrong number of sources is reported, and nothing is read
  pub number : is_bad_number (length old) ≡ true → (result ≡ Err (Source (fault_at TooLong 0 0))) × (new ≡ old)
  -- the sources after one that is too long, or whose read failed, are not read
  pub unread : (at : ℕ) → IsLongAt (map remaining old) at → LeavesThoseAfter at old new
  pub unread_after_failure : (at : ℕ) → slice_get (map mark new) at ≡ Some true → LeavesThoseAfter at old new
  -- a source is read only if those before it are read to their ends
  pub unread_after : (at : ℕ) → HasLeft (map remaining old) (map remaining new) at → LeavesThoseAfter at old new
  -- from a source, at most one byte more is taken than a part may have, which shows that the part is too long
  pub takes : EachTakesAtMost 65537 (map remaining old) (map remaining new)

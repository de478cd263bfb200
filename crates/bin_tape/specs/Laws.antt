-- What the grammar of tapes leaves open: nothing, however many frames are looked at.
use Rattle.std.specs.Prelude.{◌≡◌, ℕ, ◌⊎◌, List, Option, take}
use Rattle.bin_tape.specs.declared.fault.TapeFault.{TapeFault}
use Rattle.bin_tape.specs.Tape.{IsTape}
use Rattle.bin_tape.specs.Refuses.{Refuses}

-- A list of frames is a tape of one image at most.
abbrev pub TapeImageIsOne : Type 0
TapeImageIsOne = (tape : List ℕ) (image image' : List (Option ℕ)) → IsTape tape image → IsTape tape image' → image ≡ image'

-- A list of frames, of which so many are looked at, is refused with one fault at most.
abbrev pub TapeFaultIsOne : Type 0
TapeFaultIsOne = (limit : ℕ) (fs : List ℕ) (fault fault' : TapeFault) → Refuses limit fs fault → Refuses limit fs fault' → fault ≡ fault'

-- Frames that are a tape as far as they are looked at are not refused: no list of frames has both an image and a fault.
abbrev pub TapeIsNoFault : Type 0
TapeIsNoFault = (limit : ℕ) (fs : List ℕ) (image : List (Option ℕ)) (fault : TapeFault) → IsTape (take limit fs) image → Refuses limit fs fault → ⊥

-- Each list of frames, of which so many are looked at, is a tape or is refused with a fault.
abbrev pub EachTapeIsAnswered : Type 0
EachTapeIsAnswered =
    (limit : ℕ) (fs : List ℕ) → ((image : List (Option ℕ)) × IsTape (take limit fs) image) ⊎ ((fault : TapeFault) × Refuses limit fs fault)

-- The tape that is written of an image.
use Rattle.std.specs.Prelude.{◌≡◌, ℕ, zero, suc, ◌%◌, if◌then◌else◌, Bool, true, List, [], ◌∷◌, ◌++◌, Option, Some, None, is_none, replicate, false, Result, Ok, Err}
use Rattle.bin_tape.specs.declared.word.TapeWord.{TapeWord}
use Rattle.bin_tape.specs.declared.word.TapeWord.TheVariants.{Origin, Data}
use Rattle.bin_tape.specs.declared.fault.WriteTapeFault.{WriteTapeFault}
use Rattle.bin_tape.specs.declared.fault.WriteTapeFault.TheVariants.{EmptyImage, WriteFault}
use Rattle.bin_tape.specs.Image.{word_at, HoldsWords, IsEmptyImage}
use Rattle.bin_tape.specs.Tape.{frames, checksum}

-- A run of consecutive addresses begins at 0000, and where the address before has no word.
abbrev pub begins_run : List (Option ℕ) → ℕ → Bool
begins_run image zero = true
begins_run image (suc a) = is_none (word_at image a)

-- The words that an address brings, the newest first: its word, if it has one, after an origin where a run begins.
abbrev pub cell_words : ℕ → Bool → Option ℕ → List TapeWord
cell_words a begins None = []
cell_words a begins (Some v) = Data v ∷ (if begins then Origin a ∷ [] else [])

-- The words on the tape for all addresses below this one, in rising order; the newest is first, as in `Tape`.
unfoldable pub words_below : List (Option ℕ) → ℕ → List TapeWord
words_below image zero = []
words_below image (suc a) = cell_words a (begins_run image a) (word_at image a) ++ words_below image a

-- The frames of words, one word after another.
unfoldable pub word_frames : List TapeWord → List ℕ
word_frames [] = []
word_frames (w ∷ before) = word_frames before ++ frames w

-- The tape of these words: 16 frames 0200, the words, the checksum, and 16 frames 0200.
abbrev pub written_words : List TapeWord → List ℕ
written_words ws = replicate 16 128 ++ word_frames ws ++ frames (Data (checksum ws % 4096)) ++ replicate 16 128

-- The tape of an image: the words of all 4096 addresses.
unfoldable pub written_tape : List (Option ℕ) → List ℕ
written_tape image = written_words (words_below image 4096)

-- These frames are the tape that is written of this image, which has a word.
pub record IsWrittenTape (tape : List ℕ) (image : List (Option ℕ)) : Type 0 where
  pub holds : HoldsWords image
  pub has_word : IsEmptyImage image → ⊥
  pub is : tape ≡ written_tape image

-- The answer to writing a tape is that a write failed; that the image has no word is another fault.
abbrev pub failed_to_write : Result Unit WriteTapeFault → Bool
failed_to_write (Ok done) = false
failed_to_write (Err EmptyImage) = false
failed_to_write (Err WriteFault) = true

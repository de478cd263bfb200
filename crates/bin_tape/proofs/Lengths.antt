-- How long a written tape is.
use Rattle.std.proofs.Common.{◌≡◌, ◌≢◌, ◌∙◌, ap, refl, ℕ, zero, suc, ◌+◌, ◌*◌, ◌%◌, ◌≤◌, List, [], ◌∷◌, ◌++◌, length, take, arith, length-append, replicate, Bool, true, false}
use Rattle.std.specs.Prelude.{Option, Some, None, is_none}
use Rattle.std.proofs.lemmas.List.{take_all, length-replicate}
use Rattle.bin_tape.specs.declared.word.TapeWord.{TapeWord}
use Rattle.bin_tape.specs.declared.word.TapeWord.TheVariants.{Data}
use Rattle.bin_tape.specs.Image.{word_at, IsFullImage}
use Rattle.bin_tape.specs.Tape.{frames, checksum, IsTape}
use Rattle.bin_tape.specs.Written.{begins_run, cell_words, words_below, word_frames, written_tape, IsWrittenTape}
use Rattle.bin_tape.proofs.WordFrames.{frames_length, begins_run-more}
use Rattle.bin_tape.proofs.ReadBack.{reads_back}

-- ---- words

length-word_frames : (ws : List TapeWord) → length (word_frames ws) ≡ 2 * length ws
unfolding word_frames
length-word_frames [] = refl
length-word_frames (w ∷ before) = omega (arith, length-append (word_frames before) (frames w), frames_length w, length-word_frames before)

-- a word is saved where the next address begins a run
abbrev saved : Bool → ℕ
saved true = 1
saved false = 0

cell_count : (a count : ℕ) (begins : Bool) (cell : Option ℕ) → count + saved begins ≤ a + 1
    → (length (cell_words a begins cell) + count) + saved (is_none cell) ≤ (a + 1) + 1
cell_count a count true None h = omega (arith, h)
cell_count a count false None h = omega (arith, h)
cell_count a count true (Some v) h = omega (arith, h)
cell_count a count false (Some v) h = omega (arith, h)

count_below : (image : List (Option ℕ)) (n : ℕ) → length (words_below image n) + saved (begins_run image n) ≤ n + 1
unfolding words_below
count_below image zero = omega arith
count_below image (suc n) =
    let cell = cell_count n (length (words_below image n)) (begins_run image n) (word_at image n) (count_below image n) in
    omega (arith, cell, length-append (cell_words n (begins_run image n) (word_at image n)) (words_below image n))

pub frames_below : (image : List (Option ℕ)) (n : ℕ) → length (word_frames (words_below image n)) ≤ 2 * (n + 1)
frames_below image n = omega (arith, length-word_frames (words_below image n), count_below image n)

-- ---- an image with a word at every address

full_cell : (a count : ℕ) (begins : Bool) (cell : Option ℕ) → cell ≢ None → count + saved begins ≡ a + 1
    → (length (cell_words a begins cell) + count) + saved (is_none cell) ≡ (a + 1) + 1
full_cell a count begins None some h = absurd (some refl)
full_cell a count true (Some v) some h = omega (arith, h)
full_cell a count false (Some v) some h = omega (arith, h)

full_below : (image : List (Option ℕ)) (n : ℕ) → IsFullImage image → n ≤ 4096 → length (words_below image n) + saved (begins_run image n) ≡ n + 1
unfolding words_below
full_below image zero full le = omega arith
full_below image (suc n) full le =
    let cell = full_cell n (length (words_below image n)) (begins_run image n) (word_at image n) (full n (omega arith)) (full_below image n full (omega arith)) in
    omega (arith, cell, length-append (cell_words n (begins_run image n) (word_at image n)) (words_below image n))

none_saved : (cell : Option ℕ) → cell ≢ None → saved (is_none cell) ≡ 0
none_saved None some = absurd (some refl)
none_saved (Some v) some = refl

full_count : (image : List (Option ℕ)) → IsFullImage image → length (words_below image 4096) ≡ 4097
full_count image full =
    let last : saved (begins_run image 4096) ≡ 0 = ap saved (begins_run-more image 4095) ∙ none_saved (word_at image 4095) (full 4095 (omega arith)) in
    omega (arith, full_below image 4096 full (omega arith), last)

-- ---- the tape

length-around : (leader words checksum : List ℕ) → length leader ≡ 16 → length checksum ≡ 2 → length (leader ++ words ++ checksum ++ leader) ≡ length words + 34
length-around leader words checksum l c =
    omega (arith, l, c, length-append (leader ++ words ++ checksum) leader, length-append (leader ++ words) checksum, length-append leader words)

length-written : (image : List (Option ℕ)) → length (written_tape image) ≡ 2 * length (words_below image 4096) + 34
unfolding written_tape
length-written image =
    length-around (replicate 16 128) (word_frames (words_below image 4096)) (frames (Data (checksum (words_below image 4096) % 4096))) (length-replicate {A = ℕ} 16 128) refl
    ∙ omega (arith, length-word_frames (words_below image 4096))

pub written_at_most : (image : List (Option ℕ)) → length (written_tape image) ≤ 8228
written_at_most image = omega (arith, length-written image, count_below image 4096)

pub written_fullest : (image : List (Option ℕ)) → IsFullImage image → length (written_tape image) ≡ 8228
written_fullest image full = omega (arith, length-written image, full_count image full)

-- ---- all of it is looked at

pub written_within : (limit : ℕ) (fs : List ℕ) (image : List (Option ℕ)) → 8228 ≤ limit → IsWrittenTape fs image → IsTape (take limit fs) image
written_within limit fs image wide h =
    let short : length fs ≤ limit = omega (arith, wide, ap length h.is, written_at_most image) in
    rw (take_all limit fs short, h.is) (reads_back image h.holds h.has_word)

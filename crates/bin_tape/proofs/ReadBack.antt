-- The tape that is written of an image is a tape with this image.
use Rattle.std.proofs.Common.{◌≡◌, ◌≢◌, ◌∙◌, sym, ap, subst, refl, ℕ, zero, suc, ◌+◌, ◌%◌, ◌<◌, ◌≤◌, List, [], ◌∷◌, ◌++◌, arith, add-one, append_assoc, append-nil, replicate, Bool, true, false, true≢false, if◌then◌else◌, inl, inr}
use Rattle.std.specs.Prelude.{Option, Some, None, is_none}
use Rattle.std.proofs.lemmas.Bool.{cases_eq, eq-eqb, ne_eqb}
use Rattle.std.proofs.lemmas.List.{replicate-append-replicate}
use Rattle.bin_tape.specs.declared.word.TapeWord.{TapeWord}
use Rattle.bin_tape.specs.declared.word.TapeWord.TheVariants.{Origin, Data}
use Rattle.bin_tape.specs.Image.{word_at, HoldsWords, IsEmptyImage}
use Rattle.bin_tape.specs.Tape.{Part, leader, word, words, frames, spelling, IsPart, AreParts, location, image_at, checksum, IsTape}
use Rattle.bin_tape.specs.Written.{begins_run, cell_words, words_below, word_frames, written_tape}
use Rattle.bin_tape.proofs.WordFrames.{empty_below}

-- ---- words after a leader, as parts

leaders : ℕ → List Part
leaders zero = []
leaders (suc n) = leader 128 ∷ leaders n

word_parts : ℕ → List TapeWord → List Part
word_parts lead [] = leaders lead
word_parts lead (w ∷ before) = word w ∷ word_parts lead before

leader_words : (n : ℕ) → words (leaders n) ≡ []
unfolding leaders
leader_words zero = refl
leader_words (suc n) = leader_words n

words_are : (lead : ℕ) (ws : List TapeWord) → words (word_parts lead ws) ≡ ws
unfolding word_parts
words_are lead [] = leader_words lead
words_are lead (w ∷ before) = ap (λ ws. w ∷ ws) (words_are lead before)

leader_spelled : (n : ℕ) → spelling (leaders n) ≡ replicate n 128
unfolding leaders spelling
leader_spelled zero = refl
leader_spelled (suc n) = ap (λ l. l ++ 128 ∷ []) (leader_spelled n) ∙ replicate-append-replicate n 1 128 ∙ ap (λ k. replicate k 128) (add-one n)

parts_spelled : (lead : ℕ) (ws : List TapeWord) → spelling (word_parts lead ws) ≡ replicate lead 128 ++ word_frames ws
unfolding word_parts spelling word_frames
parts_spelled lead [] = leader_spelled lead ∙ sym (append-nil (replicate lead 128))
parts_spelled lead (w ∷ before) = ap (λ l. l ++ frames w) (parts_spelled lead before) ∙ append_assoc (replicate lead 128) (word_frames before) (frames w)

leader_lawful : (n : ℕ) → AreParts (leaders n)
unfolding leaders
leader_lawful zero = tt
leader_lawful (suc n) = ((leader_words n, inr refl), leader_lawful n)

-- each word may come after those before it
AreLawful : List TapeWord → Type 0
AreLawful [] = Unit {0}
AreLawful (w ∷ before) = IsPart before (word w) × AreLawful before

parts_lawful : (lead : ℕ) (ws : List TapeWord) → AreLawful ws → AreParts (word_parts lead ws)
unfolding word_parts AreLawful
parts_lawful lead [] h = leader_lawful lead
parts_lawful lead (w ∷ before) h = (subst (λ ws. IsPart ws (word w)) (sym (words_are lead before)) h.0, parts_lawful lead before h.1)

-- ---- the words of an image

some_word : (b : ℕ) (begins : Bool) (cell : Option ℕ) (before : List TapeWord) → is_none cell ≡ false → cell_words b begins cell ++ before ≢ []
some_word b begins None before e = λ _. true≢false e
some_word b begins (Some v) before e = λ none. cc

goes_on : (image : List (Option ℕ)) (a : ℕ) → begins_run image a ≡ false → words_below image a ≢ []
unfolding words_below
goes_on image zero e = λ _. true≢false e
goes_on image (suc b) e = some_word b (begins_run image b) (word_at image b) (words_below image b) e

lawful_cell : (a : ℕ) (begins : Bool) (cell : Option ℕ) (before : List TapeWord) → a < 4096 → ((v : ℕ) → cell ≡ Some v → v < 4096) → (begins ≡ false → before ≢ []) → AreLawful before
    → AreLawful (cell_words a begins cell ++ before)
unfolding AreLawful
lawful_cell a begins None before lt small more h = h
lawful_cell a true (Some v) before lt small more h = ((small v refl, λ none. cc), (lt, h))
lawful_cell a false (Some v) before lt small more h = ((small v refl, more refl), h)

lawful_below : (image : List (Option ℕ)) (n : ℕ) → HoldsWords image → n ≤ 4096 → AreLawful (words_below image n)
unfolding words_below AreLawful
lawful_below image zero h le = tt
lawful_below image (suc n) h le = lawful_cell n (begins_run image n) (word_at image n) (words_below image n) (omega arith) (h.words n) (goes_on image n) (lawful_below image n h (omega arith))

-- each word goes where it came from
located_step : (b : ℕ) (begins : Bool) (cell : Option ℕ) (before : List TapeWord) → suc b < 4096 → location ((if begins then Origin b ∷ [] else []) ++ before) ≡ b
    → location ((if is_none cell then Origin (suc b) ∷ [] else []) ++ (cell_words b begins cell ++ before)) ≡ suc b
located_step b begins None before lt h = refl
located_step b begins (Some v) before lt h = ap (λ n. (n + 1) % 4096) h ∙ omega arith

located : (image : List (Option ℕ)) (a : ℕ) → a < 4096 → location ((if begins_run image a then Origin a ∷ [] else []) ++ words_below image a) ≡ a
unfolding words_below
located image zero lt = refl
located image (suc b) lt = located_step b (begins_run image b) (word_at image b) (words_below image b) lt (located image b (omega arith))

other_cell : (b a : ℕ) (begins : Bool) (cell : Option ℕ) (before : List TapeWord) → location ((if begins then Origin b ∷ [] else []) ++ before) ≡ b → a ≢ b
    → image_at (cell_words b begins cell ++ before) a ≡ image_at before a
other_cell b a begins None before h n = refl
other_cell b a true (Some v) before h n = rw (ne_eqb b a (λ e. n (sym e))) refl
other_cell b a false (Some v) before h n = rw (h, ne_eqb b a (λ e. n (sym e))) refl

own_cell : (b : ℕ) (begins : Bool) (cell : Option ℕ) (before : List TapeWord) → location ((if begins then Origin b ∷ [] else []) ++ before) ≡ b → image_at before b ≡ None
    → image_at (cell_words b begins cell ++ before) b ≡ cell
own_cell b begins None before h none = none
own_cell b true (Some v) before h none = rw (eq-eqb b b refl) refl
own_cell b false (Some v) before h none = rw (h, eq-eqb b b refl) refl

past : (image : List (Option ℕ)) (n a : ℕ) → n ≤ 4096 → n ≤ a → image_at (words_below image n) a ≡ None
unfolding words_below
past image zero a le out = refl
past image (suc n) a le out =
    other_cell n a (begins_run image n) (word_at image n) (words_below image n) (located image n (omega arith)) (λ e. omega (arith, e)) ∙ past image n a (omega arith) (omega arith)

within : (image : List (Option ℕ)) (n a : ℕ) → n ≤ 4096 → a < n → image_at (words_below image n) a ≡ word_at image a
unfolding words_below
within image zero a le lt = absurd (omega arith)
within image (suc n) a le lt = elim (cases_eq a n) [
  | inl same ↦ rw same (own_cell n (begins_run image n) (word_at image n) (words_below image n) (located image n (omega arith)) (past image n n (omega arith) (omega arith)))
  | inr other ↦ other_cell n a (begins_run image n) (word_at image n) (words_below image n) (located image n (omega arith)) other ∙ within image n a (omega arith) (omega (arith, other))
]

-- ---- the tape

tape_spelled : (ws : List TapeWord) (sum : ℕ) (rest : List ℕ) → replicate 16 128 ++ word_frames ws ++ frames (Data sum) ++ 128 ∷ rest ≡ spelling (word (Data sum) ∷ word_parts 16 ws) ++ 128 ∷ rest
unfolding spelling
tape_spelled ws sum rest = ap (λ l. l ++ frames (Data sum) ++ 128 ∷ rest) (sym (parts_spelled 16 ws))

pub reads_back : (image : List (Option ℕ)) → HoldsWords image → (IsEmptyImage image → ⊥) → IsTape (written_tape image) image
unfolding written_tape
reads_back image h some =
    let ws : List TapeWord = words_below image 4096 in
    let sum : ℕ = checksum ws % 4096 in
    record {
      parts = word (Data sum) ∷ word_parts 16 ws;
      rest = replicate 15 128;
      read = sum;
      others = ws;
      spells = tape_spelled ws sum (replicate 15 128);
      lawful = ((omega arith, λ none. some (λ a lt. empty_below image 4096 a (sym (words_are 16 ws) ∙ none) lt)), parts_lawful 16 ws (lawful_below image 4096 h (omega arith)));
      last = ap (λ l. Data sum ∷ l) (words_are 16 ws);
      sums = refl;
      cells = record { size = h.size; cells = λ a lt. sym (within image 4096 a (omega arith) lt) };
    }

-- The frames of the words of an image, address by address.
use Rattle.std.proofs.Common.{◌≡◌, ◌∙◌, sym, ap, refl, ℕ, zero, suc, ◌+◌, ◌-◌, ◌%◌, ◌<◌, ◌≤◌, List, [], ◌∷◌, ◌++◌, length, drop, take, arith, add-one, append_assoc, append-nil, length-append, replicate, Bool, inl, inr}
use Rattle.std.specs.Prelude.{sum, Option, Some, None, is_none}
use Rattle.std.proofs.lemmas.List.{take_all}
use Rattle.std.proofs.lemmas.List.Sums.{sum_by-append}
use Rattle.std.proofs.Math.Seq.{drop-append_seam}
use Rattle.std.proofs.lemmas.Bool.{cases_eq}
use Rattle.bin_tape.specs.declared.word.TapeWord.{TapeWord}
use Rattle.bin_tape.specs.declared.word.TapeWord.TheVariants.{Origin, Data}
use Rattle.bin_tape.specs.Image.{word_at, IsEmptyImage}
use Rattle.bin_tape.specs.Tape.{frames, checksum}
use Rattle.bin_tape.specs.Written.{begins_run, cell_words, words_below, word_frames, written_tape}

pub word_frames-append : (xs ys : List TapeWord) → word_frames (xs ++ ys) ≡ word_frames ys ++ word_frames xs
unfolding word_frames
word_frames-append [] ys = sym (append-nil (word_frames ys))
word_frames-append (x ∷ xs) ys = ap (λ l. l ++ frames x) (word_frames-append xs ys) ∙ append_assoc (word_frames ys) (word_frames xs) (frames x)

-- no address
pub no_frames : (image : List (Option ℕ)) → word_frames (words_below image 0) ≡ []
unfolding words_below word_frames
no_frames image = refl

-- one address more
pub words_below-more : (image : List (Option ℕ)) (a : ℕ) → words_below image (a + 1) ≡ cell_words a (begins_run image a) (word_at image a) ++ words_below image a
unfolding words_below
words_below-more image a = rw (add-one a) refl

pub begins_run-more : (image : List (Option ℕ)) (a : ℕ) → begins_run image (a + 1) ≡ is_none (word_at image a)
begins_run-more image a = rw (add-one a) refl

-- the words of an address are pushed after those below it
pub frames_more : (image : List (Option ℕ)) (head before after : List ℕ) (a address : ℕ) (begins : Bool) (cell : Option ℕ)
    → before ≡ head ++ word_frames (words_below image a) → address ≡ a → begins ≡ begins_run image a → cell ≡ word_at image address
    → after ≡ before ++ word_frames (cell_words address begins cell) → after ≡ head ++ word_frames (words_below image (a + 1))
frames_more image head before after a address begins cell b is run here pushed =
    pushed ∙ rw (b, here, is, run) (append_assoc head (word_frames (words_below image a)) (word_frames (cell_words a (begins_run image a) (word_at image a))))
    ∙ ap (λ l. head ++ l) (sym (word_frames-append (cell_words a (begins_run image a) (word_at image a)) (words_below image a)))
    ∙ ap (λ ws. head ++ word_frames ws) (sym (words_below-more image a))

sum-append : (xs ys : List ℕ) → sum (xs ++ ys) ≡ sum xs + sum ys
sum-append xs ys = sum_by-append (λ x. x) xs ys

-- the checksum is the sum of the frames
pub sum-word_frames : (ws : List TapeWord) → sum (word_frames ws) ≡ checksum ws
unfolding word_frames
sum-word_frames [] = refl
sum-word_frames (w ∷ before) = sum-append (word_frames before) (frames w) ∙ omega (arith, sum-word_frames before)

-- words have frames
pub frames_length : (w : TapeWord) → length (frames w) ≡ 2
frames_length (Origin v) = refl
frames_length (Data v) = refl

pub no_words : (ws : List TapeWord) → length (word_frames ws) ≡ 0 → ws ≡ []
unfolding word_frames
no_words [] e = refl
no_words (w ∷ before) e = absurd (omega (arith, e, length-append (word_frames before) (frames w), frames_length w))

no_both : (xs ys : List TapeWord) → xs ++ ys ≡ [] → (xs ≡ []) × (ys ≡ [])
no_both [] ys e = (refl, e)
no_both (x ∷ xs) ys e = cc

no_cell : (a : ℕ) (begins : Bool) (cell : Option ℕ) → cell_words a begins cell ≡ [] → cell ≡ None
no_cell a begins None e = refl
no_cell a begins (Some v) e = cc

-- an image without words has none at any address, and the other way round
pub empty_below : (image : List (Option ℕ)) (n a : ℕ) → words_below image n ≡ [] → a < n → word_at image a ≡ None
unfolding words_below
empty_below image zero a e lt = absurd (omega arith)
empty_below image (suc n) a e lt =
    let both = no_both (cell_words n (begins_run image n) (word_at image n)) (words_below image n) e in
    elim (cases_eq a n) [
      | inl same ↦ rw same (no_cell n (begins_run image n) (word_at image n) both.0)
      | inr other ↦ empty_below image n a both.1 (omega (arith, other))
    ]

pub words_of_empty : (image : List (Option ℕ)) (n : ℕ) → IsEmptyImage image → n ≤ 4096 → words_below image n ≡ []
unfolding words_below
words_of_empty image zero h le = refl
words_of_empty image (suc n) h le = rw (h n (omega arith)) (words_of_empty image n h (omega arith))

-- the words stand between the leader and what follows them
pub words_slice : (xs leader words : List ℕ) → xs ≡ leader ++ words → take (length xs - length leader) (drop (length leader) xs) ≡ words
words_slice xs leader words e =
    let rest : drop (length leader) xs ≡ words = ap (drop (length leader)) e ∙ drop-append_seam leader words in
    let size : length xs ≡ length leader + length words = ap length e ∙ length-append leader words in
    rw rest (take_all (length xs - length leader) words (omega (arith, size)))

-- what is gathered is the tape
pub gathered : (image : List (Option ℕ)) (sum_of : ℕ) (tape : List ℕ)
    → tape ≡ ((replicate 16 128 ++ word_frames (words_below image 4096)) ++ frames (Data sum_of)) ++ replicate 16 128
    → sum_of ≡ sum (word_frames (words_below image 4096)) % 4096 → tape ≡ written_tape image
unfolding written_tape
gathered image sum_of tape e is =
    let ws : List TapeWord = words_below image 4096 in
    let same : sum_of ≡ checksum ws % 4096 = is ∙ ap (λ n. n % 4096) (sum-word_frames ws) in
    e ∙ ap (λ n. replicate 16 128 ++ word_frames ws ++ frames (Data n) ++ replicate 16 128) same

pub no_frames_of : (image : List (Option ℕ)) (n : ℕ) → IsEmptyImage image → n ≤ 4096 → length (word_frames (words_below image n)) ≡ 0
unfolding word_frames
no_frames_of image n h le = rw (words_of_empty image n h le) refl

use Rattle.std.proofs.Common.{◌≡◌, ◌∙◌, sym, arith, refl, ap, ℕ, ◌-◌, ◌%◌, ◌++◌, List, [], length, take, drop, replicate, true≢false}
use Rattle.std.specs.Prelude.{Option, sum}
use Rattle.std.proofs.lemmas.Bool.{eqb-true, eqb-false}
use Rattle.bin_tape.specs.Written.{words_below, word_frames}
use Rattle.bin_tape.proofs.WordFrames.{words_slice, gathered, no_words, empty_below, no_frames_of}
use Rattle.bin_tape.proofs.write.tape_of.Goals as goal

-- what came after the leader
words_are : (image : List (Option ℕ)) (fresh led xs bytes : List ℕ) → fresh ≡ [] → led ≡ fresh ++ replicate 16 128 → xs ≡ led ++ word_frames (words_below image 4096) → bytes ≡ xs
    → take (length bytes - 16) (drop 16 bytes) ≡ word_frames (words_below image 4096)
words_are image fresh led xs bytes none leader words same =
    words_slice bytes (replicate 16 128) (word_frames (words_below image 4096)) (same ∙ words ∙ ap (λ l. l ++ word_frames (words_below image 4096)) (leader ∙ ap (λ l. l ++ replicate 16 128) none))

pub returns-then-is_empty-clause-empty : goal.returns-then-is_empty-clause-empty
returns-then-is_empty-clause-empty c =
    let slice = words_are c.args.image.now c.new-tape.result c.push_leader.new.self c.push_image.new.self c.as_slice.result.now c.new-tape.ensures c.push_leader.ensures c.push_image.ensures.words c.as_slice.ensures in
    let none : words_below c.args.image.now 4096 ≡ [] = no_words _ (ap length (sym slice) ∙ eqb-true _ 0 (sym c.is_empty.ensures ∙ c.if-is_empty.true)) in
    (λ _ a lt. empty_below c.args.image.now 4096 a none lt, λ _. refl)

pub returns-clause-empty : goal.returns-clause-empty
returns-clause-empty c =
    let slice = words_are c.args.image.now c.new-tape.result c.push_leader.new.self c.push_image.new.self c.as_slice.result.now c.new-tape.ensures c.push_leader.ensures c.push_image.ensures.words c.as_slice.ensures in
    (λ e. absurd (true≢false e), λ h. absurd (eqb-false _ 0 (sym c.is_empty.ensures ∙ c.if-is_empty.false) (ap length slice ∙ no_frames_of c.args.image.now 4096 h (omega arith))))

pub returns-clause-tape : goal.returns-clause-tape
returns-clause-tape c =
    let slice = words_are c.args.image.now c.new-tape.result c.push_leader.new.self c.push_image.new.self c.as_slice.result.now c.new-tape.ensures c.push_leader.ensures c.push_image.ensures.words c.as_slice.ensures in
    gathered c.args.image.now c.frame_sum-sum.result c.push_leader-2.new.self
    (c.push_leader-2.ensures ∙ rw (c.push_word.ensures, c.push_image.ensures.words, c.push_leader.ensures, c.new-tape.ensures) refl)
    (c.frame_sum-sum.ensures ∙ ap (λ l. sum l % 4096) slice)

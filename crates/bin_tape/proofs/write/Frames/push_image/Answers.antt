use Rattle.std.proofs.Common.{◌≡◌, ◌∙◌, sym, append-nil, arith, refl, ap, length, length-append, ℕ, ◌+◌, List, Bool, true, false, not}
use Rattle.std.specs.Prelude.{is_none, is_some, Option, Some, None}
use Rattle.bin_tape.specs.Image.{word_at}
use Rattle.bin_tape.specs.Written.{begins_run, words_below, word_frames}
use Rattle.bin_tape.proofs.WordFrames.{no_frames, frames_more, begins_run-more}
use Rattle.bin_tape.proofs.Lengths.{frames_below}
use Rattle.bin_tape.proofs.write.Frames.push_image.Goals as goal

not_some : (cell : Option ℕ) (b : Bool) → is_some cell ≡ not b → b ≡ is_none cell
not_some None true e = refl
not_some None false e = e
not_some (Some v) true e = e
not_some (Some v) false e = refl

none_begins : (image : List (Option ℕ)) (a address : ℕ) (cell : Option ℕ) (b : Bool) → address ≡ a → cell ≡ word_at image address → is_some cell ≡ not b → b ≡ begins_run image (a + 1)
none_begins image a address cell b is here e = not_some cell b e ∙ ap is_none here ∙ ap (λ n. is_none (word_at image n)) is ∙ sym (begins_run-more image a)

pub loop-at-init : goal.loop-at-init
loop-at-init c = (rw no_frames (sym (append-nil _)), refl)

pub loop-at-preserved : goal.loop-at-preserved
loop-at-preserved c =
    let before = c.loop-at.invariant in (
      frames_more c.args.image.now c.args.self.now c.loop-at.self _ c.loop-at.at c.from_index-address.result c.loop-at.begins c.get-cell.result
          before.0 c.from_index-address.ensures before.1 c.get-cell.ensures c.push_cell.ensures,
      none_begins c.args.image.now c.loop-at.at c.from_index-address.result c.get-cell.result c.is_none-begins.result c.from_index-address.ensures c.get-cell.ensures c.is_none-begins.ensures,
    )

pub push_cell-requires : goal.push_cell-requires
push_cell-requires c =
    omega (arith, c.requires, ap length c.loop-at.invariant.0, length-append c.args.self.now (word_frames (words_below c.args.image.now c.loop-at.at)), frames_below c.args.image.now c.loop-at.at)

pub returns-clause-fits : goal.returns-clause-fits
returns-clause-fits c =
    omega (arith, ap length c.loop-at.invariant.0, length-append c.args.self.now (word_frames (words_below c.args.image.now c.loop-at.at)), frames_below c.args.image.now c.loop-at.at)

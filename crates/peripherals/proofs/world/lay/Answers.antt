use Rattle.std.proofs.Common.{ℕ, ◌≡◌, ◌<◌, arith, ap, sym, ◌∙◌}
use Rattle.processor.specs.Cells.{cell_of, updated}
use Rattle.bin_tape.specs.Image.{word_at}
use Rattle.peripherals.specs.Loading.{image_of}
use Rattle.peripherals.proofs.LoadLemmas.{lay_start, lay_some, lay_none, lay_all, image_of-word}
use Rattle.peripherals.proofs.world.lay.Goals as goal
use Rattle.peripherals.proofs.world.lay.Goals.{in-Some, in_default}

pub returns-clause-laid : goal.returns-clause-laid
returns-clause-laid c =
    let full : c.loop-index.index ≡ 4096 = omega arith in
    lay_all c.args.image.now (cell_of c.loop-index.memory) (cell_of c.args.start.now) (λ a. rw full at (c.loop-index.invariant a))

pub loop-index-init : goal.loop-index-init
loop-index-init c = λ a. rw c.duplicate-memory.ensures (lay_start (image_of c.args.image.now) (cell_of c.args.start.now) a)

pub loop-index-preserved : goal.loop-index-preserved
loop-index-preserved c =
    let inside : c.loop-index.index < 4096 = c.loop-index-test.true in
    let found : image_of c.args.image.now c.loop-index.index ≡ c.get.result =
    image_of-word c.args.image.now c.loop-index.index inside ∙ ap (word_at c.args.image.now) (sym c.from_index-at.ensures) ∙ sym c.get.ensures in
    elim c.match-get.branch [
      | in-Some w ↦
          let written : cell_of w.set.new.self ≡ updated (cell_of c.loop-index.memory) c.loop-index.index w.in-Some.word = rw c.from_index-at.ensures at w.set.ensures in
          let more = lay_some (image_of c.args.image.now) (cell_of c.loop-index.memory) (cell_of c.args.start.now) c.loop-index.index w.in-Some.word (found ∙ w.in-Some.is) c.loop-index.invariant in
          rw w.memory-is (λ a. ap (λ (f : ℕ → ℕ). f a) written ∙ more a)
      | in_default w ↦
          rw w.memory-is (lay_none (image_of c.args.image.now) (cell_of c.loop-index.memory) (cell_of c.args.start.now) c.loop-index.index (found ∙ w.in_default.is) c.loop-index.invariant)
    ]

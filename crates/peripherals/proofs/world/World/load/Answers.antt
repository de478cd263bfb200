use Rattle.std.proofs.Common.{ℕ, refl, ap, ◌∙◌}
use Rattle.processor.specs.Cells.{cell_of}
use Rattle.peripherals.specs.Loading.{image_of}
use Rattle.peripherals.proofs.LoadLemmas.{laid_word}
use Rattle.peripherals.proofs.world.World.load.Goals as goal

pub returns-clause-start : goal.returns-clause-start
returns-clause-start g c = record {
  state = record {
    pc = refl;
    ac = c.are_registers.ensures.ac;
    link = c.are_registers.ensures.link;
    mq = c.are_registers.ensures.mq;
    words = c.lay.ensures.words;
    loaded = λ a w on. ap (λ (f : ℕ → ℕ). f a) c.lay.ensures.laid ∙ laid_word (image_of c.args.image.now) (cell_of c.args.start.now.memory) a w on;
  };
  devices = rw (c.new.ensures.items, c.new-2.ensures.items) refl;
  running = refl;
}

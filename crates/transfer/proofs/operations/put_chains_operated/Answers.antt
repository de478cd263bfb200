use Rattle.std.proofs.Common.{sym, ◌∙◌}
use Rattle.transfer.proofs.operations.put_chains_operated.Goals as goal

pub returns-then-clears : goal.returns-then-clears
returns-then-clears g c = rw (sym c.clears.ensures ∙ c.if-clears.true) c.clear_chains.ensures.fact

pub returns-then-moves_bits : goal.returns-then-moves_bits
returns-then-moves_bits g c = rw (sym c.clears.ensures ∙ c.if-clears.false, sym c.moves_bits.ensures ∙ c.if-moves_bits.true) c.put_begun_longer.ensures.fact

pub returns : goal.returns
returns g c = rw (sym c.clears.ensures ∙ c.if-clears.false, sym c.moves_bits.ensures ∙ c.if-moves_bits.false) c.lengthen_chains.ensures

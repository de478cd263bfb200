use Rattle.std.proofs.Common.{refl, sym, ◌∙◌}
use Rattle.transfer.proofs.operations.cleared_words.Goals as goal

pub returns-then-clears : goal.returns-then-clears
returns-then-clears c = rw (sym c.clears.ensures ∙ c.if-clears.true) c.one.ensures

pub returns : goal.returns
returns c = rw (sym c.clears.ensures ∙ c.if-clears.false) refl

use Rattle.std.proofs.Common.{◌≡◌, drop}
use Rattle.pal_acts.specs.Values.{known, value_after}
use Rattle.pal_acts.proofs.symbols.Symbols.value.Given as goal

abbrev pub invariant-loop-item : goal.invariant-loop-item
invariant-loop-item g l =
    value_after (known l.self.permanent.now.entries l.self.own.entries) l.here 0 l.joins ≡ value_after (known l.self.permanent.now.entries l.self.own.entries) l.here l.sum (drop l.item-index l.joins)

use Rattle.std.proofs.Common.{◌≡◌, take}
use Rattle.std.specs.Prelude.{reverse}
use Rattle.pal_acts.specs.Values.{known}
use Rattle.pal_acts.specs.Meaning.{Defines, location}
use Rattle.pal_acts.proofs.assembly.take_acts.Given as goal

abbrev pub invariant-loop-at : goal.invariant-loop-at
invariant-loop-at g l =
    Defines l.symbols.permanent.now.entries 1024 (reverse (take l.at l.acts)) l.symbols.own.entries
    × (l.here ≡ location (known l.symbols.permanent.now.entries l.symbols.own.entries) (reverse (take l.at l.acts)))
    × (l.symbols.permanent.now.entries ≡ l.fn.symbols.permanent.now.entries)

use Rattle.std.proofs.Common.{◌≡◌, take, map}
use Rattle.indexmap.specs.IndexMap.{insert_all}
use Rattle.pal_acts.specs.Values.{same}
use Rattle.pal_acts.specs.Permanent.{listed}
use Rattle.pal_acts.proofs.permanent.fill.Given as goal

abbrev pub invariant-loop-letters : goal.invariant-loop-letters
invariant-loop-letters g l = l.table.entries ≡ insert_all same l.fn.table.entries (map listed (take l.letters-index l.symbols))

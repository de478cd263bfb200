use Rattle.std.proofs.Common.{◌≡◌, ◌++◌, drop}
use Rattle.pal_asm.specs.Listings.{symbols_text}
use Rattle.pal_asm.proofs.listing.push_symbols.Given as goal

abbrev pub invariant-loop-at : goal.invariant-loop-at
invariant-loop-at g l = l.text.items ++ symbols_text (drop l.at l.own.entries) ≡ l.fn.text.items ++ symbols_text l.own.entries

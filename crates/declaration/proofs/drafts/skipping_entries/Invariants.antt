use Rattle.std.proofs.Common.{◌≡◌, ◌==◌, take}
use Rattle.std.specs.List.{list_any}
use Rattle.wordset.specs.Lanes.{words}
use Rattle.declaration.proofs.drafts.skipping_entries.Given as goal

-- the entries so far
abbrev pub invariant-loop-skip : goal.invariant-loop-skip
invariant-loop-skip l = words l.entries ≡ (λ a. list_any (λ x. x.entry == a) (take l.skip-index l.skips))

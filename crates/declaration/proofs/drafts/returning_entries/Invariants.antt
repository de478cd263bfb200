use Rattle.std.proofs.Common.{◌≡◌, ◌==◌, take}
use Rattle.std.specs.List.{list_any}
use Rattle.wordset.specs.Lanes.{words}
use Rattle.declaration.proofs.drafts.returning_entries.Given as goal

-- the entries so far
abbrev pub invariant-loop-returning : goal.invariant-loop-returning
invariant-loop-returning l = words l.entries ≡ (λ a. list_any (λ x. x.entry == a) (take l.returning-index l.returns))

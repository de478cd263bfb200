use Rattle.std.proofs.Common.{◌≡◌, take}
use Rattle.std.specs.List.{list_any}
use Rattle.wordset.specs.Lanes.{words}
use Rattle.declaration.proofs.drafts.held_places.Given as goal

-- the places so far
abbrev pub invariant-loop-holding : goal.invariant-loop-holding
invariant-loop-holding l = words l.places ≡ (λ a. list_any (λ h. words h.places a) (take l.holding-index l.holds))

use Rattle.std.proofs.Common.{◌≡◌, ◌+◌, ◌&&◌, nat_lt}
use Rattle.wordset.specs.Words.{has_some, meet, shifted}
use Rattle.wordset.specs.Lanes.{words}
use Rattle.domain.specs.Offsets.{offsets_in}
use Rattle.domain.proofs.return_offsets.ReturnOffsets.between.Given as goal

-- those of the offsets so far
abbrev pub invariant-loop-o : goal.invariant-loop-o
invariant-loop-o l = offsets_in l.offsets ≡ (λ v. nat_lt v l.o && has_some (meet (shifted (words l.sites) (v + 1)) (words l.to)))

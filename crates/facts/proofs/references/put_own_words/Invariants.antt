use Rattle.std.proofs.Common.{◌≡◌, ◌+◌, ℕ}
use Rattle.std.specs.Prelude.{◌&&◌}
use Rattle.wordset.specs.Words.{some_below, shifted}
use Rattle.wordset.specs.Lanes.{words}
use Rattle.domain.specs.Offsets.{offsets_in}
use Rattle.facts.proofs.references.put_own_words.Given as goal

abbrev pub invariant-loop-o : goal.invariant-loop-o
invariant-loop-o g l = (v : ℕ) → words l.place v ≡ some_below l.o (λ o. offsets_in l.offsets o && shifted (words l.sites) (o + 1) v)

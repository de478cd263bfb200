use Rattle.std.proofs.Common.{◌≡◌, ◌≤◌, ◌+◌, ◌-◌, ◌++◌, ℕ, List, length, take}
use Rattle.certificate.specs.Parser.{Seen, IsSmall}
use Rattle.certificate.proofs.parser.Parser.take_all.Given as goal

abbrev pub invariant-loop-at : goal.invariant-loop-at
invariant-loop-at g l = record {
  within : l.at ≤ length l.bytes;
  small : IsSmall l.self;
  count : l.self.count ≡ l.fn.self.count + l.at;
  seen : (before : List ℕ) → Seen l.fn.self before → l.fn.self.count ≡ length before → Seen l.self (before ++ take l.at l.bytes);
}

abbrev pub decreases-loop-at : goal.decreases-loop-at
decreases-loop-at g l = length l.bytes - l.at

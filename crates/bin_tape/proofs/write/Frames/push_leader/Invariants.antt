use Rattle.std.proofs.Common.{◌≡◌, ◌++◌, replicate}
use Rattle.bin_tape.proofs.write.Frames.push_leader.Given as goal

abbrev pub invariant-loop : goal.invariant-loop
invariant-loop l = l.self ≡ l.fn.self ++ replicate l.counter 128

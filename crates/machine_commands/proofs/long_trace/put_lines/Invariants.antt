use Rattle.std.proofs.Common.{◌≡◌, false}
use Rattle.machine_commands.specs.LongTrace.{Appended}
use Rattle.machine_commands.proofs.long_trace.put_lines.Given as goal

abbrev pub invariant-loop-index : goal.invariant-loop-index
invariant-loop-index g l = record {
  wrote : Appended (g.W.ByteSink.taken l.initial.out) (g.W.ByteSink.taken l.out);
  unmarked : g.W.ByteSink.mark l.out ≡ false;
}

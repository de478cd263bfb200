use Rattle.std.proofs.Common.{◌≡◌, drop}
use Rattle.machine_commands.specs.Last.{without_lines}
use Rattle.machine_commands.proofs.last.without_lines.Given as goal

abbrev pub invariant-loop-index : goal.invariant-loop-index
invariant-loop-index l = without_lines l.skipped l.text ≡ without_lines l.left (drop l.index l.text)

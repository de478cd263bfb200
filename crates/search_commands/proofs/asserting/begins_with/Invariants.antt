use Rattle.std.proofs.Common.{length}
use Rattle.declaration.specs.DeclarationInCode.{return_assertion_of}
use Rattle.search_commands.proofs.AssertingLemmas.{AgreeBelow}
use Rattle.search_commands.proofs.asserting.begins_with.Given as goal

abbrev pub invariant-loop-line : goal.invariant-loop-line
invariant-loop-line l = AgreeBelow return_assertion_of (length l.yielded) l.lines l.first

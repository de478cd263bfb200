use Rattle.std.proofs.Common.{length}
use Rattle.declaration.specs.DeclarationInCode.{place_assertion_of}
use Rattle.search_commands.proofs.AssertingLemmas.{AgreeBelow}
use Rattle.search_commands.proofs.asserting.are_same.Given as goal

abbrev pub invariant-loop-line : goal.invariant-loop-line
invariant-loop-line l = AgreeBelow place_assertion_of (length l.yielded) l.left l.right

use Rattle.std.proofs.Common.{◌≡◌, drop, map}
use Rattle.processor.specs.Steps.{state_of}
use Rattle.declaration.specs.DeclarationInCode.{place_assertion_of}
use Rattle.policy.specs.Decided.{each_holds}
use Rattle.policy.proofs.legality.each_holds.Given as goal

-- those from here on hold where all do
abbrev pub invariant-loop-holding : goal.invariant-loop-holding
invariant-loop-holding l = each_holds (map place_assertion_of (drop l.holding-index l.holds)) (state_of l.cpu) ≡ each_holds (map place_assertion_of l.holds) (state_of l.cpu)

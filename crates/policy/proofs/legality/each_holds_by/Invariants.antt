use Rattle.std.proofs.Common.{◌≡◌, drop, map}
use Rattle.processor.specs.Steps.{state_of}
use Rattle.declaration.specs.DeclarationInCode.{return_assertion_of}
use Rattle.policy.specs.Decided.{each_holds_by}
use Rattle.policy.proofs.legality.each_holds_by.Given as goal

-- those from here on hold where all do
abbrev pub invariant-loop-returning : goal.invariant-loop-returning
invariant-loop-returning l = each_holds_by (map return_assertion_of (drop l.returning-index l.returns)) l.entry l.offset (state_of l.cpu) ≡ each_holds_by (map return_assertion_of l.returns) l.entry l.offset (state_of l.cpu)

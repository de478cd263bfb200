use Rattle.std.proofs.Common.{◌≡◌, false}
use Rattle.std.specs.List.{AllByRecursion}
use Rattle.requests.proofs.files.open_parts.Given as goal

abbrev pub invariant-loop-name : goal.invariant-loop-name
invariant-loop-name g l = AllByRecursion (λ input. input.failed ≡ false) l.parts.items

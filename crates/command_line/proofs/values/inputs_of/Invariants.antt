use Rattle.std.proofs.Common.{◌≡◌, ◌++◌, drop, map}
use Rattle.command_line.specs.Options.{named}
use Rattle.command_line.proofs.values.inputs_of.Given as goal

-- what the names left give, behind the inputs so far, is what all names give
abbrev pub invariant-loop-name : goal.invariant-loop-name
invariant-loop-name l = map (λ input. input.now) l.inputs.items ++ named l.found (map (λ name. name.now) (drop l.name-index l.names)) ≡ named l.found (map (λ name. name.now) l.names)

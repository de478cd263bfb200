use Rattle.std.proofs.Common.{map}
use Rattle.command_line.proofs.RefusalLemmas.{are_inputs}
use Rattle.command_line.proofs.values.read_once.Goals as goal

pub returns-then-standard_inputs-gt1-clause-refused : goal.returns-then-standard_inputs-gt1-clause-refused
returns-then-standard_inputs-gt1-clause-refused c = (record {
  inputs = map (λ input. input.now) c.in_ok-inputs.inputs.items;
  are = are_inputs c.args.found.now (map (λ name. name.now) c.args.names.now) _ c.requires.names c.in_ok-inputs.ensures;
  often = rw (← c.deref.ensures.value, ← c.standard_inputs.ensures) c.if-standard_inputs-gt1.true;
})

pub returns-clause-are : goal.returns-clause-are
returns-clause-are c = are_inputs c.args.found.now (map (λ name. name.now) c.args.names.now) _ c.requires.names c.in_ok-inputs.ensures

pub returns-clause-once : goal.returns-clause-once
returns-clause-once c = rw (← c.in_ok-inputs.ensures, ← c.deref.ensures.value, ← c.standard_inputs.ensures) c.if-standard_inputs-gt1.false

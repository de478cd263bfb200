use Rattle.std.proofs.Common.{inr, map, sym}
use Rattle.command_line.proofs.outputs.result_of.Goals as goal

pub returns-then-is_taken-clause-refused : goal.returns-then-is_taken-clause-refused
returns-then-is_taken-clause-refused c = inr (record {
  inputs = map (λ input. input.now) c.args.inputs.now;
  are = c.requires;
  taken = rw (← c.destination_of-out.ensures.file, ← c.name.ensures) (sym c.if-is_taken.ensures);
})

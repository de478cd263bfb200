use Rattle.std.proofs.Common.{refl}
use Rattle.command_line.specs.declared.command_name.CommandName.TheVariants as kind
use Rattle.command_line.proofs.RefusalLemmas.{beside_out}
use Rattle.command_line.proofs.tapes.source_request.Goals as goal

pub returns : goal.returns
returns c = record {
  tape = c.operand_of.ensures;
  declaration = c.get_str.ensures;
  start = c.in_ok-start.ensures;
  machine = c.in_ok-profile.ensures;
  out = c.in_ok-out.ensures.given;
  apart = rw (← c.in_ok-inputs.ensures.given, ← c.deref.ensures.value) c.in_ok-out.ensures.free;
  once = c.in_ok-inputs.ensures.once;
  forced = c.is_given.ensures;
  start_once = c.in_ok-start_once.ensures.once;
}

pub result_of-requires : goal.result_of-requires
result_of-requires c = rw c.deref.ensures.value (beside_out kind.Source c.args.found.now _ refl c.in_ok-inputs.ensures.are)

use Rattle.std.proofs.Common.{refl}
use Rattle.command_line.specs.declared.command_name.CommandName.TheVariants as kind
use Rattle.command_line.proofs.RefusalLemmas.{beside_out}
use Rattle.command_line.proofs.tapes.migrate_request.Goals as goal

pub returns : goal.returns
returns c = record {
  certificate = c.operand_of.ensures;
  declaration = c.in_ok-declaration.ensures.named;
  version = c.in_ok-declaration.ensures.version;
  out = c.in_ok-out.ensures.given;
  apart = rw (← c.in_ok-inputs.ensures.given, ← c.deref.ensures.value) c.in_ok-out.ensures.free;
  once = c.in_ok-inputs.ensures.once;
}

pub result_of-requires : goal.result_of-requires
result_of-requires c = rw c.deref.ensures.value (beside_out kind.Migrate c.args.found.now _ refl c.in_ok-inputs.ensures.are)

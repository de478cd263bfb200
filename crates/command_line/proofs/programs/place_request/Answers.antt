use Rattle.std.proofs.Common.{refl}
use Rattle.command_line.specs.declared.command_name.CommandName.TheVariants as kind
use Rattle.command_line.proofs.RefusalLemmas.{beside_out}
use Rattle.command_line.proofs.programs.place_request.Goals as goal

pub returns : goal.returns
returns c = record {
  program = c.in_ok-names.ensures.given;
  declaration = c.get_str.ensures;
  task = (
    c.in_ok-out.ensures.given,
    rw (← c.placed_operands.ensures.given, ← c.in_ok-inputs.ensures.given, ← c.deref.ensures.value) c.in_ok-out.ensures.free,
  );
  once = rw (← c.placed_operands.ensures.given) c.in_ok-inputs.ensures.once;
  places = c.in_ok-places.ensures;
  named = refl;
  explained = c.is_given.ensures;
}

pub result_of-requires : goal.result_of-requires
result_of-requires c = rw c.deref.ensures.value (beside_out kind.Place c.args.found.now _ refl c.in_ok-inputs.ensures.are)

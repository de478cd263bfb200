use Rattle.command_laws.proofs.OneLemmas.{typed_are_one}
use Rattle.command_laws.proofs.laws.typed_sessions_are_one.Goals as goal

pub returns : goal.returns
returns c = typed_are_one

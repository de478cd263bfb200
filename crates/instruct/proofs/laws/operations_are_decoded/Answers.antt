use Rattle.instruct.proofs.Decoded.{operations_are_decoded}
use Rattle.instruct.proofs.laws.operations_are_decoded.Goals as goal

pub returns : goal.returns
returns c = operations_are_decoded

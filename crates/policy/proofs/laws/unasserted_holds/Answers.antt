use Rattle.std.proofs.Common.{◌≡◌, List, [], refl}
use Rattle.policy.proofs.LegalLemmas.{unasserted}
use Rattle.policy.proofs.laws.unasserted_holds.Goals as goal

pub returns : goal.returns
returns c = unasserted

use Rattle.facts.proofs.LandedLemmas.{one_landed_holds, idle_never_holds}
use Rattle.facts.proofs.landing_law.Goals as goal

pub returns : goal.returns
returns c = record { landed = one_landed_holds; idle = idle_never_holds }

use Rattle.peripherals.specs.World.{view}
use Rattle.proposer.proofs.obstacles.meets_unsupported.Goals as goal

pub returns : goal.returns
returns g c = λ is. record {
  count = c.saturating_sub.result;
  start = c.zero.result;
  world = view c.in_ok-world.world;
  leads = rw c.first-before.ensures at c.in_ok-world.ensures.run;
  is = rw c.in_ok-world.ensures.profile at (c.is_unsupported.ensures is);
}

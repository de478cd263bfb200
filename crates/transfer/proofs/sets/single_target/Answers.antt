use Rattle.std.proofs.Common.{◌<◌, subst}
use Rattle.transfer.proofs.OneTarget.{direct_only}
use Rattle.transfer.proofs.sets.single_target.Goals as goal

pub returns : goal.returns
returns c = rw (c.requires c.if-indirect.false) (direct_only c.args.named (subst (λ n. n < 4096) c.index-index.ensures.same c.index-index.ensures.small))

use Rattle.std.proofs.Common.{◌<◌, arith}
use Rattle.domain.proofs.BriefLemmas.{row_empty}
use Rattle.domain.proofs.brief.is_row_empty.Goals as goal

pub returns : goal.returns
returns c =
    let small : c.args.last < 4096 = omega (arith, c.index.ensures.same, c.index.ensures.small) in
    rw (c.index.ensures.same, c.index-2.ensures.same) (row_empty c.args.first c.args.last small)

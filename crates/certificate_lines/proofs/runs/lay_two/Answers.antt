use Rattle.certificate_lines.proofs.PackedLemmas.{two_laid}
use Rattle.certificate_lines.proofs.runs.lay_two.Goals as goal

pub returns-clause-laid : goal.returns-clause-laid
returns-clause-laid g c =
    two_laid _ _ _ _ _ _ _ c.lay.ensures.front c.lay-2.ensures.front c.in_ok-one.ensures.count c.in_ok-other.ensures.count
    c.in_ok-one.ensures.laid c.in_ok-other.ensures.laid

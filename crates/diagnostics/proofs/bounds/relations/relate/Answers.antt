use Rattle.diagnostics.proofs.BoundLemmas.{related}
use Rattle.diagnostics.proofs.bounds.relations.relate.Goals as goal

pub returns : goal.returns
returns c = related _ _ _ _ _ c.relate_one.ensures.fact c.difference-sum.ensures

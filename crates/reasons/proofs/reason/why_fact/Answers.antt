use Rattle.judge.proofs.SourceLemmas.{sited_from}
use Rattle.reasons.proofs.reason.why_fact.Goals as goal

pub put_asked-requires : goal.put_asked-requires
put_asked-requires g c = sited_from _ _ _ _ c.put_sites.ensures c.put_fact-line.ensures.shape

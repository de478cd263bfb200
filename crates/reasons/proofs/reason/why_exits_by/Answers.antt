use Rattle.judge.proofs.SourceLemmas.{sited_from}
use Rattle.reasons.proofs.reason.why_exits_by.Goals as goal

pub put_asked-requires : goal.put_asked-requires
put_asked-requires g c = sited_from _ _ _ _ c.put_sites.ensures c.put_exit.ensures.shape

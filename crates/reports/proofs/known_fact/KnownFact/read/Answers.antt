use Rattle.judge.proofs.SourceLemmas.{sited_from}
use Rattle.reports.proofs.known_fact.KnownFact.read.Goals as goal

pub put_asked-self-requires : goal.put_asked-self-requires
put_asked-self-requires g c = sited_from _ _ _ _ c.put_sites.ensures c.put_fact-line.ensures.shape

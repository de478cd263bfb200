use Rattle.wordset.specs.Lanes.{words}
use Rattle.judge.proofs.SourceLemmas.{put_at}
use Rattle.judge.proofs.sited.AddressFactsFactSource.put.Goals as goal

pub returns : goal.returns
returns g c = put_at (g.C.Claims.claims c.args.self.now.claims.now).rules _ (words c.args.self.now.sites.now) ((g.C.Claims.claims c.args.self.now.claims.now).facts c.args.self.now.at) c.args.at _ _ c.rules.ensures c.requires c.put_fact-line.ensures.fact c.put_sites.ensures

use Rattle.std.proofs.Common.{arith}
use Rattle.wordset.specs.Lanes.{words}
use Rattle.judge.proofs.SourceLemmas.{put_at, sited_from, sited_length}
use Rattle.judge.proofs.case.Case.put_exit.Goals as goal

pub returns-clause-fact : goal.returns-clause-fact
returns-clause-fact g c =
    put_at (g.C.Claims.claims c.args.self.now.claims.now).rules _ (words c.args.sites.now) ((g.C.Claims.claims c.args.self.now.claims.now).exits c.args.entry c.args.offset) c.args.index _ _ c.rules.ensures
    (omega (arith, c.requires.index, sited_length (g.C.Claims.claims c.args.self.now.claims.now).rules (words c.args.sites.now) ((g.C.Claims.claims c.args.self.now.claims.now).exits c.args.entry c.args.offset))) c.put_exit.ensures.fact c.put_sites.ensures

pub returns-clause-shape : goal.returns-clause-shape
returns-clause-shape g c = sited_from _ _ _ _ c.put_sites.ensures c.put_exit.ensures.shape

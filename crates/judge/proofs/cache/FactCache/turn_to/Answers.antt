use Rattle.std.proofs.Common.{refl}
use Rattle.domain.specs.Brief.{brief_words}
use Rattle.judge.proofs.CacheLemmas.{as_claimed, shape_claimed, shows_sited}
use Rattle.judge.proofs.cache.FactCache.turn_to.Goals as goal

pub returns-then-is_of-clause-alone : goal.returns-then-is_of-clause-alone
returns-then-is_of-clause-alone g c = λ q. as_claimed (g.C.Claims.claims c.args.claims.now) c.args.self.now c.args.at _ c.requires (c.is_of.ensures c.if-is_of.true) c.copy_sites.ensures.fact

pub returns-then-is_of-clause-shape : goal.returns-then-is_of-clause-shape
returns-then-is_of-clause-shape g c = λ q. shape_claimed (g.C.Claims.claims c.args.claims.now) c.args.self.now c.args.at _ c.requires (c.is_of.ensures c.if-is_of.true) c.copy_sites.ensures.fact

pub returns-then-is_of-clause-shows : goal.returns-then-is_of-clause-shows
returns-then-is_of-clause-shows g c =
    shows_sited (g.C.Claims.claims c.args.claims.now) c.args.self.now (record { fact = c.copy_sites.new.self; sites = c.args.self.now.sites; address = c.args.self.now.address; end = c.args.self.now.end }) (brief_words c.args.self.now.sites)
    c.requires c.copy_sites.ensures.fact refl refl

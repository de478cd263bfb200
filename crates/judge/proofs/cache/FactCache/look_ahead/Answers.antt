use Rattle.std.proofs.Common.{refl, sym, ap, ◌∙◌}
use Rattle.wordset.specs.Lanes.{words}
use Rattle.domain.specs.FactInCode.{fact_in_code, rules_of}
use Rattle.judge.proofs.CacheLemmas.{sited_ahead, shows_sited}
use Rattle.judge.proofs.cache.FactCache.look_ahead.Goals as goal

pub returns-then-turn_to-clause-ahead : goal.returns-then-turn_to-clause-ahead
returns-then-turn_to-clause-ahead g c =
    sited_ahead (g.C.Claims.claims c.args.claims.now) (words c.args.sites.now) (record { fact = c.set_sites.new.self; sites = c.turn_to.new.self.sites; address = c.turn_to.new.self.address; end = c.turn_to.new.self.end })
    c.args.at (fact_in_code c.turn_to.new.self.fact) (sym c.rules.ensures ∙ ap rules_of c.in-OfEquations.is) (c.turn_to.ensures.alone c.if-turn_to.true) c.set_sites.ensures.fact (c.turn_to.ensures.there c.if-turn_to.true)

pub returns-then-turn_to-clause-shows : goal.returns-then-turn_to-clause-shows
returns-then-turn_to-clause-shows g c =
    shows_sited (g.C.Claims.claims c.args.claims.now) c.turn_to.new.self (record { fact = c.set_sites.new.self; sites = c.turn_to.new.self.sites; address = c.turn_to.new.self.address; end = c.turn_to.new.self.end }) (words c.args.sites.now)
    c.turn_to.ensures.shows c.set_sites.ensures.fact refl refl

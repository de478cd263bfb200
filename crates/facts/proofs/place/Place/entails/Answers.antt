use Rattle.std.proofs.Common.{◌∙◌, sym, subst}
use Rattle.std.specs.Prelude.{IsTrue, ◌↔◌}
use Rattle.facts.specs.PlaceInCode.{place_in_code}
use Rattle.domain.specs.FactInCode.{fact_in_code}
use Rattle.facts.specs.Entailment.{KnowsAll, ShowsChains}
use Rattle.facts.specs.Entailing.{EachWithin}
use Rattle.domain.specs.Locations.{Ac}
use Rattle.domain.specs.CellsInCode.{cell_sets_of}
use Rattle.facts.proofs.ShowingLemmas.{entails_iff, entails_cells, entails_registers}
use Rattle.transfer.proofs.EntailLemmas.{not_true, not_both}
use Rattle.facts.proofs.place.Place.entails.Goals as goal

pub returns-then-not-entails_registers : goal.returns-then-not-entails_registers
returns-then-not-entails_registers g c = not_true (λ e. not_both _ c.if-not-entails_registers.true c.entails_registers.ensures.1 (entails_registers (place_in_code c.args.self.now) (g.K.KnownFact.known c.args.fact.now) (fact_in_code c.args.other.now) e))

pub returns-then-not-has_each_within : goal.returns-then-not-has_each_within
returns-then-not-has_each_within g c = not_true (λ e. not_both _ c.if-not-has_each_within.true c.has_each_within.ensures.1
    (subst (EachWithin (place_in_code c.args.self.now) (g.K.KnownFact.known c.args.fact.now)) (sym c.as_slice.ensures.cells) (entails_cells (place_in_code c.args.self.now) (g.K.KnownFact.known c.args.fact.now) (fact_in_code c.args.other.now) ((fact_in_code c.args.other.now).set Ac) (cell_sets_of c.cells.result.now) c.cells.ensures e)))

pub returns-then-not-knows_all : goal.returns-then-not-knows_all
returns-then-not-knows_all g c = not_true (λ e. not_both _ c.if-not-knows_all.true c.knows_all.ensures.1
    (subst (KnowsAll (place_in_code c.args.self.now) (g.K.KnownFact.known c.args.fact.now)) (sym (c.as_slice-2.ensures.relations ∙ c.relations.ensures)) e.relations))

pub returns : goal.returns
returns g c = entails_iff (place_in_code c.args.self.now) (g.K.KnownFact.known c.args.fact.now) (fact_in_code c.args.other.now) ((fact_in_code c.args.other.now).set Ac) (cell_sets_of c.cells.result.now) c.shows_chains.result c.cells.ensures
    (c.entails_registers.ensures.0 c.if-not-entails_registers.false)
    (subst (EachWithin (place_in_code c.args.self.now) (g.K.KnownFact.known c.args.fact.now)) c.as_slice.ensures.cells (c.has_each_within.ensures.0 c.if-not-has_each_within.false))
    (subst (KnowsAll (place_in_code c.args.self.now) (g.K.KnownFact.known c.args.fact.now)) (c.as_slice-2.ensures.relations ∙ c.relations.ensures) (c.knows_all.ensures.0 c.if-not-knows_all.false))
    (subst (λ cs. IsTrue c.shows_chains.result ↔ ShowsChains (place_in_code c.args.self.now) (g.K.KnownFact.known c.args.fact.now) cs) c.chains.ensures.chains c.shows_chains.ensures)

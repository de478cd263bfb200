use Rattle.std.proofs.Common.{◌∙◌, ℕ, subst, refl}
use Rattle.std.specs.Prelude.{IsTrue, ◌↔◌}
use Rattle.facts.specs.PlaceInCode.{place_in_code}
use Rattle.domain.specs.Facts.{Fact}
use Rattle.domain.specs.Locations.{Ac, Cell}
use Rattle.facts.specs.Entailment.{IsSplit}
use Rattle.facts.specs.Landing.{IsSplitBy, AllowAll, IsTakenWhole}
use Rattle.facts.proofs.SplitLemmas.{split_iff}
use Rattle.transfer.proofs.EntailLemmas.{not_both}
use Rattle.facts.proofs.place.Place.is_split.Goals as goal

pub returns-then-is_split_by-clause-split : goal.returns-then-is_split_by-clause-split
returns-then-is_split_by-clause-split g c = (λ t. (Ac, c.is_split_by.ensures.split.0 c.if-is_split_by.true), λ k. refl)

pub returns-then-is_split_by_told-clause-split : goal.returns-then-is_split_by_told-clause-split
returns-then-is_split_by_told-clause-split g c = (λ t. subst (λ (f : Fact). IsSplit (place_in_code c.args.self.now) f (g.F.FactSource.facts c.args.among.now)) c.is_split_by.ensures.kept (c.is_split_by_told.ensures.split c.if-is_split_by_told.true), λ k. refl)

pub returns-clause-split : goal.returns-clause-split
returns-clause-split g c = split_iff (place_in_code c.args.self.now) (g.P.FactPart.part c.args.part.now) (g.F.FactSource.facts c.args.among.now) c.requires c.has_words.ensures.beyond c.has_words.ensures.words c.is_taken_whole.result
    (not_both _ c.if-is_split_by.false c.is_split_by.ensures.split.1)
    (subst (λ (f : Fact). (x : ℕ) → IsSplitBy (place_in_code c.args.self.now) (Cell x) f (g.F.FactSource.facts c.args.among.now) → AllowAll (Cell x) (g.F.FactSource.facts c.args.among.now)) c.is_split_by.ensures.kept (c.is_split_by_told.ensures.left c.if-is_split_by_told.false))
    c.is_split_by_told.ensures.beyond
    (subst (λ (f : Fact). IsTrue c.is_taken_whole.result ↔ IsTakenWhole (place_in_code c.args.self.now) f (g.F.FactSource.facts c.args.among.now)) (c.is_split_by_told.ensures.kept ∙ c.is_split_by.ensures.kept) c.is_taken_whole.ensures.taken)

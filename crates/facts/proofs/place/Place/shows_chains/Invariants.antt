use Rattle.std.proofs.Common.{drop, map}
use Rattle.std.specs.Prelude.{◌↔◌}
use Rattle.facts.specs.Entailment.{ShowsChains}
use Rattle.facts.specs.PlaceInCode.{place_in_code}
use Rattle.domain.specs.ChainsInCode.{chain_of}
use Rattle.facts.proofs.place.Place.shows_chains.Given as goal

abbrev pub invariant-loop-chain : goal.invariant-loop-chain
invariant-loop-chain g l = ShowsChains (place_in_code l.self) (g.K.KnownFact.known l.fact) (map chain_of (drop l.chain-index l.chains)) ↔ ShowsChains (place_in_code l.self) (g.K.KnownFact.known l.fact) (map chain_of l.chains)

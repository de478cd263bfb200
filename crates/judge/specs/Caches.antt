-- Facts that are kept with their addresses, so that the one at the next address is read once.
use Rattle.std.specs.Prelude.{◌≡◌, ℕ, Some, [], ◌∷◌}
use Rattle.wordset.specs.Words.{Words}
use Rattle.domain.specs.Brief.{brief_words}
use Rattle.domain.specs.Facts.{OfEquations}
use Rattle.domain.specs.FactInCode.{fact_in_code}
use Rattle.certificate_lines.specs.Certificate.{Certificate}
use Rattle.judge.specs.Landing.{with_sites, sited}
use Rattle.judge.specs.Shapes.{HasShape}
use Rattle.judge.specs.declared.cache.FactCache.{FactCache}

-- What is kept of the fact at an address: with the sites that are kept beside it, it is the only one there, and it has a claimed
-- fact's shape.
pub record IsOnlyAt (c : Certificate) (s : FactCache) (a : ℕ) : Type 0 where
  pub only : c.facts a ≡ with_sites (brief_words s.sites) (fact_in_code s.fact) ∷ []
  pub shape : HasShape (fact_in_code s.fact)

-- So it is of the fact that is kept, if one is.
abbrev pub Shows : Certificate → FactCache → Type 0
Shows c s = (a : ℕ) → s.address ≡ Some a → IsOnlyAt c s a

-- The rules are those of equations, and the fact that is kept is the only one at the address, with these sites.
pub record IsOnlyAhead (c : Certificate) (sites : Words) (s : FactCache) (a : ℕ) : Type 0 where
  pub rules : c.rules ≡ OfEquations
  pub only : sited c.rules sites (c.facts a) ≡ fact_in_code s.fact ∷ []

-- So it is of the fact that is kept, if one is.
abbrev pub StandsAhead : Certificate → Words → FactCache → Type 0
StandsAhead c sites s = (a : ℕ) → s.address ≡ Some a → IsOnlyAhead c sites s a

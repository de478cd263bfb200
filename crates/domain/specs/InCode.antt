-- Terms and sums as they're kept in code, and what they mean.
use Rattle.std.specs.Prelude.{ℕ, ◌==◌, Bool, ◌&&◌, map, take, get_or}
use Rattle.domain.specs.LocationsInCode.{location_of}
use Rattle.domain.specs.Locations.{Ac}
use Rattle.domain.specs.Terms as said
use Rattle.domain.specs.declared.terms.Term.{Term}
use Rattle.domain.specs.declared.terms.Term.TheVariants.{Holding, Behind}
use Rattle.domain.specs.declared.terms.Summand.{Summand}
use Rattle.domain.specs.declared.terms.Sum.{Sum}

-- The term that is meant.
abbrev pub term_of : Term → said.Term
term_of (Holding n) = said.Holding (location_of n)
term_of (Behind x k) = said.Behind x k

-- The summand that is meant.
abbrev pub summand_of : Summand → said.Summand
summand_of s = record { coefficient = s.coefficient; term = term_of s.term }

-- The sum that is meant: the summands in use.
abbrev pub sum_of : Sum → said.Sum
sum_of s = map summand_of (take s.count s.summands)

-- The summand at a place of a sum.
abbrev pub summand_at : said.Sum → ℕ → said.Summand
summand_at sum at = get_or sum at (record { coefficient = 0; term = said.Holding Ac })

-- The two summands are one: they have one coefficient and one term.
abbrev pub same_summand : said.Summand → said.Summand → Bool
same_summand s t = (s.coefficient == t.coefficient) && said.same_term s.term t.term

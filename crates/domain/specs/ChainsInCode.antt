-- Chains as they're kept in code, and what they mean.
use Rattle.std.specs.Prelude.{ℕ, ◌<◌, ◌==◌, Bool, ◌&&◌, if◌then◌else◌, List, [], ◌∷◌, length, map, take}
use Rattle.wordset.specs.Words.{plus, Words, meet}
use Rattle.domain.specs.Locations.{Location, Ac, Cell}
use Rattle.wordset.specs.Links.{links_of}
use Rattle.domain.specs.Chains as said
use Rattle.domain.specs.declared.chains.Step.{Step}
use Rattle.domain.specs.declared.chains.Step.TheVariants.{Operates, Ands, Adds}
use Rattle.domain.specs.declared.chains.Chain.{Chain}

-- The step that is meant.
abbrev pub step_of : Step → said.Step
step_of (Operates w) = said.Operates w
step_of (Ands w) = said.Ands w
step_of (Adds w) = said.Adds w

-- The chain that is meant.
abbrev pub chain_of : Chain → said.Chain
chain_of c = record {
  cell = c.cell;
  more = c.more;
  link = links_of c.links;
  steps = map step_of (take c.count c.steps);
}

-- A chain gives the accumulator w and the link l of the cell's word v, where it begins with the link k.
abbrev pub gives_from : said.Chain → ℕ → ℕ → ℕ → ℕ → Bool
gives_from c k v w l = c.link k && said.is_pair_of (said.after_steps c.steps (plus v c.more, k)) w l

-- Each of the chains has room for one step more.
abbrev pub AreShort : List said.Chain → Type 0
AreShort [] = Unit {0}
AreShort (c ∷ cs) = (length c.steps < 17) × AreShort cs

-- Those of a name's words that a chain on a cell allows: the accumulator's, or the cell's.
abbrev pub met_with_found : Words → Words → ℕ → Location → Words → Words
met_with_found cells accumulators cell Ac set = meet set accumulators
met_with_found cells accumulators cell (Cell a) set = if a == cell then meet set cells else set

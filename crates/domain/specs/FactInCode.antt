-- Facts of sums as they're kept in code, and what they mean.
use Rattle.std.specs.Prelude.{ℕ, [], List, map, flat_map}
use Rattle.wordset.specs.Words.{Words, nothing, all_words, all_links}
use Rattle.wordset.specs.Lanes.{words}
use Rattle.wordset.specs.Links.{links_of}
use Rattle.domain.specs.Locations.{Location, Ac, Cell}
use Rattle.domain.specs.TrackedCells.{TrackedCell, tracked}
use Rattle.processor.specs.Runs.{Image}
use Rattle.domain.specs.Chains.{Chain}
use Rattle.domain.specs.Narrowing.{parts_of, parts_of_chain}
use Rattle.domain.specs.Facts as said
use Rattle.domain.specs.Brief.{brief_words}
use Rattle.domain.specs.CellsInCode.{cell_sets_of}
use Rattle.domain.specs.RelationsInCode.{relations_of}
use Rattle.domain.specs.ChainsInCode.{chain_of}
use Rattle.domain.specs.Offsets.{offsets_in}
use Rattle.domain.specs.declared.sum_fact.SumFact.{SumFact}
use Rattle.domain.specs.declared.sum_fact.Rules.{Rules}
use Rattle.domain.specs.declared.sum_fact.Rules.TheVariants.{OfEquations, OfSums}

-- The rules that are meant.
abbrev pub rules_of : Rules → said.Rules
rules_of OfEquations = said.OfEquations
rules_of OfSums = said.OfSums

-- For each name its words: those of the accumulator, or those that all entries of the cell allow.
abbrev pub names_words : Words → List TrackedCell → Location → Words
names_words ac cells Ac = ac
names_words ac cells (Cell a) = tracked a cells

-- The fact that is meant.
abbrev pub fact_in_code : {C R : ℕ} → SumFact C R → said.Fact
fact_in_code f = record {
  set = names_words (words f.ac) (cell_sets_of f.cells);
  relations = relations_of f.relations;
  chains = map chain_of f.chains.items;
  mq = words f.mq;
  link = links_of f.link;
  sites = brief_words f.sites;
  offsets = offsets_in f.offsets;
}

-- The fact that excludes nothing, without relations, chains, sites and offsets.
abbrev pub nothing_known : said.Fact
nothing_known = record {
  set = names_words all_words [];
  relations = [];
  chains = [];
  mq = all_words;
  link = all_links;
  sites = nothing;
  offsets = nothing;
}

-- What relations of a fact say of their first terms and of the rest.
abbrev pub all_parts : Image → said.Fact → List said.Relation → List said.Relation
all_parts image f relations = flat_map (λ r. parts_of image f r.sum r.set) relations

-- What chains of a fact say.
abbrev pub all_parts_of_chains : said.Fact → List Chain → List said.Relation
all_parts_of_chains f chains = flat_map (λ c. parts_of_chain f c) chains

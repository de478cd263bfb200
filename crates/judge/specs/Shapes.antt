-- What rows ask of facts beside what they say.
use Rattle.std.specs.Prelude.{ℕ, ◌+◌, ◌≤◌, length}
use Rattle.domain.specs.Facts.{Fact}
use Rattle.domain.specs.CellsInCode.{cell_sets_of}
use Rattle.domain.specs.RelationsInCode.{relations_of}
use Rattle.domain.specs.ChainsInCode.{AreShort}
use Rattle.domain.specs.FactInCode.{fact_in_code}
use Rattle.domain.specs.declared.sum_fact.SumFact.{SumFact}
use Rattle.transfer.specs.Shaped.{HaveFewTerms}

-- A claimed fact's relations have few terms, and it has few chains, each with room for a step more.
pub record HasShape (f : Fact) : Type 0 where
  pub terms : HaveFewTerms f.relations
  pub short : AreShort f.chains
  pub few : length f.chains ≤ 4

-- So it is of a fact for which conditions are checked; and it leaves room for what comes of a word.
pub record IsRoomy {C R : ℕ} (f : SumFact C R) : Type 0 where
  pub terms : HaveFewTerms (fact_in_code f).relations
  pub short : AreShort (fact_in_code f).chains
  pub cells : length (cell_sets_of f.cells) ≤ 132
  pub relations : length (relations_of f.relations) ≤ 68
  pub chains : length f.chains.items + length (relations_of f.relations) ≤ 72

-- How much a fact tells of, counted by what it lends.
use Rattle.std.proofs.Common.{◌≡◌, ℕ, List, length, map, ap, sym, ◌∙◌, subst}
use Rattle.std.proofs.lemmas.List.{length-map}
use Rattle.domain.specs.declared.cell_sets.CellSet.{CellSet}
use Rattle.domain.specs.declared.chains.Chain.{Chain}
use Rattle.domain.specs.declared.chains.Step.{Step}
use Rattle.domain.specs.declared.sum_fact.SumFact.{SumFact}
use Rattle.domain.specs.TrackedCells.{TrackedCell}
use Rattle.domain.specs.CellsInCode.{cell_set_of}
use Rattle.domain.specs.ChainsInCode.{chain_of, step_of}
use Rattle.domain.specs.FactInCode.{fact_in_code}

-- As many cells as are lent.
pub cells_told : (lent : List CellSet) (told : List TrackedCell) → map cell_set_of lent ≡ told → length told ≡ length lent
cells_told lent told e = sym (ap length e) ∙ length-map lent cell_set_of

-- As many chains as are lent.
pub chains_told : {C R : ℕ} (lent : List Chain) (f : SumFact C R) → map chain_of lent ≡ (fact_in_code f).chains → length (fact_in_code f).chains ≡ length lent
chains_told lent f e = sym (ap length e) ∙ length-map lent chain_of

-- As many are kept.
pub chains_kept : {C R : ℕ} (lent : List Chain) (f : SumFact C R) → map chain_of lent ≡ (fact_in_code f).chains → length f.chains.items ≡ length lent
chains_kept lent f e = sym (length-map f.chains.items chain_of) ∙ chains_told lent f e

-- As many steps as are lent.
pub steps_told : (lent : List Step) (c : Chain) → map step_of lent ≡ (chain_of c).steps → length (chain_of c).steps ≡ length lent
steps_told lent c e = sym (ap length e) ∙ length-map lent step_of

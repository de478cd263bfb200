use Rattle.processor.proofs.CellLemmas.{cell_of-zeros, zeros_are_words}
use Rattle.processor.proofs.memory.Memory.zero.Goals as goal

pub returns : goal.returns
returns c = cell_of-zeros 4096

pub invariant_of-result-2 : goal.invariant_of-result-2
invariant_of-result-2 c = zeros_are_words 4096

use Rattle.std.proofs.Common.{refl}
use Rattle.instruct.specs.Bits.{is_indirect, named_cell}
use Rattle.instruct.specs.Instructions.{meaning_of}
use Rattle.processor.specs.Cells.{cell_of}
use Rattle.processor.proofs.FetchLemmas.{reference_fetched}
use Rattle.processor.proofs.fetch.refer.Goals as goal

pub returns : goal.returns
returns c =
    rw (reference_fetched (meaning_of c.args.profile c.args.at c.args.word) c.of.result (is_indirect c.args.word) (named_cell c.args.word c.args.at) c.args.word (cell_of c.args.memory.now) (c.of.ensures.meaning c.args.profile c.args.at c.requires), c.effective_address.ensures, c.refers_indirectly.ensures, c.target.ensures) refl

use Rattle.std.proofs.Common.{◌≡◌, true, sym, ◌∙◌, ap, refl}
use Rattle.instruct.specs.Bits.{is_indirect, named_cell}
use Rattle.processor.specs.Cells.{cell_of}
use Rattle.processor.specs.Machine.{is_auto_index}
use Rattle.processor.proofs.StepLemmas.{stepped_place}
use Rattle.processor.proofs.effective_address.Goals as goal

pub returns-then-is_auto_index : goal.returns-then-is_auto_index
returns-then-is_auto_index c =
    let indirect : is_indirect c.args.word ≡ true = sym c.refers_indirectly.ensures ∙ c.if-not-refers_indirectly.false in
    let auto : is_auto_index (named_cell c.args.word c.args.at) ≡ true =
    ap is_auto_index (sym c.target-named.ensures) ∙ sym c.is_auto_index.ensures ∙ c.if-is_auto_index.true in
    rw (stepped_place (is_indirect c.args.word) (named_cell c.args.word c.args.at) (cell_of c.args.memory.now) indirect auto, c.increment.ensures, c.get-pointer.ensures, c.target-named.ensures) refl

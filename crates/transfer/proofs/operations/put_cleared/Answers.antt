use Rattle.std.proofs.Common.{ap, sym, ◌∙◌}
use Rattle.std.specs.Prelude.{if◌then◌else◌}
use Rattle.instruct.specs.Bits.{has_bit}
use Rattle.wordset.specs.Words.{Words, one, or_any}
use Rattle.wordset.specs.Lanes.{words}
use Rattle.domain.specs.Locations.{Ac}
use Rattle.domain.specs.Facts.{Fact}
use Rattle.domain.specs.Moves.{taking}
use Rattle.domain.specs.FactInCode.{fact_in_code}
use Rattle.transfer.proofs.operations.put_cleared.Goals as goal

pub returns-then-reads_switches : goal.returns-then-reads_switches
returns-then-reads_switches g c =
    let f : Fact = fact_in_code c.args.fact.now in
    rw (sym c.reads_switches.ensures ∙ c.if-reads_switches.true)
    (c.take_for_accumulator.ensures ∙ ap (λ (s : Words). taking Ac s f) (c.or_any.ensures ∙ ap (λ n. or_any n (words c.cleared_words-set.result)) c.from_index.ensures
    ∙ ap (or_any 4095) (c.cleared_words-set.ensures ∙ ap (λ (s : Words). if has_bit 7 c.args.word then one 0 else s) c.accumulator.ensures)))

pub returns-then-clears : goal.returns-then-clears
returns-then-clears g c =
    rw (sym c.reads_switches.ensures ∙ c.if-reads_switches.false, sym c.clears.ensures ∙ c.if-clears.true)
    (c.take_for_accumulator-then-clears.ensures ∙ ap (λ (s : Words). taking Ac s (fact_in_code c.args.fact.now)) c.one.ensures)

pub returns : goal.returns
returns g c = rw (sym c.reads_switches.ensures ∙ c.if-reads_switches.false, sym c.clears.ensures ∙ c.if-clears.false) c.copy_from.ensures.fact

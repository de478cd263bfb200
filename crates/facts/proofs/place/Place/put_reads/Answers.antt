use Rattle.std.proofs.Common.{◌≡◌, subst}
use Rattle.wordset.specs.Lanes.{words}
use Rattle.instruct.specs.Instructions.{operation_of}
use Rattle.domain.specs.FactInCode.{fact_in_code}
use Rattle.facts.specs.PlaceInCode.{place_in_code}
use Rattle.facts.proofs.AskedLemmas.{no_reference, no_words}
use Rattle.facts.specs.Conditions.{may_read}
use Rattle.facts.proofs.AskingLemmas.{refers_in, reads_none, reads_pointer, reads_both}
use Rattle.facts.proofs.place.Place.put_reads.Goals as goal

pub returns-then-not-is_reference : goal.returns-then-not-is_reference
returns-then-not-is_reference g c = no_words _ _ c.empty.ensures (reads_none (place_in_code c.args.self.now) (fact_in_code c.args.fact.now) _ (no_reference c.if-not-is_reference.true (c.is_reference.ensures c.args.at)))

pub returns-then-not-reads_operand : goal.returns-then-not-reads_operand
returns-then-not-reads_operand g c =
    subst (λ m. words c.named_if-pointer.result ≡ may_read (place_in_code c.args.self.now) (fact_in_code c.args.fact.now) m)
    (refers_in (place_in_code c.args.self.now) c.args.at c.args.word _ _ ((c.is_reference.ensures c.args.at).0 c.if-not-is_reference.false) c.refers_indirectly-indirect.ensures c.target-named.ensures)
    (reads_pointer _ (place_in_code c.args.self.now) (fact_in_code c.args.fact.now) (operation_of c.args.word) _ _ _ c.reads_operand.ensures c.if-not-reads_operand.true c.named_if-pointer.ensures)

pub returns : goal.returns
returns g c =
    subst (λ m. words c.union.result ≡ may_read (place_in_code c.args.self.now) (fact_in_code c.args.fact.now) m)
    (refers_in (place_in_code c.args.self.now) c.args.at c.args.word _ _ ((c.is_reference.ensures c.args.at).0 c.if-not-is_reference.false) c.refers_indirectly-indirect.ensures c.target-named.ensures)
    (reads_both _ _ _ (place_in_code c.args.self.now) (fact_in_code c.args.fact.now) (operation_of c.args.word) _ _ _ c.reads_operand.ensures c.if-not-reads_operand.false c.union.ensures c.named_if-pointer.ensures c.put_targets.ensures)

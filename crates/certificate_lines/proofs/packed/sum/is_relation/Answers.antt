use Rattle.std.proofs.Common.{◌∙◌, ◌&&◌, ap, sym}
use Rattle.domain.specs.LocationsInCode.{location_of}
use Rattle.domain.specs.InCode.{summand_of}
use Rattle.domain.specs.Terms.{Holding, Sum, arranged, same_sum}
use Rattle.domain.specs.Shapes.{has_shape}
use Rattle.certificate_lines.specs.Packed.{packed_sum_of}
use Rattle.certificate_lines.proofs.SumFieldLemmas.{no_words, of_words}
use Rattle.certificate_lines.proofs.packed.sum.is_relation.Goals as goal

pub returns-then-not-is_sum_of_words : goal.returns-then-not-is_sum_of_words
returns-then-not-is_sum_of_words c = sym (no_words (record { coefficient = 1; term = Holding (location_of c.args.packed.now.first) }) (summand_of c.args.packed.now.second) c.args.packed.now.second.coefficient c.args.packed.now.third (sym c.if-not-is_sum_of_words.ensures))

pub returns-then-not-has_shape : goal.returns-then-not-has_shape
returns-then-not-has_shape c =
    let s : Sum = packed_sum_of c.args.packed.now in
    sym (of_words (record { coefficient = 1; term = Holding (location_of c.args.packed.now.first) }) (summand_of c.args.packed.now.second) c.args.packed.now.second.coefficient c.args.packed.now.third (sym c.if-not-is_sum_of_words.ensures) ∙
    ap (λ b. b && same_sum (arranged s) s) (ap has_shape (sym c.unpacked-sum.ensures) ∙ sym c.if-not-has_shape.ensures))

pub returns : goal.returns
returns c =
    let s : Sum = packed_sum_of c.args.packed.now in
    sym (of_words (record { coefficient = 1; term = Holding (location_of c.args.packed.now.first) }) (summand_of c.args.packed.now.second) c.args.packed.now.second.coefficient c.args.packed.now.third (sym c.if-not-is_sum_of_words.ensures) ∙
    (ap (λ b. b && same_sum (arranged s) s) (ap has_shape (sym c.unpacked-sum.ensures) ∙ sym c.if-not-has_shape.ensures) ∙
    sym (rw (c.unpacked-sum.ensures) at (rw c.arranged.ensures.sum at c.is_same.ensures))))

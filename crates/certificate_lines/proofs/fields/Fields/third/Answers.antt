use Rattle.std.proofs.Common.{◌≡◌, Some, refl}
use Rattle.std.specs.Prelude.{codes}
use Rattle.domain.specs.InCode.{summand_of}
use Rattle.certificate_lines.specs.FieldsLeft.{left}
use Rattle.certificate_lines.specs.Spelling.{further_text}
use Rattle.certificate_lines.proofs.LineLemmas.{both}
use Rattle.certificate_lines.proofs.SumFieldLemmas.{nothing_third, third_read, third_only, no_cell}
use Rattle.certificate_lines.proofs.fields.Fields.third.Goals as goal

pub returns-then-takes_text-clause-only : goal.returns-then-takes_text-clause-only
returns-then-takes_text-clause-only c = λ cell rest small e.
    nothing_third c.args.second.now.coefficient (left c.args.self.now) (left c.takes_text.new.self) c.if-takes_text.ensures.only cell rest e (c.if-takes_text.ensures.taken refl)

pub returns-in-Some-clause-read : goal.returns-in-Some-clause-read
returns-in-Some-clause-read c =
    let k : left c.takes_text.new.self ≡ left c.args.self.now = c.if-takes_text.ensures.kept refl in
    third_read c.args.second.now.coefficient c.in-Some.cell (summand_of c.summand-third.result) (left c.args.self.now) (left c.skip.new.self) c.in-Some.ensures.is
    (both (left c.args.self.now) (left c.summand-third.new.self) (left c.skip.new.self) (further_text (summand_of c.summand-third.result)) (codes " in ")
    (rw k at c.summand-third.ensures.read) c.skip.ensures.read)

pub returns-in-Some-clause-only : goal.returns-in-Some-clause-only
returns-in-Some-clause-only c =
    third_only c.args.second.now.coefficient (Some c.in-Some.cell) (summand_of c.summand-third.result) (left c.args.self.now) (left c.takes_text.new.self) (left c.summand-third.new.self) (left c.skip.new.self)
    (c.if-takes_text.ensures.kept refl) c.if-takes_text.ensures.only c.summand-third.ensures.only c.skip.ensures.only c.in-Some.ensures.only

pub returns-in-None-clause-only : goal.returns-in-None-clause-only
returns-in-None-clause-only c = λ cell rest small e.
    no_cell c.args.second.now.coefficient (summand_of c.summand-third.result) (left c.args.self.now) (left c.takes_text.new.self) (left c.summand-third.new.self)
    (c.if-takes_text.ensures.kept refl) c.if-takes_text.ensures.only c.summand-third.ensures.only c.in-None.ensures.only cell rest small e

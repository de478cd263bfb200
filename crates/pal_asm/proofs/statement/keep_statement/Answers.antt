use Rattle.std.proofs.Common.{◌≡◌, ◌∙◌, sym, ap, subst, List, length, Ok, Err}
use Rattle.std.specs.List.{AllByRecursion}
use Rattle.pal_text.specs.declared.tokens.Token.{Token}
use Rattle.pal_text.specs.Names.{IsWithin}
use Rattle.pal_acts.specs.Acts.{place}
use Rattle.pal_asm.specs.Numbers.{base}
use Rattle.pal_asm.specs.Expressions.{expression}
use Rattle.pal_asm.specs.SourceInCode.{read_of}
use Rattle.pal_text.proofs.Grows.{on_ok_also}
use Rattle.pal_asm.proofs.Spoken.{kept_all, kept_none}
use Rattle.pal_asm.proofs.Within.{body_within, operand_within}
use Rattle.pal_asm.proofs.statement.keep_statement.Goals as goal

pub read_expression-requires : goal.read_expression-requires
read_expression-requires g c =
    let P : Token → Type 0 = IsWithin (length c.args.part.now.source.now) in
    let Q : List Token → Type 0 = λ ts. AllByRecursion P ts in
    let body : Q c.without_tags-body.result.now = subst Q (sym c.without_tags-body.ensures) (body_within P c.args.statement.tags c.args.tokens.now c.requires.within) in
    subst Q (sym c.operand_of.ensures) (operand_within P c.args.statement.form c.without_tags-body.result.now body)

pub keep_body-requires : goal.keep_body-requires
keep_body-requires g c =
    let P : Token → Type 0 = IsWithin (length c.args.part.now.source.now) in
    let Q : List Token → Type 0 = λ ts. AllByRecursion P ts in
    subst Q (sym c.without_tags-body.ensures) (body_within P c.args.statement.tags c.args.tokens.now c.requires.within)

pub returns-in_ok-keep_tags-in-Ok : goal.returns-in_ok-keep_tags-in-Ok
returns-in_ok-keep_tags-in-Ok g c =
    let reads : Ok c.deref.result.now ≡ expression (base c.args.radix) c.args.part.now.source.now c.operand_of.result.now =
    ap Ok c.deref.ensures.value ∙ sym (ap (read_of c.read_expression.new.joins.items) c.in-Ok.is) ∙ c.in_ok-read_expression.ensures in
    on_ok_also c.keep_body.result _ _ c.keep_body.ensures
    (λ rest says. kept_all c.args.tokens.now c.args.statement says (base c.args.radix) c.args.part.now.last c.args.part.now.source.now (place c.args.part.now.number c.args.statement.line) c.deref.result.now
    c.without_tags-body.result.now c.operand_of.result.now c.args.acts.now c.keep_tags.new.acts c.keep_body.new.acts c.without_tags-body.ensures c.operand_of.ensures reads c.in_ok-keep_tags-in-Ok.ensures rest)

pub returns-in-Err : goal.returns-in-Err
returns-in-Err g c =
    let reads : Err c.in-Err.code ≡ expression (base c.args.radix) c.args.part.now.source.now c.operand_of.result.now =
    sym (ap (read_of c.read_expression.new.joins.items) c.in-Err.is) ∙ c.in_ok-read_expression.ensures in
    on_ok_also c.keep.result _ _ c.keep.ensures.kept
    (λ kept says. kept_none c.args.tokens.now c.args.statement says (base c.args.radix) c.args.part.now.last c.args.part.now.source.now (place c.args.part.now.number c.args.statement.line) c.in-Err.code
    c.without_tags-body.result.now c.operand_of.result.now c.args.acts.now c.keep.new.self c.without_tags-body.ensures c.operand_of.ensures reads kept)

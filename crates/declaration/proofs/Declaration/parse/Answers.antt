use Rattle.std.specs.Prelude.{Result, Err}
use Rattle.declaration.specs.DeclarationInCode.{Kept, meaning}
use Rattle.declaration.specs.declared.DeclarationFault.{DeclarationFault}
use Rattle.declaration.specs.declared.DeclarationFault.TheVariants.{TooMany}
use Rattle.declaration.proofs.AnswerLemmas.{too_long, only_from, exact_from, has_fault}
use Rattle.declaration.proofs.Declaration.parse.Goals as goal

pub returns-then-text-gt-MOST_BYTES-clause-refused : goal.returns-then-text-gt-MOST_BYTES-clause-refused
returns-then-text-gt-MOST_BYTES-clause-refused g c = has_fault c.args.text.now TooMany (too_long c.args.text.now c.if-text-gt-MOST_BYTES.true)

pub returns-then-text-gt-MOST_BYTES-clause-only : goal.returns-then-text-gt-MOST_BYTES-clause-only
returns-then-text-gt-MOST_BYTES-clause-only g c =
    let told : Result Kept DeclarationFault = Err TooMany in
    only_from told c.args.text.now (has_fault c.args.text.now TooMany (too_long c.args.text.now c.if-text-gt-MOST_BYTES.true))

pub returns-then-text-gt-MOST_BYTES-clause-exact : goal.returns-then-text-gt-MOST_BYTES-clause-exact
returns-then-text-gt-MOST_BYTES-clause-exact g c =
    let told : Result Kept DeclarationFault = Err TooMany in
    exact_from meaning told c.args.text.now tt (has_fault c.args.text.now TooMany (too_long c.args.text.now c.if-text-gt-MOST_BYTES.true))

pub returns-clause-only : goal.returns-clause-only
returns-clause-only g c = only_from c.parse_lines.result c.args.text.now c.parse_lines.ensures.refused

pub returns-clause-exact : goal.returns-clause-exact
returns-clause-exact g c = exact_from meaning c.parse_lines.result c.args.text.now c.parse_lines.ensures.found c.parse_lines.ensures.refused

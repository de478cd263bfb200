-- What a statement can say, each by its form.
use Rattle.std.proofs.Common.{List, [], Some, None}
use Rattle.pal_text.specs.declared.tokens.Token.{Token}
use Rattle.pal_text.specs.declared.grammar.Form.TheVariants as form
use Rattle.pal_text.specs.Grammar.{Said, says}

abbrev pub Nothing : Said
Nothing = says form.Empty None []

abbrev pub Origin : List Token → Said
Origin e = says form.Origin None e

abbrev pub Assign : Token → List Token → Said
Assign name e = says form.Assign (Some name) e

abbrev pub AssignDirection : List Token → Said
AssignDirection e = says form.Assign None e

abbrev pub Decimal : Said
Decimal = says form.Decimal None []

abbrev pub Octal : Said
Octal = says form.Octal None []

abbrev pub Pause : Said
Pause = says form.Pause None []

abbrev pub Word : List Token → Said
Word e = says form.Word None e

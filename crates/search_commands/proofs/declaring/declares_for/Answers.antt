use Rattle.std.proofs.Common.{rules}
use Rattle.declaration.specs.DeclarationInCode.{meaning}
use Rattle.search_commands.proofs.declaring.declares_for.Goals as goal

pub returns-else-ne-clause-declares : goal.returns-else-ne-clause-declares
returns-else-ne-clause-declares g c = λ told. (
  record {
    declaration = meaning c.in-Ok.found;
    declares = c.in-Ok.ensures.found;
    start_is = search rules;
    profile_is = search rules;
  },
  search rules,
)

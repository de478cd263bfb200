use Rattle.std.proofs.Common.{◌-◌, length, take}
use Rattle.std.proofs.lemmas.Bool.Decides.{Decides-eqb}
use Rattle.std.proofs.lemmas.Slice.Eq.{ends_is}
use Rattle.search_commands.specs.Keeping.{mark}
use Rattle.search_commands.proofs.keeping.ends_marked.Goals as goal

pub returns : goal.returns
returns c = λ found.
    (take (length c.args.line.now - 8) c.args.line.now, (ends_is Decides-eqb c.args.line.now mark c.ends_with.result c.ends_with.ensures.value).0 found)

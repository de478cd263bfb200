use Rattle.std.specs.Prelude.{Some}
use Rattle.std.proofs.lemmas.Bool.Decides.{Decides-eqb}
use Rattle.std.proofs.lemmas.Slice.Eq.{strip_prefix_is}
use Rattle.search_commands.specs.Keeping.{mark}
use Rattle.search_commands.proofs.KeepingLemmas.{mark_of}
use Rattle.search_commands.proofs.keeping.is_mark.Goals as goal

pub returns-in-Some : goal.returns-in-Some
returns-in-Some c = λ found.
    mark_of c.args.text.now c.in-Some.named.now (strip_prefix_is Decides-eqb c.args.text.now mark (Some c.in-Some.named) c.in-Some.ensures.cases) (c.are_named.ensures found)

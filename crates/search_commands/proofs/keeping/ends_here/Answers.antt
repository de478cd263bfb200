use Rattle.std.specs.Prelude.{Some}
use Rattle.std.proofs.lemmas.Bool.Decides.{Decides-eqb}
use Rattle.std.proofs.lemmas.Slice.Eq.{strip_prefix_is}
use Rattle.search_commands.proofs.KeepingLemmas.{ends_marked}
use Rattle.search_commands.proofs.keeping.ends_here.Goals as goal

pub returns-in-Some : goal.returns-in-Some
returns-in-Some c = λ found.
    ends_marked c.args.left.now c.args.rest.now c.in-Some.tail.now (c.is_comment_or_end.ensures c.if-not-is_comment_or_end.false)
    (strip_prefix_is Decides-eqb c.args.rest.now c.args.left.now (Some c.in-Some.tail) c.in-Some.ensures.cases) (c.is_mark.ensures found)

use Rattle.std.proofs.Common.{◌∙◌, sym}
use Rattle.std.specs.Prelude.{codes, Some}
use Rattle.std.proofs.lemmas.Bool.Decides.{Decides-eqb}
use Rattle.std.proofs.lemmas.Slice.Eq.{strip_prefix_is}
use Rattle.search_commands.proofs.KeepingLemmas.{put_in, put_shorter}
use Rattle.search_commands.proofs.keeping.behind_put.Goals as goal

pub returns-clause-grows : goal.returns-clause-grows
returns-clause-grows c = λ h.
    put_in c.args.old.now c.args.new.now c.in-Some.others.now c.first_word-word.result.front.now c.first_word-word.result.rest.now
    (strip_prefix_is Decides-eqb c.args.new.now (codes " ") (Some c.in-Some.others) c.in-Some.ensures.cases) c.first_word-word.ensures
    (sym c.are_spelling.ensures ∙ c.if-not-are_spelling.false) (sym c.ends_word.ensures ∙ c.if-not-ends_word.false) h

pub returns-clause-shorter : goal.returns-clause-shorter
returns-clause-shorter c =
    put_shorter c.args.new.now c.in-Some.others.now c.first_word-word.result.front.now c.first_word-word.result.rest.now
    (strip_prefix_is Decides-eqb c.args.new.now (codes " ") (Some c.in-Some.others) c.in-Some.ensures.cases) c.first_word-word.ensures

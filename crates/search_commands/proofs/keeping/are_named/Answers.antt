use Rattle.std.proofs.Common.{◌∙◌, sym}
use Rattle.std.specs.Prelude.{codes, Some}
use Rattle.std.proofs.lemmas.Bool.{eqb-true}
use Rattle.std.proofs.lemmas.Bool.Decides.{Decides-eqb}
use Rattle.std.proofs.lemmas.Slice.Eq.{strip_prefix_is}
use Rattle.search_commands.proofs.KeepingLemmas.{named_offsets, named_ranges}
use Rattle.search_commands.proofs.keeping.are_named.Goals as goal

pub returns-in-Some : goal.returns-in-Some
returns-in-Some c = λ found.
    named_offsets c.args.text.now c.first_ranges-named.result.front.now c.first_ranges-named.result.rest.now c.in-Some.offsets.now c.first_ranges-named.ensures
    (strip_prefix_is Decides-eqb c.first_ranges-named.result.rest.now (codes "returns") (Some c.in-Some.offsets) c.in-Some.ensures.cases)
    (sym c.are_spaced.ensures ∙ c.if-not-are_spaced.false) (sym c.are_spaced-in-Some.ensures ∙ found)

pub returns-in-None : goal.returns-in-None
returns-in-None c = λ found.
    named_ranges c.args.text.now c.first_ranges-named.result.front.now c.first_ranges-named.result.rest.now c.first_ranges-named.ensures
    (eqb-true _ 0 (sym c.is_empty.ensures ∙ found)) (sym c.are_spaced.ensures ∙ c.if-not-are_spaced.false)

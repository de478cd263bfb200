use Rattle.std.proofs.Common.{◌∙◌, sym}
use Rattle.std.proofs.lemmas.Bool.{eqb-true}
use Rattle.search_commands.proofs.KeepingLemmas.{one_more_added, none_added}
use Rattle.search_commands.proofs.keeping.are_added.Goals as goal

pub loop-rest-preserved : goal.loop-rest-preserved
loop-rest-preserved c = λ others. c.loop-rest.invariant
    (one_more_added c.loop-rest.rest.now c.in-Some.it.front.now c.in-Some.it.rest.now c.in-Some.ensures.has c.in-Some.ensures.line
    c.in-Some.ensures.rest (c.is_added.ensures c.if-not-is_added.false) others)

pub returns : goal.returns
returns c = λ done. c.loop-rest.invariant (none_added c.loop-rest.rest.now (eqb-true _ 0 (sym c.is_empty.ensures ∙ c.loop-rest-test.false)))

use Rattle.std.proofs.Common.{◌∙◌, sym}
use Rattle.std.proofs.lemmas.Bool.{eqb-true}
use Rattle.search_commands.proofs.KeepingLemmas.{last_kept, one_more_kept, only_added, same_text}
use Rattle.search_commands.proofs.keeping.keeps_lines.Goals as goal

pub loop-left-preserved : goal.loop-left-preserved
loop-left-preserved c = λ others. c.loop-left.invariant
    (one_more_kept c.loop-left.left.now c.loop-left.rest.now c.in-Some-front_line.old.front.now c.in-Some-front_line.old.rest.now c.in-Some.new.front.now c.in-Some.new.rest.now
    c.in-Some-front_line.ensures.has c.in-Some-front_line.ensures.line c.in-Some-front_line.ensures.rest
    c.in-Some.ensures.has c.in-Some.ensures.line c.in-Some.ensures.rest
    (c.keeps_line.ensures c.if-not-keeps_line.false) others)

pub returns-then-is_same : goal.returns-then-is_same
returns-then-is_same c = λ done. same_text c.args.given.now c.args.text.now (sym c.if-is_same.ensures)

pub returns-in_default-front_line : goal.returns-in_default-front_line
returns-in_default-front_line c = λ done. c.loop-left.invariant
    (last_kept c.loop-left.left.now c.loop-left.rest.now c.in-Some.new.front.now c.in-Some.new.rest.now c.in-Some.ensures.has c.in-Some.ensures.line c.in-Some.ensures.rest
    (c.keeps_last.ensures.kept done) (c.keeps_last.ensures.added done))

pub returns : goal.returns
returns c = λ done. c.loop-left.invariant (only_added c.loop-left.left.now c.loop-left.rest.now (eqb-true _ 0 (sym c.is_empty.ensures ∙ c.loop-left-test.false)) (c.are_added.ensures done))

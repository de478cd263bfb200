use Rattle.std.proofs.Common.{rules, ◌≡◌, true, false}
use Rattle.labels.proofs.Withins.{stands_first, stands_further, stands_last, stands_whole}
use Rattle.labels.proofs.within.lines_with.Goals as goal

pub loop-at-init : goal.loop-at-init
loop-at-init g c = stands_first c.args.words.now c.args.parts.now c.new-text.result.items (search rules)

pub loop-at-preserved : goal.loop-at-preserved
loop-at-preserved g c =
    let yes : c.in_ok-on.on ≡ true = search rules in
    stands_further c.args.words.now c.args.parts.now c.loop-at.at _ c.in_ok-on.on c.loop-at.text.items c.push_part.new.text.items c.loop-at-test.true c.in_ok-on.ensures c.loop-at.invariant yes

pub returns : goal.returns
returns g c = stands_whole c.args.words.now c.args.parts.now c.loop-at.at c.loop-at.text.items c.loop-at-test.false c.loop-at.invariant

pub returns-then-not-on : goal.returns-then-not-on
returns-then-not-on g c =
    let no_more : c.in_ok-on.on ≡ false = search rules in
    stands_last c.args.words.now c.args.parts.now c.loop-at.at _ c.in_ok-on.on c.loop-at.text.items c.push_part.new.text.items c.loop-at-test.true c.in_ok-on.ensures c.loop-at.invariant no_more

use Rattle.std.proofs.Common.{None, Some, arith, length, refl, rules}
use Rattle.std.proofs.lemmas.List.{length-append}
use Rattle.std.proofs.lemmas.Slice.Zip.{zip_end, zip_turn}
use Rattle.declaration.specs.DeclarationInCode.{return_assertion_of}
use Rattle.search_commands.proofs.AddingLemmas.{fails_with}
use Rattle.search_commands.proofs.AssertingLemmas.{agree_if_begun, agree_more, agree_there, begun}
use Rattle.search_commands.proofs.asserting.begins_with.Goals as goal

pub loop-line-preserved : goal.loop-line-preserved
loop-line-preserved c =
    let turn = zip_turn c.args.lines.now c.args.first.now c.loop-line.yielded _ _ c.next.new.self (Some (c.in-Some.line, c.in-Some.other)) (search rules) (search rules) c.loop-line.yielded_by (c.in-Some.line, c.in-Some.other) refl c.in-Some.ensures.steps in
    agree_more return_assertion_of c.args.lines.now c.args.first.now (length c.loop-line.yielded) _ c.in-Some.line.now c.in-Some.other.now (length-append c.loop-line.yielded _)
    turn.0 turn.1 turn.2 turn.3 (c.is_same_at_returns.ensures.0 c.if-not-is_same_at_returns.false) c.loop-line.invariant

pub returns-then-not-is_same_at_returns : goal.returns-then-not-is_same_at_returns
returns-then-not-is_same_at_returns c =
    let turn = zip_turn c.args.lines.now c.args.first.now c.loop-line.yielded _ _ c.next.new.self (Some (c.in-Some.line, c.in-Some.other)) (search rules) (search rules) c.loop-line.yielded_by (c.in-Some.line, c.in-Some.other) refl c.in-Some.ensures.steps in
    fails_with _ c.if-not-is_same_at_returns.true c.is_same_at_returns.ensures.1
    (λ same. agree_there return_assertion_of c.args.lines.now c.args.first.now (length c.loop-line.yielded) c.in-Some.line.now c.in-Some.other.now
    turn.0 turn.1 turn.2 turn.3 (agree_if_begun return_assertion_of c.args.lines.now c.args.first.now same.0 _ (omega (arith, turn.1)) same.1))

pub returns : goal.returns
returns c =
    let ended = zip_end c.args.lines.now c.args.first.now c.loop-line.yielded _ _ c.next.new.self None (search rules) (search rules) c.loop-line.yielded_by refl c.in-None.ensures.steps in (
      λ done. begun return_assertion_of c.args.lines.now c.args.first.now (length c.loop-line.yielded) (omega (arith, ended, c.if-lines-first.false)) c.loop-line.invariant,
      λ same. refl,
    )

use Rattle.std.proofs.Common.{Some, length, refl, rules}
use Rattle.std.proofs.lemmas.List.{length-append}
use Rattle.std.proofs.lemmas.Slice.Zip.{zip_turn}
use Rattle.declaration.specs.DeclarationInCode.{place_assertion_of}
use Rattle.search_commands.proofs.AddingLemmas.{fails_with}
use Rattle.search_commands.proofs.AssertingLemmas.{agree_if_same, agree_more, agree_there}
use Rattle.search_commands.proofs.asserting.are_same.Goals as goal

pub loop-line-preserved : goal.loop-line-preserved
loop-line-preserved c =
    let turn = zip_turn c.args.left.now c.args.right.now c.loop-line.yielded _ _ c.next.new.self (Some (c.in-Some.line, c.in-Some.other)) (search rules) (search rules) c.loop-line.yielded_by (c.in-Some.line, c.in-Some.other) refl c.in-Some.ensures.steps in
    agree_more place_assertion_of c.args.left.now c.args.right.now (length c.loop-line.yielded) _ c.in-Some.line.now c.in-Some.other.now (length-append c.loop-line.yielded _)
    turn.0 turn.1 turn.2 turn.3 (c.is_same_at_places.ensures.0 c.if-not-is_same_at_places.false) c.loop-line.invariant

pub returns-then-not-is_same_at_places : goal.returns-then-not-is_same_at_places
returns-then-not-is_same_at_places c =
    let turn = zip_turn c.args.left.now c.args.right.now c.loop-line.yielded _ _ c.next.new.self (Some (c.in-Some.line, c.in-Some.other)) (search rules) (search rules) c.loop-line.yielded_by (c.in-Some.line, c.in-Some.other) refl c.in-Some.ensures.steps in
    fails_with _ c.if-not-is_same_at_places.true c.is_same_at_places.ensures.1
    (λ same. agree_there place_assertion_of c.args.left.now c.args.right.now (length c.loop-line.yielded) c.in-Some.line.now c.in-Some.other.now
    turn.0 turn.1 turn.2 turn.3 (agree_if_same place_assertion_of c.args.left.now c.args.right.now _ same))

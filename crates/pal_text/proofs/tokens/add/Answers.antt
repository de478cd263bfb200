use Rattle.std.proofs.Common.{◌∙◌, sym, ap, length, arith}
use Rattle.pal_text.proofs.Grows.{on_ok_also, anyway, grow_space, grow_first, grow_one, grow_both}
use Rattle.pal_text.proofs.tokens.add.Goals as goal

pub returns-in-Some-clause-added : goal.returns-in-Some-clause-added
returns-in-Some-clause-added g c ts is =
    grow_one c.args.out.now.items ts c.args.next c.in-Some.one c.len-count.result c.index.result.now is (c.len-count.ensures ∙ c.args.out.now.ok.0) (omega arith)
    c.index.ensures (sym c.join.ensures ∙ c.in-Some.is)

pub returns-in-None-clause-added : goal.returns-in-None-clause-added
returns-in-None-clause-added g c = on_ok_also c.append-in-None.result _ _ c.append-in-None.ensures (λ items ts is. items ∙
    grow_both c.args.out.now.items ts c.args.next c.len-count.result c.index.result.now is (c.len-count.ensures ∙ c.args.out.now.ok.0) (omega arith)
    c.index.ensures (sym c.join.ensures ∙ c.in-None.is))

pub returns-then-is_a_space-clause-added : goal.returns-then-is_a_space-clause-added
returns-then-is_a_space-clause-added g c ts is =
    grow_space c.args.out.now.items ts c.args.next is (sym (c.len-count.ensures ∙ c.args.out.now.ok.0) ∙ c.if-count-eq0.true) (sym c.is_a_space.ensures ∙ c.if-is_a_space.true)

pub returns-else-is_a_space-clause-added : goal.returns-else-is_a_space-clause-added
returns-else-is_a_space-clause-added g c = on_ok_also c.append.result _ _ c.append.ensures (λ items ts is. items ∙
    grow_first c.args.out.now.items ts c.args.next is (sym (c.len-count.ensures ∙ c.args.out.now.ok.0) ∙ c.if-count-eq0.true) (sym c.is_a_space.ensures ∙ c.if-is_a_space.false))

pub returns-else-is_a_space-clause-refused : goal.returns-else-is_a_space-clause-refused
returns-else-is_a_space-clause-refused g c = anyway c.append.result (λ is. sym c.is_a_space.ensures ∙ c.if-is_a_space.false)

pub returns-in-None-clause-refused : goal.returns-in-None-clause-refused
returns-in-None-clause-refused g c = anyway c.append-in-None.result (λ is. absurd (c.if-count-eq0.false (c.len-count.ensures ∙ c.args.out.now.ok.0 ∙ ap length is)))

use Rattle.std.proofs.Common.{◌∙◌, sym, ap, subst, arith, List, length, ◌+◌, ◌≤◌}
use Rattle.std.specs.List.{AllByRecursion}
use Rattle.pal_text.specs.declared.tokens.Token.{Token}
use Rattle.pal_text.specs.Names.{IsWithin, named}
use Rattle.pal_text.specs.Statements.{closing}
use Rattle.pal_text.proofs.Nexts.{line_small, made_at, standing_after, goes_inside, raw_within, stands_made, back, next_found, next_broken, next_small, next_stands, next_within}
use Rattle.pal_text.proofs.reader.read_statement.Goals as goal

pub name_tokens-requires : goal.name_tokens-requires
name_tokens-requires g c =
    let P : List Token → Type 0 = λ l. AllByRecursion (IsWithin (length c.args.source.now)) l in
    subst P (sym c.deref_mut.ensures.value)
    (raw_within c.args.source.now c.args.place.now c.drop_space.new.out.items _
    (made_at c.args.source.now c.args.place.now c.in-Ok.stop c.read_own.new.out.items c.drop_space.new.out.items c.requires.place c.in-Ok.ensures.own c.in-Ok.ensures.stop c.drop_space.ensures))

pub returns-in_default-shape_of-clause-fault : goal.returns-in_default-shape_of-clause-fault
returns-in_default-shape_of-clause-fault g c =
    rw c.mark_at-mark.ensures
    (next_broken c.args.source.now c.args.count c.drop_space.new.out.items _ c.deref.result.now _
    (stands_made c.args.source.now c.args.place.now c.in-Ok.stop c.args.count c.read_own.new.out.items c.drop_space.new.out.items c.requires.place c.in-Ok.ensures.own c.in-Ok.ensures.stop c.drop_space.ensures c.requires.count)
    (back c.drop_space.new.out.items c.deref_mut.result.now c.name_tokens.new.tokens c.drop_space.new.out.len (named c.args.source.now) c.deref_mut.ensures.value c.name_tokens.ensures c.drop_space.new.out.ok.0)
    c.deref.ensures.value (sym c.shape_of.ensures ∙ c.in_default-shape_of.is))

pub overflow_add-last : goal.overflow_add-last
overflow_add-last g c =
    let small : c.args.count + c.len.result ≤ 65536 = next_small c.args.source.now c.args.count c.len.result c.drop_space.new.out.items _ c.requires.size
    (stands_made c.args.source.now c.args.place.now c.in-Ok.stop c.args.count c.read_own.new.out.items c.drop_space.new.out.items c.requires.place c.in-Ok.ensures.own c.in-Ok.ensures.stop c.drop_space.ensures c.requires.count)
    (c.len.ensures ∙ c.drop_space.new.out.ok.0) in
    omega arith

pub standing_after-next-requires-clause-inside : goal.standing_after-next-requires-clause-inside
standing_after-next-requires-clause-inside g c none =
    goes_inside c.args.source.now c.args.place.now.line c.in-Ok.stop c.deref-2.result.now c.mark_at-mark.result c.in-Some.shape.form c.close_of-close.result c.mark_at-mark.ensures c.in-Ok.ensures.stop.inside c.close_of-close.ensures none

pub standing_after-next-requires-clause-small : goal.standing_after-next-requires-clause-small
standing_after-next-requires-clause-small g c = line_small c.args.source.now c.args.place.now c.requires.size c.requires.place

pub returns-clause-found : goal.returns-clause-found
returns-clause-found g c =
    rw c.mark_at-mark.ensures
    (next_found c.args.source.now c.args.count c.len.result c.drop_space.new.out.items _ c.deref.result.now c.deref-2.result.now _ c.in-Some.shape c.close_of-close.result _ c.standing_after-next.result
    (stands_made c.args.source.now c.args.place.now c.in-Ok.stop c.args.count c.read_own.new.out.items c.drop_space.new.out.items c.requires.place c.in-Ok.ensures.own c.in-Ok.ensures.stop c.drop_space.ensures c.requires.count)
    (back c.drop_space.new.out.items c.deref_mut.result.now c.name_tokens.new.tokens c.drop_space.new.out.len (named c.args.source.now) c.deref_mut.ensures.value c.name_tokens.ensures c.drop_space.new.out.ok.0)
    c.deref.ensures.value c.deref-2.ensures.value (c.len.ensures ∙ c.drop_space.new.out.ok.0) (sym c.shape_of.ensures ∙ c.in-Some.is)
    (c.close_of-close.ensures ∙ ap (λ m. closing (length c.args.source.now) c.deref-2.result.now m c.in-Some.shape.form) c.mark_at-mark.ensures)
    c.standing_after-next.ensures)

pub returns-clause-standing : goal.returns-clause-standing
returns-clause-standing g c =
    next_stands c.args.source.now c.args.count c.len.result c.drop_space.new.out.items c.close_of-close.result _ c.standing_after-next.result (c.len.ensures ∙ c.drop_space.new.out.ok.0) c.standing_after-next.ensures
    (λ none. standing_after c.args.source.now c.args.place.now c.in-Ok.stop c.args.count c.read_own.new.out.items c.drop_space.new.out.items c.requires.place c.in-Ok.ensures.own c.in-Ok.ensures.stop c.drop_space.ensures c.requires.count
    (goes_inside c.args.source.now c.args.place.now.line c.in-Ok.stop c.deref-2.result.now c.mark_at-mark.result c.in-Some.shape.form c.close_of-close.result c.mark_at-mark.ensures c.in-Ok.ensures.stop.inside c.close_of-close.ensures none))

pub returns-clause-within : goal.returns-clause-within
returns-clause-within g c =
    next_within c.args.source.now c.args.count c.drop_space.new.out.items _ _
    (stands_made c.args.source.now c.args.place.now c.in-Ok.stop c.args.count c.read_own.new.out.items c.drop_space.new.out.items c.requires.place c.in-Ok.ensures.own c.in-Ok.ensures.stop c.drop_space.ensures c.requires.count)
    (back c.drop_space.new.out.items c.deref_mut.result.now c.name_tokens.new.tokens c.drop_space.new.out.len (named c.args.source.now) c.deref_mut.ensures.value c.name_tokens.ensures c.drop_space.new.out.ok.0)

pub returns-clause-small : goal.returns-clause-small
returns-clause-small g c =
    next_small c.args.source.now c.args.count c.len.result c.drop_space.new.out.items _ c.requires.size
    (stands_made c.args.source.now c.args.place.now c.in-Ok.stop c.args.count c.read_own.new.out.items c.drop_space.new.out.items c.requires.place c.in-Ok.ensures.own c.in-Ok.ensures.stop c.drop_space.ensures c.requires.count)
    (c.len.ensures ∙ c.drop_space.new.out.ok.0)

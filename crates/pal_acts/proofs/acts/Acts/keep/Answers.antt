use Rattle.std.proofs.Common.{◌∙◌, ap, [], ◌∷◌, ◌++◌}
use Rattle.pal_acts.specs.declared.acts.StoredAct.{StoredAct}
use Rattle.pal_acts.specs.Acts.{placed, acts_in}
use Rattle.pal_acts.proofs.Flat.{added, within_longer, within_added}
use Rattle.pal_acts.proofs.acts.Acts.keep.Goals as goal

pub returns : goal.returns
returns g c =
    let k : StoredAct = record { place = c.args.place; act = c.args.act; span = c.in_ok-span.span } in
    record {
      kept = ap (acts_in c.lay.new.terms.items) {x = c.push.new.self.items} {y = c.self.inside.list.items ++ k ∷ []} c.in_ok-push.ensures.items
          ∙ added c.self.inside.terms.items c.args.terms.now c.lay.new.terms.items c.self.inside.list.items k c.self.invariant c.in_ok-span.ensures.laid c.in_ok-span.ensures.first c.in_ok-span.ensures.last
          ∙ ap (λ l. l ++ placed c.args.place c.args.terms.now c.args.act ∷ []) c.self.view_is;
    }

pub invariant_of-self-in_err-push : goal.invariant_of-self-in_err-push
invariant_of-self-in_err-push g c =
    rw c.in_err-push.ensures.items (within_longer c.self.inside.terms.items c.lay.new.terms.items c.self.inside.list.items c.self.invariant c.lay.ensures.kept)

pub invariant_of-self-2 : goal.invariant_of-self-2
invariant_of-self-2 g c =
    let k : StoredAct = record { place = c.args.place; act = c.args.act; span = c.in_ok-span.span } in
    within_added c.self.inside.terms.items c.args.terms.now c.lay.new.terms.items c.self.inside.list.items c.push.new.self.items k c.self.invariant c.in_ok-span.ensures.laid c.in_ok-span.ensures.first c.in_ok-span.ensures.last c.in_ok-push.ensures.items

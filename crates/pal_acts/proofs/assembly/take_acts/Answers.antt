use Rattle.std.proofs.Common.{◌≡◌, ◌+◌, ◌<◌, arith, take, drop, length, ap, sym, ◌∙◌, List, ◌∷◌, ℕ, subst, refl}
use Rattle.pal_text.specs.declared.names.Name.{Name}
use Rattle.std.specs.Prelude.{reverse}
use Rattle.std.proofs.lemmas.List.{take_all}
use Rattle.pal_acts.specs.Acts.{PlacedAct, shown}
use Rattle.pal_acts.specs.Meaning.{taken, Defines, nothing}
use Rattle.pal_acts.proofs.Places.{Comes, goes_on, turned_more, split_at}
use Rattle.pal_acts.proofs.assembly.take_acts.Goals as goal

pub loop-at-init : goal.loop-at-init
loop-at-init g c = rw c.requires (nothing, c.from_index-here.ensures, refl)

pub loop-at-preserved : goal.loop-at-preserved
loop-at-preserved g c =
    let acts : List PlacedAct = c.args.acts.now in
    let within : c.loop-at.at < length acts = omega arith in
    let next : PlacedAct = shown c.get-next.result in
    let m = turned_more acts c.loop-at.at next within c.get-next.ensures in
    let kept : c.act.new.self.permanent.now.entries ≡ c.loop-at.symbols.permanent.now.entries = ap (λ b. b.now.entries) c.act.ensures.permanent in
    let on = goes_on c.loop-at.symbols.permanent.now.entries 1024 (reverse (take c.loop-at.at acts)) next c.loop-at.symbols.own.entries c.act.new.self.own.entries c.loop-at.here c.act.new.here
    (record { defines = c.loop-at.invariant.0; here_is = c.loop-at.invariant.1 }) c.in-Ok.ensures.taken c.in-Ok.ensures.location in
    let P : List (Name × ℕ) → Type 0 = λ p. Comes p 1024 (next ∷ reverse (take c.loop-at.at acts)) c.act.new.self.own.entries c.act.new.here in
    let on' : P c.act.new.self.permanent.now.entries = subst P (sym kept) on in
    rw m (on'.defines, on'.here_is, kept ∙ c.loop-at.invariant.2)

pub returns-clause-symbols : goal.returns-clause-symbols
returns-clause-symbols g c =
    let all : take c.loop-at.at c.args.acts.now ≡ c.args.acts.now = take_all c.loop-at.at c.args.acts.now (omega arith) in
    rw (← c.loop-at.invariant.2) (subst (λ l. Defines c.loop-at.symbols.permanent.now.entries 1024 (reverse l) c.loop-at.symbols.own.entries) all c.loop-at.invariant.0)

pub returns-in-Err-Fault-clause-refused : goal.returns-in-Err-Fault-clause-refused
returns-in-Err-Fault-clause-refused g c =
    let acts : List PlacedAct = c.args.acts.now in
    let within : c.loop-at.at < length acts = omega arith in
    let next : PlacedAct = shown c.get-next.result in
    let e = rw c.in-Err-Fault.field-0-is at c.in-Err-Fault.ensures.refused in
    let kept : c.loop-at.symbols.permanent.now.entries ≡ c.args.symbols.now.permanent.now.entries = c.loop-at.invariant.2 in
    rw c.in-Err-Fault.field-0-is (rw (← kept) (record {
      earlier = reverse (take c.loop-at.at acts);
      next = next;
      later = drop (c.loop-at.at + 1) acts;
      parts = split_at acts c.loop-at.at next within c.get-next.ensures;
      such = (
        refl,
        (
          c.loop-at.symbols.own.entries,
          c.loop-at.invariant.0,
          ap (λ l. taken c.loop-at.symbols.permanent.now.entries 1024 c.loop-at.symbols.own.entries l next.terms next.act) (sym c.loop-at.invariant.1) ∙ e,
        ),
      );
    }))

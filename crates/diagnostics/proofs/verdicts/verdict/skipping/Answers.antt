use Rattle.std.proofs.Common.{ℕ, Bool, ◌≡◌, ◌==◌, ◌||◌, ◌&&◌, sym, ap, ◌∙◌}
use Rattle.std.specs.Prelude.{nat_lt}
use Rattle.wordset.specs.Words.{Words, some_below}
use Rattle.wordset.specs.Lanes.{words}
use Rattle.wordset.proofs.IterLemmas.{none_gathered, image_gathered, all_gathered}
use Rattle.declaration.specs.DeclarationInCode.{meaning}
use Rattle.domain.proofs.SetLemmas.{kept_all, and_yes, or_none}
use Rattle.diagnostics.proofs.verdicts.verdict.skipping.Goals as goal

pub loop-entry-init : goal.loop-entry-init
loop-entry-init g c = none_gathered c.iter-entry-items.ensures c.into_iter-entry-iterator.ensures.into_iter_gives (λ v. ap (λ (s : Words). s v) c.empty-found.ensures)

pub loop-entry-preserved-then-is_skipping : goal.loop-entry-preserved-then-is_skipping
loop-entry-preserved-then-is_skipping g c =
    let high = (λ (e : ℕ). some_below 64 (λ o. nat_lt 7 o && (meaning c.args.declaration.now).offset e o)) in
    image_gathered c.loop-entry.invariant c.in-Some.ensures.steps
    (λ v. ap (λ (s : Words). s v) c.insert.ensures
    ∙ ap (λ (b : Bool). words c.loop-entry.found v || b) (and_yes (v == c.in-Some.entry) (high c.in-Some.entry) (sym c.is_skipping.ensures ∙ c.if-is_skipping.true)))

pub loop-entry-preserved : goal.loop-entry-preserved
loop-entry-preserved g c =
    let high = (λ (e : ℕ). some_below 64 (λ o. nat_lt 7 o && (meaning c.args.declaration.now).offset e o)) in
    image_gathered c.loop-entry.invariant c.in-Some.ensures.steps
    (λ v. or_none (words c.loop-entry.found v) (v == c.in-Some.entry) (high c.in-Some.entry) (sym c.is_skipping.ensures ∙ c.if-is_skipping.false))

pub returns : goal.returns
returns g c =
    kept_all c.args.entries.now c.loop-entry.found
    (λ (e : ℕ). some_below 64 (λ o. nat_lt 7 o && (meaning c.args.declaration.now).offset e o))
    (all_gathered c.loop-entry.invariant c.in-None.ensures.steps)

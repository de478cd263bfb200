-- Acts whose expressions lie in one list.
use Rattle.std.proofs.Common.{◌≡◌, ◌∙◌, ap, sym, refl, subst, ℕ, ◌+◌, ◌-◌, ◌≤◌, List, [], ◌∷◌, ◌++◌, arith, length, take, drop}
use Rattle.std.specs.Prelude.{slice_range}
use Rattle.std.specs.List.{AllByRecursion}
use Rattle.std.proofs.lemmas.List.{take_all, drop_at, drop-append-le, take-append-le, length-append, length-drop, map-append}
use Rattle.pal_text.proofs.Rises.{all_append}
use Rattle.pal_acts.specs.declared.act.SignedTerm.{SignedTerm}
use Rattle.pal_acts.specs.declared.acts.StoredAct.{StoredAct}
use Rattle.pal_acts.specs.Acts.{placed, acts_in}
use Rattle.pal_acts.specs.ActsInCode.{kept_act}
use Rattle.pal_acts.specs.ActsInCode.{LiesWithin}

pub range_kept : {X : Type 0} (js more : List X) (first last : ℕ) → first ≤ last → last ≤ length js → slice_range (js ++ more) first last ≡ slice_range js first last
range_kept js more first last h k =
    let room : last - first ≤ length (drop first js) = omega (arith, length-drop first js) in
    ap (take (last - first)) (drop-append-le first js more (omega arith)) ∙ take-append-le (last - first) (drop first js) more room

range_new : (js e : List SignedTerm) → slice_range (js ++ e) (length js) (length (js ++ e)) ≡ e
range_new js e =
    let room : length e ≤ length (js ++ e) - length js = omega (arith, length-append js e) in
    ap (take (length (js ++ e) - length js)) (drop_at js e (length js) refl) ∙ take_all (length (js ++ e) - length js) e room

kept_acts : (js more : List SignedTerm) (ks : List StoredAct) → AllByRecursion (LiesWithin (length js)) ks → acts_in (js ++ more) ks ≡ acts_in js ks
kept_acts js more [] h = refl
kept_acts js more (k ∷ ks) h =
    let one : slice_range (js ++ more) k.span.first k.span.last ≡ slice_range js k.span.first k.span.last = range_kept js more k.span.first k.span.last h.0.forward h.0.inside in
    let rest : acts_in (js ++ more) ks ≡ acts_in js ks = kept_acts js more ks h.1 in
    λ i. placed k.place (one i) k.act ∷ rest i

pub within_longer : (js js' : List SignedTerm) (ks : List StoredAct) → AllByRecursion (LiesWithin (length js)) ks → ((more : List SignedTerm) × (js' ≡ js ++ more)) → AllByRecursion (LiesWithin (length js')) ks
within_longer js js' [] h e = tt
within_longer js js' (k ∷ ks) h (more, e) =
    let size : length js' ≡ length js + length more = ap length e ∙ length-append js more in
    (record { forward = h.0.forward; inside = omega (arith, h.0.inside, size) }, within_longer js js' ks h.1 (more, e))

-- and one more, whose expression was laid at the end
pub within_added : (js e js' : List SignedTerm) (ks ks' : List StoredAct) (k : StoredAct) → AllByRecursion (LiesWithin (length js)) ks → js' ≡ js ++ e → k.span.first ≡ length js → k.span.last ≡ length js' → ks' ≡ ks ++ k ∷ []
    → AllByRecursion (LiesWithin (length js')) ks'
within_added js e js' ks ks' k h same first last is =
    let P : List StoredAct → Type 0 = λ l. AllByRecursion (LiesWithin (length js')) l in
    let size : length js' ≡ length js + length e = ap length same ∙ length-append js e in
    let one : LiesWithin (length js') k = record { forward = omega (arith, first, last, size); inside = omega (arith, last) } in
    subst P (sym is) (all_append (LiesWithin (length js')) ks (k ∷ []) (within_longer js js' ks h (e, same)) (one, tt))

-- one act more, whose expression was laid at the end
pub added : (js e js' : List SignedTerm) (ks : List StoredAct) (k : StoredAct) → AllByRecursion (LiesWithin (length js)) ks → js' ≡ js ++ e → k.span.first ≡ length js → k.span.last ≡ length js'
    → acts_in js' (ks ++ k ∷ []) ≡ acts_in js ks ++ placed k.place e k.act ∷ []
added js e js' ks k h same first last =
    let old : acts_in (js ++ e) ks ≡ acts_in js ks = kept_acts js e ks h in
    let new : slice_range (js ++ e) k.span.first k.span.last ≡ e =
    ap (λ n. slice_range (js ++ e) n k.span.last) first ∙ ap (slice_range (js ++ e) (length js)) (last ∙ ap length same) ∙ range_new js e in
    ap (λ l. acts_in l (ks ++ k ∷ [])) same ∙ map-append (kept_act (js ++ e)) ks (k ∷ []) ∙ (λ i. old i ++ placed k.place (new i) k.act ∷ [])

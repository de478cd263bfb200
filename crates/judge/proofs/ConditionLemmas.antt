-- Of conditions that fail only one is the first.
use Rattle.std.proofs.Common.{◌≡◌, ℕ, ◌+◌, ◌*◌, ◌<◌, ◌≤◌, ◌==◌, sym, refl, ap, ◌∙◌, arith}
use Rattle.std.specs.Prelude.{if◌then◌else◌}
use Rattle.facts.specs.declared.Condition.{Condition}
use Rattle.facts.specs.declared.Condition.TheVariants.{V1, V2, V3, V4, V5, V6, V7, V8, V9, V10, V11, V12, V13, V14, V15, V16}
use Rattle.judge.specs.ConditionOrder.{order, place_among}
use Rattle.judge.proofs.PlaceLemmas.{IsLater, order_of}

-- the condition that has a place among those at one address
abbrev pub condition_at : ℕ → Condition
condition_at n =
    if n == 0 then V1 else (if n == 1 then V2 else (if n == 2 then V3 else (if n == 3 then V5 else (if n == 4 then V14 else (if n == 5 then V6 else (if n == 6 then V13 else
    (if n == 7 then V7 else (if n == 8 then V8 else (if n == 9 then V9 else (if n == 10 then V10 else (if n == 11 then V12 else (if n == 12 then V11 else (if n == 13 then V4 else (if n == 14 then V15 else V16))))))))))))))

pub place_of : (v : Condition) → condition_at (place_among v) ≡ v
place_of V1 = refl
place_of V2 = refl
place_of V3 = refl
place_of V4 = refl
place_of V5 = refl
place_of V6 = refl
place_of V7 = refl
place_of V8 = refl
place_of V9 = refl
place_of V10 = refl
place_of V11 = refl
place_of V12 = refl
place_of V13 = refl
place_of V14 = refl
place_of V15 = refl
place_of V16 = refl

same_place : (v u : Condition) → place_among v ≡ place_among u → v ≡ u
same_place v u e = sym (place_of v) ∙ ap condition_at e ∙ place_of u

pub start_before : (v u : Condition) (a b : ℕ) → v ≡ V1 → IsLater u → order v a ≡ order u b → ⊥
start_before v u a b e l same =
    let zero : order v a ≡ 0 = ap (λ x. order x a) e in
    let sum : 0 ≡ 16 * b + place_among u = sym zero ∙ (same ∙ order_of u b l) in
    let low : 1 ≤ place_among u = l.low in
    absurd (omega (arith, sum, low))

pub later_order : (v u : Condition) (a b : ℕ) → IsLater v → IsLater u → order v a ≡ order u b → (v ≡ u) × (a ≡ b)
later_order v u a b l m same =
    let sum : 16 * a + place_among v ≡ 16 * b + place_among u = sym (order_of v a l) ∙ (same ∙ order_of u b m) in
    let high : place_among v < 16 = l.high in
    let also : place_among u < 16 = m.high in
    let place : place_among v ≡ place_among u = omega (arith, sum, high, also) in
    let address : a ≡ b = omega (arith, sum, high, also) in
    (same_place v u place, address)

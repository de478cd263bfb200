-- The order of the conditions.
use Rattle.std.proofs.Common.{◌≡◌, ℕ, ◌+◌, ◌*◌, ◌<◌, ◌≤◌, false, ◌⊎◌, refl, ap, inl, inr, lit≤, lit<}
use Rattle.std.specs.Prelude.{if◌then◌else◌}
use Rattle.facts.specs.declared.Condition.{Condition}
use Rattle.facts.specs.declared.Condition.TheVariants.{V1}
use Rattle.judge.specs.ConditionOrder.{is_first_condition, place_among, order}

-- a condition is the one on the start, or it has a later place
pub record IsLater (v : Condition) : Type 0 where
  pub later : is_first_condition v ≡ false
  pub low : 1 ≤ place_among v
  pub high : place_among v < 16

pub start_or_later : (v : Condition) → (v ≡ V1) ⊎ IsLater v
start_or_later V1 = inl refl
start_or_later _ = inr (record { later = refl; low = lit≤ tt; high = lit< tt })

pub order_of : (v : Condition) (a : ℕ) → IsLater v → order v a ≡ 16 * a + place_among v
order_of v a l = ap (λ b. if b then 0 else 16 * a + place_among v) l.later

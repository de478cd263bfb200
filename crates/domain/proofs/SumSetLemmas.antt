-- The words of a set to which one multiple is added.
use Rattle.std.proofs.Common.{◌≡◌, ℕ, ◌+◌, ◌-◌, ◌*◌, ◌%◌, ◌<◌, ◌==◌, true, false, ◌&&◌, refl, sym, ap, ◌∙◌, arith, inl, inr}
use Rattle.std.specs.Prelude.{nat_lt, Some}
use Rattle.std.proofs.Math.Path.{fun_ext}
use Rattle.std.proofs.lemmas.Bool.{cases_lt, eq-eqb, eqb-true, ne_eqb}
use Rattle.wordset.specs.Words.{mirrored, Words, some_below, shifted, sums, one, only, minus}
use Rattle.wordset.proofs.Tests.{some_from, some_to, IsSome, both_ways, and_both, and_first, and_second}
use Rattle.wordset.proofs.Firsts.{IsOnly, only_word}
use Rattle.wordset.proofs.SetLemmas.{closed_at, closed_past}
use Rattle.domain.specs.Adding.{times}

one_back : (a : Words) (c d m v : ℕ) → d < 4096 → m ≡ (c * d) % 4096 → v < 4096 → a (minus v m) ≡ true → some_below 4096 (λ x. a x && times c (one d) (minus v x)) ≡ true
one_back a c d m v h e l t =
    let low : m < 4096 = omega (arith, e) in
    let back : minus v (minus v m) ≡ m = omega arith in
    some_from 4096 (λ x. a x && times c (one d) (minus v x)) (minus v m) (omega arith)
    (and_both (a (minus v m)) (times c (one d) (minus v (minus v m))) t
    (some_from 4096 (λ y. one d y && (minus v (minus v m) == (c * y) % 4096)) d h
    (and_both (one d d) (minus v (minus v m) == (c * d) % 4096) (eq-eqb d d refl) (eq-eqb (minus v (minus v m)) ((c * d) % 4096) (back ∙ e)))))

one_there : (a : Words) (c d m v : ℕ) → d < 4096 → m ≡ (c * d) % 4096 → v < 4096 → some_below 4096 (λ x. a x && times c (one d) (minus v x)) ≡ true → a (minus v m) ≡ true
one_there a c d m v h e l t =
    let s : IsSome 4096 (λ x. a x && times c (one d) (minus v x)) = some_to 4096 (λ x. a x && times c (one d) (minus v x)) t in
    let has : a s.at ≡ true = and_first (a s.at) (times c (one d) (minus v s.at)) s.holds in
    let u : IsSome 4096 (λ y. one d y && (minus v s.at == (c * y) % 4096)) = some_to 4096 (λ y. one d y && (minus v s.at == (c * y) % 4096)) (and_second (a s.at) (times c (one d) (minus v s.at)) s.holds) in
    let is_d : u.at ≡ d = eqb-true u.at d (and_first (one d u.at) (minus v s.at == (c * u.at) % 4096) u.holds) in
    let apart : minus v s.at ≡ (c * u.at) % 4096 = eqb-true (minus v s.at) ((c * u.at) % 4096) (and_second (one d u.at) (minus v s.at == (c * u.at) % 4096) u.holds) in
    let is_m : minus v s.at ≡ m = apart ∙ ap (λ y. (c * y) % 4096) is_d ∙ sym e in
    let low : s.at < 4096 = s.small in
    let small : m < 4096 = omega (arith, e) in
    let back : minus v m ≡ s.at = omega (arith, is_m) in
    ap a back ∙ has

-- All of them are more by the multiple.
pub moved_all : (a : Words) (c d m : ℕ) → d < 4096 → m ≡ (c * d) % 4096 → shifted a m ≡ sums a (times c (one d))
moved_all a c d m h e = fun_ext (λ v. elim (cases_lt v 4096) [
  | inl l ↦ ap (λ p. nat_lt v 4096 && p) (both_ways (a (minus v m)) (some_below 4096 (λ x. a x && times c (one d) (minus v x))) (one_back a c d m v h e l) (one_there a c d m v h e l))
  | inr g ↦ closed_past (λ w. a (minus w m)) v g ∙ sym (closed_past (λ w. some_below 4096 (λ x. a x && times c (one d) (minus w x))) v g)
])

pub lone_moved : (a : Words) (w m r : ℕ) → IsOnly a w → m < 4096 → r ≡ (w + m) % 4096 → one r ≡ shifted a m
lone_moved a w m r is low e = fun_ext (λ v. elim (cases_lt v 4096) [
  | inl l ↦ both_ways (one r v) (a (minus v m))
      (λ t. let v_is : v ≡ r = eqb-true v r t in let w_low : w < 4096 = is.small in let back : minus v m ≡ w = omega (arith, e) in ap a back ∙ is.within)
      (λ t. let w_low : w < 4096 = is.small in let u_low : minus v m < 4096 = omega arith in let back : minus v m ≡ w = is.lone (minus v m) u_low t in eq-eqb v r (omega (arith, e, back)))
      ∙ sym (closed_at (λ u. a (minus u m)) v l)
  | inr g ↦ (let r_low : r < 4096 = omega (arith, e) in past v r (λ q. omega (arith, q))) ∙ sym (closed_past (λ u. a (minus u m)) v g)
])
  where
    past : (v r : ℕ) → (v ≡ r → ⊥) → (v == r) ≡ false
    past v r n = ne_eqb v r n

-- One word is more by the multiple.
pub moved_one : (a : Words) (c d w m r : ℕ) → d < 4096 → only a ≡ Some w → m ≡ (c * d) % 4096 → r ≡ (w + m) % 4096 → one r ≡ sums a (times c (one d))
moved_one a c d w m r h is e f =
    let low : m < 4096 = omega (arith, e) in
    lone_moved a w m r (only_word a w is) low f ∙ moved_all a c d m h e

-- One word's complement.
pub lone_mirrored : (a : Words) (w r : ℕ) → IsOnly a w → r ≡ 4095 - w → one r ≡ mirrored a
lone_mirrored a w r is e = fun_ext (λ v. elim (cases_lt v 4096) [
  | inl l ↦ both_ways (one r v) (a (4095 - v))
      (λ t. let v_is : v ≡ r = eqb-true v r t in let w_low : w < 4096 = is.small in let back : 4095 - v ≡ w = omega (arith, e, v_is) in ap a back ∙ is.within)
      (λ t. let w_low : w < 4096 = is.small in let u_low : 4095 - v < 4096 = omega arith in let back : 4095 - v ≡ w = is.lone (4095 - v) u_low t in eq-eqb v r (omega (arith, e, back)))
      ∙ sym (closed_at (λ u. a (4095 - u)) v l)
  | inr g ↦ (let r_low : r < 4096 = omega (arith, e) in ne_eqb v r (λ q. omega (arith, q))) ∙ sym (closed_past (λ u. a (4095 - u)) v g)
])

use Rattle.std.proofs.Common.{ap, ◌∙◌, nat_lt, ◌<◌, ◌≤◌, ◌+◌, ◌*◌, ◌≢◌, ℕ, length, arith, lit<, inl, inr, get_or-set_other, get_or-set_same, w64, below_more, get_or, replicate, ◌≡◌, ◌==◌, ◌⊎◌}
use Rattle.std.specs.Int.{bit_at, bit_not}
use Rattle.std.proofs.lemmas.List.{get_or-replicate, get_or_past}
use Rattle.std.proofs.lemmas.Nat.{and_le_l}
use Rattle.std.proofs.lemmas.Bool.{cases_lt}
use Rattle.wordset.specs.Words.{between}
use Rattle.wordset.proofs.WordSet.short_range.Goals as goal
use Rattle.wordset.proofs.LaneBits.{filled, AreLanes-set}
use Rattle.wordset.proofs.SetLemmas.{words_are}
use Rattle.wordset.proofs.RangeLemmas.{lane_between, lane_outside, words_of_lanes, range_past}

none : (k : ℕ) → get_or {A = ℕ} (replicate 64 0) k 0 ≡ 0
none k = elim (cases_lt k 64) [
  | inl l ↦ get_or-replicate 64 k 0 0 l
  | inr g ↦ get_or_past (replicate 64 0) k 0 g
]

pub loop-i-init : goal.loop-i-init
loop-i-init c = record {
  are = filled 0 (lit< tt);
  done = λ k h j g. lane_outside c.args.low c.args.high (64 * k + j) (get_or {A = ℕ} (replicate 64 0) k 0) j (none k) (inl (omega (arith, c.index-i.ensures.same)));
  rest = λ k h. none k;
}

pub loop-i-preserved : goal.loop-i-preserved
loop-i-preserved c = record {
  are = AreLanes-set c.loop-i.lanes c.loop-i.i _ (omega (arith, c.loop-i-test.true, c.index.ensures.small)) (omega (arith, and_le_l c.lane_below.result (bit_not w64 c.lane_below-in-loop-i.result), c.lane_below.type_inv)) c.loop-i.invariant.are;
  done = below_more _ _
      (λ k h j g. let ne : k ≢ c.loop-i.i = omega arith in rw get_or-set_other (c.loop-i.invariant.done k h j g))
      (λ j g. let lt : c.loop-i.i < length c.loop-i.lanes = omega (arith, c.loop-i.invariant.are.long, c.loop-i-test.true, c.index.ensures.small) in
      rw get_or-set_same (lane_between c.args.low c.args.high (64 * c.loop-i.i + j) c.lane_below.result c.lane_below-in-loop-i.result j c.lane_below-in-loop-i.type_inv g (c.lane_below.ensures j g ∙ ap (λ n. nat_lt (64 * c.loop-i.i + j) (n + 1)) c.index-end.ensures.same) (c.lane_below-in-loop-i.ensures j g ∙ ap (nat_lt (64 * c.loop-i.i + j)) c.index-in-loop-i.ensures.same)));
  rest = λ k h. let ne : k ≢ c.loop-i.i = omega arith in rw get_or-set_other (c.loop-i.invariant.rest k (omega arith));
}

pub invariant_of-result : goal.invariant_of-result
invariant_of-result c = c.loop-i.invariant.are

pub returns : goal.returns
returns c = words_are c.loop-i.lanes (between c.args.low c.args.high)
    (λ v g. range_past c.args.low c.args.high v (omega (arith, c.index.ensures.same, c.index.ensures.small)) g)
    (words_of_lanes c.loop-i.lanes c.args.low c.args.high (λ i j h g. all i j h g (cases_lt i c.loop-i.i)))
  where
    all : (i j : ℕ) → i < 64 → j < 64 → (i < c.loop-i.i) ⊎ (c.loop-i.i ≤ i) → (bit_at (get_or c.loop-i.lanes i 0) j == 1) ≡ between c.args.low c.args.high (64 * i + j)
    all i j h g (inl l) = c.loop-i.invariant.done i l j g
    all i j h g (inr m) = lane_outside c.args.low c.args.high (64 * i + j) (get_or c.loop-i.lanes i 0) j (c.loop-i.invariant.rest i m) (inr (omega (arith, c.index.ensures.same)))

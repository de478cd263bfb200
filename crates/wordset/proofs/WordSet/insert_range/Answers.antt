use Rattle.std.proofs.Common.{ap, ◌∙◌, nat_lt, ◌<◌, ◌≤◌, ◌+◌, ◌*◌, ◌≢◌, ◌||◌, ℕ, length, arith, inl, inr, get_or-set_other, get_or-set_same, w64, below_more, refl, get_or, ◌≡◌, ◌==◌, ◌⊎◌}
use Rattle.std.specs.Prelude.{bit_and}
use Rattle.std.specs.Int.{bit_at, bit_not}
use Rattle.std.proofs.lemmas.Nat.{and_le_l, or_lt}
use Rattle.std.proofs.lemmas.Bool.{cases_lt}
use Rattle.wordset.specs.Words.{union, between}
use Rattle.wordset.specs.Lanes.{words}
use Rattle.wordset.proofs.WordSet.insert_range.Goals as goal
use Rattle.wordset.proofs.LaneBits.{AreLanes-set, or_bit}
use Rattle.wordset.proofs.SetLemmas.{words_are}
use Rattle.wordset.proofs.RangeLemmas.{lane_between, lane_beside, words_of_bits, union_past}

pub loop-i-init : goal.loop-i-init
loop-i-init c = record {
  are = c.self.invariant;
  done = λ k h j g. lane_beside c.args.low c.args.high (64 * k + j) _ (inl (omega (arith, c.index-i.ensures.same)));
  rest = λ k h. refl;
}

pub loop-i-preserved : goal.loop-i-preserved
loop-i-preserved c =
    let small : c.loop-i.i < 64 = omega (arith, c.loop-i-test.true, c.index.ensures.small) in
    record {
      are = AreLanes-set c.loop-i.self-inside.lanes c.loop-i.i _ small
          (or_lt 64 _ _ (c.loop-i.invariant.are.fit c.loop-i.i) (omega (arith, and_le_l c.lane_below.result (bit_not w64 c.lane_below-in-loop-i.result), c.lane_below.type_inv))) c.loop-i.invariant.are;
      done = below_more _ _
          (λ k h j g. let ne : k ≢ c.loop-i.i = omega arith in rw get_or-set_other (c.loop-i.invariant.done k h j g))
          (λ j g. let lt : c.loop-i.i < length c.loop-i.self-inside.lanes = omega (arith, c.loop-i.invariant.are.long, small) in
          rw get_or-set_same
          (or_bit (get_or c.loop-i.self-inside.lanes c.loop-i.i 0) (bit_and c.lane_below.result (bit_not w64 c.lane_below-in-loop-i.result)) j
          ∙ ap (λ x. (bit_at x j == 1) || (bit_at (bit_and c.lane_below.result (bit_not w64 c.lane_below-in-loop-i.result)) j == 1)) (c.loop-i.invariant.rest c.loop-i.i (omega arith))
          ∙ ap (λ p. (bit_at (get_or c.self.inside.lanes c.loop-i.i 0) j == 1) || p)
          (lane_between c.args.low c.args.high (64 * c.loop-i.i + j) c.lane_below.result c.lane_below-in-loop-i.result j c.lane_below-in-loop-i.type_inv g (c.lane_below.ensures j g ∙ ap (λ n. nat_lt (64 * c.loop-i.i + j) (n + 1)) c.index-end.ensures.same) (c.lane_below-in-loop-i.ensures j g ∙ ap (nat_lt (64 * c.loop-i.i + j)) c.index-in-loop-i.ensures.same))));
      rest = λ k h. let ne : k ≢ c.loop-i.i = omega arith in rw get_or-set_other (c.loop-i.invariant.rest k (omega arith));
    }

pub invariant_of-self : goal.invariant_of-self
invariant_of-self c = c.loop-i.invariant.are

pub returns : goal.returns
returns c = rw (← c.self.view_is)
    (words_are c.loop-i.self-inside.lanes (union (words c.self.inside.lanes) (between c.args.low c.args.high))
    (union_past c.self.inside.lanes c.args.low c.args.high (omega (arith, c.index.ensures.same, c.index.ensures.small)))
    (words_of_bits c.loop-i.self-inside.lanes c.self.inside.lanes c.args.low c.args.high (λ i j h g. all i j h g (cases_lt i c.loop-i.i))))
  where
    all : (i j : ℕ) → i < 64 → j < 64 → (i < c.loop-i.i) ⊎ (c.loop-i.i ≤ i) → (bit_at (get_or c.loop-i.self-inside.lanes i 0) j == 1) ≡ ((bit_at (get_or c.self.inside.lanes i 0) j == 1) || between c.args.low c.args.high (64 * i + j))
    all i j h g (inl l) = c.loop-i.invariant.done i l j g
    all i j h g (inr m) = ap (λ x. bit_at x j == 1) (c.loop-i.invariant.rest i m) ∙ lane_beside c.args.low c.args.high (64 * i + j) (bit_at (get_or c.self.inside.lanes i 0) j == 1) (inr (omega (arith, c.index.ensures.same)))

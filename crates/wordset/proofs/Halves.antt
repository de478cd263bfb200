-- Bits taken out of all words of a set: the complement of putting them in.
use Rattle.std.proofs.Common.{◌≡◌, ℕ, zero, suc, ◌+◌, ◌-◌, ◌%◌, ◌^◌, ◌<◌, ◌==◌, ◌&&◌, ◌||◌, not, refl, sym, ◌∙◌, ap, arith}
use Rattle.std.specs.Int.{bit_at}
use Rattle.std.proofs.lemmas.Nat.Bits.{bit_at-lt, bit_at_ones}
use Rattle.wordset.specs.Words.{Words, SameWords, plus, minus, or_any, ands, all_words}
use Rattle.wordset.specs.Bits.{has_bit, doubled, halved}
use Rattle.wordset.proofs.Complements.{flipped, turned, ands-complements, ors_all}
use Rattle.wordset.proofs.Parts.{weight_small, any_none, step_with}
use Rattle.wordset.proofs.SetLemmas.{lt_to}

-- the words with some of the low bits taken out
abbrev pub lowered : ℕ → Words → Words
lowered mask a = turned (or_any mask (turned a))

twice_over : (v : ℕ) → v < 4096 → 4095 - (4095 - v) ≡ v
twice_over v h = omega arith

pub lowered_none : (a : Words) (v : ℕ) → v < 4096 → a v ≡ lowered (4095 % 2 ^ 0) a v
lowered_none a v h = ap a (sym (twice_over v h)) ∙ any_none 4095 (turned a) (4095 - v) (omega arith)

not_bit : (b : ℕ) → b < 2 → (b == 1) ≡ not ((1 - b) == 1)
not_bit zero h = refl
not_bit (suc zero) h = refl
not_bit (suc (suc b)) h = absurd (omega arith)

-- a bit taken out of the complements is a bit put in
pub halved-mirrored : (at : ℕ) (found o : Words) (v : ℕ) → at < 12 → v < 4096 → SameWords found (turned o) → halved at found v ≡ doubled at o (4095 - v)
halved-mirrored at found o v small h same =
    ap (λ p. p || (found (plus v (2 ^ at)) && has_bit at (plus v (2 ^ at)))) (same v h)
    ∙ ap (λ p. o (4095 - v) || (p && has_bit at (plus v (2 ^ at)))) (same (plus v (2 ^ at)) below ∙ ap o place)
    ∙ ap (λ p. o (4095 - v) || (o (minus (4095 - v) (2 ^ at)) && p)) bits
  where
    weight : 2 ^ at < 4096
    weight = weight_small at small

    below : plus v (2 ^ at) < 4096
    below = omega arith

    place : 4095 - plus v (2 ^ at) ≡ minus (4095 - v) (2 ^ at)
    place = moved v (2 ^ at) h weight
      where
        moved : (v w : ℕ) → v < 4096 → w < 4096 → 4095 - plus v w ≡ minus (4095 - v) w
        moved v w h g = omega arith

    bits : has_bit at (plus v (2 ^ at)) ≡ not (has_bit at (minus (4095 - v) (2 ^ at)))
    bits = not_bit (bit_at (plus v (2 ^ at)) at) (bit_at-lt (plus v (2 ^ at)) at) ∙ ap (λ b. not (b == 1)) (sym (flipped 12 (plus v (2 ^ at)) at below small) ∙ ap (λ n. bit_at n at) place)

pub lowered_step : (at : ℕ) (found a : Words) (v : ℕ) → at < 12 → v < 4096 → SameWords found (lowered (4095 % 2 ^ at) a) → halved at found v ≡ lowered (4095 % 2 ^ (at + 1)) a v
lowered_step at found a v small h same =
    halved-mirrored at found (or_any (4095 % 2 ^ at) (turned a)) v small h same ∙ step_with 4095 at (turned a) (4095 - v) (omega arith) small (bit_at_ones 12 at small)

pub lowered_all : (a : Words) (at v : ℕ) → at ≡ 12 → v < 4096 → lowered (4095 % 2 ^ at) a v ≡ ands a all_words v
lowered_all a at v e h =
    ap (λ n. lowered (4095 % 2 ^ n) a v) e ∙ ap (λ s. s (4095 - v)) (ors_all (turned a))
    ∙ ands-complements a all_words (turned a) all_words (λ u g. refl) (λ u g. lt_to u g ∙ sym (lt_to (4095 - u) (omega arith))) v h

-- the shift by the weight's negative takes the weight away
pub down_place : (w v k n : ℕ) → w < 4096 → v < 4096 → k ≡ 4095 - w → n ≡ (k + 1) % 4096 → minus v n ≡ plus v w
down_place w v k n h small e f = omega arith

pub halved-steps : (a b whole : Words) (at v u : ℕ) → u ≡ plus v (2 ^ at) → (b u ≡ (a u && has_bit at u)) → whole v ≡ (a v || b u) → whole v ≡ halved at a v
halved-steps a b whole at v u e meets joins = joins ∙ ap (λ p. a v || p) meets ∙ ap (λ n. a v || (a n && has_bit at n)) e

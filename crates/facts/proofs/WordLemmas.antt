-- Words, and what operate words make of them.
use Rattle.std.proofs.Common.{◌≡◌, ℕ, ◌+◌, ◌-◌, ◌*◌, ◌/◌, ◌%◌, ◌<◌, ◌==◌, Bool, true, false, ◌&&◌, ◌||◌, ◌⊎◌, refl, ◌∙◌, inl, inr, arith, lit<}
use Rattle.std.specs.Prelude.{if◌then◌else◌, bit_and, bit_or}
use Rattle.std.proofs.lemmas.Bool.{and_from, cases_eq, cond_both, eq-eqb, lt-ltb, true≢false}
use Rattle.std.proofs.lemmas.Nat.{and_le_l, or_lt, and_mask}
use Rattle.instruct.specs.Bits.{has_bit}
use Rattle.instruct.specs.Operates.{cleared, complemented, counted, left, right, exchanged, rotated, operate1_of, operate2_of, MqOperate, Mql, Mqa, Swp, Cam, ClaMqa, ClaSwp, mq_operate}
use Rattle.wordset.specs.Words.{plus, minus, Words, some_below, all_words, has_some, shifted, carries, toggled, ands, ors, or_any, images_at, images}
use Rattle.processor.specs.Machine.{next_pc}
use Rattle.domain.proofs.Numbers.{plus_lt}
use Rattle.transfer.specs.Additions.{sums_carrying}
use Rattle.transfer.specs.Operations.{ac_after, link_after, moves_bits}
pub use Rattle.wordset.proofs.Tests.{both_ways, or_left, or_right, some_from}

pub minus_lt : (a k : ℕ) → minus a k < 4096
minus_lt a k = omega arith

pub if_below : (b : Bool) (x y n : ℕ) → x < n → y < n → (if b then x else y) < n
if_below true x y n h g = h
if_below false x y n h g = g

pub bit_one : (l : ℕ) → l < 2 → (l ≡ 0 → ⊥) → 1 ≡ l
bit_one l h n = omega arith

-- a term with the coefficient 1
pub once : (a r : ℕ) → plus (1 * a) r ≡ plus a r
once a r = omega arith

pub next_word : (pc : ℕ) (b : Bool) → next_pc pc b < 4096
next_word pc true = plus_lt pc 2
next_word pc false = plus_lt pc 1

-- a word that is k more than one of a set
pub shift_true : (s : Words) (k v : ℕ) → v < 4096 → s (minus v k) ≡ true → shifted s k v ≡ true
shift_true s k v h e = and_from _ _ (lt-ltb v 4096 h) e

pub has_all : has_some all_words ≡ true
has_all = some_from 4096 all_words 0 (lit< tt) refl

-- carries, and the links after them
pub carry_number : (x y : ℕ) → x < 4096 → y < 4096 → ((x + y) / 4096 ≡ 0) ⊎ ((x + y) / 4096 ≡ 1)
carry_number x y hx hy = elim (cases_eq ((x + y) / 4096) 0) [ inl e ↦ inl e | inr n ↦ inr (omega arith) ]

carry_true : (a b : Words) (x y k : ℕ) → x < 4096 → y < 4096 → a x ≡ true → b y ≡ true → (x + y) / 4096 ≡ k → carries a b k ≡ true
carry_true a b x y k hx hy p q e =
    some_from 4096 (λ n. a n && some_below 4096 (λ m. b m && ((n + m) / 4096 == k))) x hx
    (and_from _ _ p (some_from 4096 (λ m. b m && ((x + m) / 4096 == k)) y hy (and_from _ _ q (eq-eqb ((x + y) / 4096) k e))))

pub toggle_true : (links a b : Words) (l x y : ℕ) → l < 2 → x < 4096 → y < 4096 → links l ≡ true → a x ≡ true → b y ≡ true → toggled links (carries a b) ((l + (x + y) / 4096) % 2) ≡ true
toggle_true links a b l x y hl hx hy hk p q = and_from _ _ (lt-ltb ((l + (x + y) / 4096) % 2) 2 (omega arith)) (elim (carry_number x y hx hy) [
  | inl e ↦
      (let same_link : (l + (x + y) / 4096) % 2 ≡ l = omega arith in
      rw same_link (or_left _ _ (and_from _ _ (carry_true a b x y 0 hx hy p q e) hk)))
  | inr e ↦
      (let back : 1 - (l + (x + y) / 4096) % 2 ≡ l = omega arith in
      or_right _ _ (and_from _ _ (carry_true a b x y 1 hx hy p q e) (rw back hk)))
])

pub carrying_true : (k : ℕ) (a b : Words) (x y v : ℕ) → x < 4096 → y < 4096 → a x ≡ true → b y ≡ true → v < 4096 → x + y ≡ v + k * 4096 → sums_carrying k a b v ≡ true
carrying_true k a b x y v hx hy p q h e =
    and_from _ _ (lt-ltb v 4096 h)
    (some_from 4096 (λ n. a n && some_below 4096 (λ m. b m && (n + m == v + k * 4096))) x hx
    (and_from _ _ p (some_from 4096 (λ m. b m && (x + m == v + k * 4096)) y hy (and_from _ _ q (eq-eqb (x + y) (v + k * 4096) e)))))

pub image_true : (g : ℕ → ℕ → ℕ) (a links : Words) (x l : ℕ) → x < 4096 → l < 2 → a x ≡ true → links l ≡ true → images g a links (g x l) ≡ true
image_true g a links x l h b p q =
    some_from 2 (λ k. links k && images_at (λ n. g n k) a (g x l)) l b
    (and_from _ _ q
    (some_from 4096 (λ n. a n && (g x l == g n l)) x h (and_from _ _ p (eq-eqb (g x l) (g x l) refl))))

pub and_word : (a b : ℕ) → a < 4096 → bit_and a b < 4096
and_word a b h = omega (arith, and_le_l a b)

pub or_word : (a b : ℕ) → a < 4096 → b < 4096 → bit_or a b < 4096
or_word a b h g = or_lt 12 a b h g

-- the pair of an accumulator and a link
pub record IsPair (s : ℕ × ℕ) : Type 0 where
  pub word : s.0 < 4096
  pub bit : s.1 < 2

cleared_pair : (w : ℕ) (s : ℕ × ℕ) → IsPair s → IsPair (cleared w s)
cleared_pair w s h = record { word = if_below (has_bit 7 w) _ _ _ (lit< tt) h.word; bit = if_below (has_bit 6 w) _ _ _ (lit< tt) h.bit }

complemented_pair : (w : ℕ) (s : ℕ × ℕ) → IsPair s → IsPair (complemented w s)
complemented_pair w s h = record { word = if_below (has_bit 5 w) (4095 - s.0) s.0 4096 (omega arith) h.word; bit = if_below (has_bit 4 w) (1 - s.1) s.1 2 (omega arith) h.bit }

counted_pair : (w : ℕ) (s : ℕ × ℕ) → IsPair s → IsPair (counted w s)
counted_pair w s h = cond_both (has_bit 0 w) ((s.0 + 1) % 4096, (if s.0 == 4095 then 1 - s.1 else s.1)) s IsPair
    (λ e. record { word = omega arith; bit = if_below (s.0 == 4095) (1 - s.1) s.1 2 (omega arith) h.bit }) (λ e. h)

left_pair : (s : ℕ × ℕ) → IsPair s → IsPair (left s)
left_pair s h =
    let a : s.0 < 4096 = h.word in
    let l : s.1 < 2 = h.bit in
    record { word = omega arith; bit = omega arith }

right_pair : (s : ℕ × ℕ) → IsPair s → IsPair (right s)
right_pair s h =
    let a : s.0 < 4096 = h.word in
    let l : s.1 < 2 = h.bit in
    record { word = omega arith; bit = omega arith }

exchanged_word : (a : ℕ) → a < 4096 → exchanged a < 4096
exchanged_word a h = omega arith

rotated_pair : (w : ℕ) (s : ℕ × ℕ) → IsPair s → IsPair (rotated w s)
rotated_pair w s h = cond_both (has_bit 3 w) (if has_bit 1 w then right (right s) else right s) _ IsPair
    (λ e. cond_both (has_bit 1 w) (right (right s)) (right s) IsPair (λ d. right_pair (right s) (right_pair s h)) (λ d. right_pair s h))
    (λ e. cond_both (has_bit 2 w) (if has_bit 1 w then left (left s) else left s) (if has_bit 1 w then (exchanged s.0, s.1) else s) IsPair
    (λ d. cond_both (has_bit 1 w) (left (left s)) (left s) IsPair (λ b. left_pair (left s) (left_pair s h)) (λ b. left_pair s h))
    (λ d. cond_both (has_bit 1 w) (exchanged s.0, s.1) s IsPair (λ b. record { word = exchanged_word s.0 h.word; bit = h.bit }) (λ b. h)))

operate1_pair : (w : ℕ) (s : ℕ × ℕ) → IsPair s → IsPair (operate1_of w s)
operate1_pair w s h =
    rotated_pair w (counted w (complemented w (cleared w s)))
    (counted_pair w (complemented w (cleared w s)) (complemented_pair w (cleared w s) (cleared_pair w s h)))

pub ac_after_word : (w a l : ℕ) → a < 4096 → l < 2 → ac_after w a l < 4096
unfolding ac_after
ac_after_word w a l h g = (operate1_pair w (a, l) (record { word = h; bit = g })).word

pub link_after_bit : (w a l : ℕ) → a < 4096 → l < 2 → link_after w a l < 2
unfolding link_after
link_after_bit w a l h g = (operate1_pair w (a, l) (record { word = h; bit = g })).bit

-- without CLA, a rotation and BSW the accumulator is complemented by CMA, and then counted up by IAC
pub ac_plain : (w a l : ℕ) → has_bit 7 w ≡ false → moves_bits w ≡ false →
    ac_after w a l ≡ (let x : ℕ = if has_bit 5 w then 4095 - a else a in if has_bit 0 w then plus x 1 else x)
unfolding ac_after
ac_plain w a l = go (has_bit 7 w) (has_bit 5 w) (has_bit 3 w) (has_bit 2 w) (has_bit 1 w) (has_bit 0 w) (if has_bit 6 w then 0 else l) (has_bit 4 w)
  where
    go : (p q r t u v : Bool) (k : ℕ) (x : Bool) → p ≡ false → (r || (t || u)) ≡ false →
        (let s : ℕ × ℕ = ((if q then 4095 - (if p then 0 else a) else (if p then 0 else a)), (if x then 1 - k else k)) in
        let c : ℕ × ℕ = if v then ((s.0 + 1) % 4096, (if s.0 == 4095 then 1 - s.1 else s.1)) else s in
        let d : ℕ × ℕ = (if r then (if u then right (right c) else right c)
        else (if t then (if u then left (left c) else left c) else (if u then (exchanged c.0, c.1) else c))) in
        d.0) ≡ (let y : ℕ = if q then 4095 - a else a in if v then plus y 1 else y)
    go false true false false false true k x e f = refl
    go false true false false false false k x e f = refl
    go false false false false false true k x e f = refl
    go false false false false false false k x e f = refl
    go true q r t u v k x e f = absurd (true≢false e)
    go false q true t u v k x e f = absurd (true≢false f)
    go false q false true u v k x e f = absurd (true≢false f)
    go false q false false true v k x e f = absurd (true≢false f)

pub operate2_word : (w a v : ℕ) → a < 4096 → v < 4096 → operate2_of w a v < 4096
operate2_word w a v h g =
    let clear : (if has_bit 7 w then 0 else a) < 4096 = if_below (has_bit 7 w) 0 a 4096 (lit< tt) h in
    if_below (has_bit 2 w) _ _ _ (or_word _ v clear g) clear

-- the accumulator and MQ after a word of group 3
pub mq_words : (o : MqOperate) (a m : ℕ) → a < 4096 → m < 4096 → ((mq_operate o (a, m)).0 < 4096) × ((mq_operate o (a, m)).1 < 4096)
mq_words Mql a m h g = ((let z : 0 < 4096 = omega arith in z), h)
mq_words Mqa a m h g = (or_word a m h g, g)
mq_words Swp a m h g = (g, h)
mq_words Cam a m h g = ((let z : 0 < 4096 = omega arith in z), (let z : 0 < 4096 = omega arith in z))
mq_words ClaMqa a m h g = (g, g)
mq_words ClaSwp a m h g = (g, (let z : 0 < 4096 = omega arith in z))

pub ands_true : (a b : Words) (x y : ℕ) → x < 4096 → y < 4096 → a x ≡ true → b y ≡ true → ands a b (bit_and x y) ≡ true
ands_true a b x y hx hy p q =
    some_from 4096 (λ n. a n && some_below 4096 (λ m. b m && (bit_and n m == bit_and x y))) x hx
    (and_from _ _ p (some_from 4096 (λ m. b m && (bit_and x m == bit_and x y)) y hy (and_from _ _ q (eq-eqb (bit_and x y) (bit_and x y) refl))))

pub ors_true : (a b : Words) (x y : ℕ) → x < 4096 → y < 4096 → a x ≡ true → b y ≡ true → ors a b (bit_or x y) ≡ true
ors_true a b x y hx hy p q =
    some_from 4096 (λ n. a n && some_below 4096 (λ m. b m && (bit_or n m == bit_or x y))) x hx
    (and_from _ _ p (some_from 4096 (λ m. b m && (bit_or x m == bit_or x y)) y hy (and_from _ _ q (eq-eqb (bit_or x y) (bit_or x y) refl))))

or_true : (mask : ℕ) (a : Words) (x m : ℕ) → x < 4096 → m < 4096 → bit_and m mask ≡ m → a x ≡ true → or_any mask a (bit_or x m) ≡ true
or_true mask a x m hx hm part p =
    some_from 4096 (λ n. a n && some_below 4096 (λ k. (bit_and k mask == k) && (bit_or n k == bit_or x m))) x hx
    (and_from _ _ p (some_from 4096 (λ k. (bit_and k mask == k) && (bit_or x k == bit_or x m)) m hm (and_from _ _ (eq-eqb _ _ part) (eq-eqb (bit_or x m) (bit_or x m) refl))))

pub or_byte_true : (a : Words) (x m : ℕ) → x < 4096 → m < 256 → a x ≡ true → or_any 255 a (bit_or x m) ≡ true
or_byte_true a x m hx hm p =
    let small : m < 4096 = omega arith in
    let part : bit_and m 255 ≡ m = and_mask m 8 ∙ omega arith in
    or_true 255 a x m hx small part p

pub or_word_true : (a : Words) (x m : ℕ) → x < 4096 → m < 4096 → a x ≡ true → or_any 4095 a (bit_or x m) ≡ true
or_word_true a x m hx hm p =
    let part : bit_and m 4095 ≡ m = and_mask m 12 ∙ omega arith in
    or_true 4095 a x m hx hm part p

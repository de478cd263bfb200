-- Sets of words as tests on numbers, and the mathematical image of each call. Words are the numbers below 4096. If
-- their arguments and f yield only words, no set here has a larger number; so two sets with the same words are equal.
use Rattle.std.specs.Prelude.{◌≡◌, ℕ, ◌+◌, ◌-◌, ◌/◌, ◌%◌, ◌<◌, ◌≤◌, ◌==◌, nat_le, nat_lt, Bool, true, false, not, ◌&&◌, ◌||◌, if◌then◌else◌, Option, Some, None, bit_and, bit_or}
use Rattle.std.proofs.Common.{zero, suc}

-- The sum of two words modulo 4096.
abbrev pub plus : ℕ → ℕ → ℕ
plus a b = (a + b) % 4096

-- The difference a - b of two words modulo 4096, which is a word even if b is greater than a.
abbrev pub minus : ℕ → ℕ → ℕ
minus a b = (a + (4096 - b % 4096)) % 4096

-- A set of words, or of links or offsets, is a test.
abbrev pub Words : Type 0
Words = ℕ → Bool

-- The two sets have the same words; larger numbers do not matter.
abbrev pub SameWords : Words → Words → Type 0
SameWords a b = (v : ℕ) → v < 4096 → a v ≡ b v

-- Each word of the first set is in the second; larger numbers do not matter.
abbrev pub IsWithin : Words → Words → Type 0
IsWithin a b = (v : ℕ) → v < 4096 → a v ≡ true → b v ≡ true

-- Each link of the first set, 0 or 1, is in the second; larger numbers do not matter.
abbrev pub IsLinkWithin : Words → Words → Type 0
IsLinkWithin a b = (k : ℕ) → k < 2 → a k ≡ true → b k ≡ true

-- Is there a number below n that passes the test?
unfoldable pub some_below : ℕ → (ℕ → Bool) → Bool
some_below zero test = false
some_below (suc n) test = test n || some_below n test

-- How many numbers below n pass the test?
unfoldable pub how_many : ℕ → (ℕ → Bool) → ℕ
how_many zero test = 0
how_many (suc n) test = (if test n then 1 else 0) + how_many n test

-- The least number below n that passes the test.
unfoldable pub first_below : ℕ → (ℕ → Bool) → Option ℕ
first_below zero test = None
first_below (suc n) test =
    if some_below n test then first_below n test else (if test n then Some n else None)

-- The set has a word.
abbrev pub has_some : Words → Bool
has_some set = some_below 4096 set

-- The set has a link.
abbrev pub has_link : Words → Bool
has_link set = some_below 2 set

-- The set without any number.
abbrev pub nothing : Words
nothing v = false

-- The set of all words, and of no number from 4096 on.
abbrev pub all_words : Words
all_words v = nat_lt v 4096

-- The set of both links, 0 and 1.
abbrev pub all_links : Words
all_links k = nat_lt k 2

-- The set of one word.
abbrev pub one : ℕ → Words
one a v = v == a

-- The words from one to another, both included.
abbrev pub between : ℕ → ℕ → Words
between low high v = nat_le low v && nat_le v high

-- The set with one more word.
abbrev pub with_word : ℕ → Words → Words
with_word w a v = a v || v == w

-- The set without one of its words.
abbrev pub without : ℕ → Words → Words
without w a v = if v == w then false else a v

-- The words that are in either of the two sets.
abbrev pub union : Words → Words → Words
union a b v = a v || b v

-- The words that are in both sets.
abbrev pub meet : Words → Words → Words
meet a b v = a v && b v

-- The words that are in the first set and not in the second.
abbrev pub difference : Words → Words → Words
difference a b v = a v && not (b v)

-- This word of a set, if there is one and the set has no other; otherwise none.
abbrev pub only_of : Words → Option ℕ → Option ℕ
only_of set None = None
only_of set (Some k) = if some_below 4096 (without k set) then None else Some k

-- The only word of a set; none if the set has no word, or more than one.
unfoldable pub only : Words → Option ℕ
only set = only_of set (first_below 4096 set)

-- All a + k, modulo 4096, for a in the set: the words v for which v - k is in the set.
abbrev pub shifted : Words → ℕ → Words
shifted set k v = nat_lt v 4096 && set (minus v k)

-- All a + k, modulo 4096, for a in the set and k below n.
abbrev pub smeared : Words → ℕ → Words
smeared set n v = nat_lt v 4096 && some_below n (λ k. set (minus v k))

-- The complements 4095 - a of the words of the set.
abbrev pub mirrored : Words → Words
mirrored set v = nat_lt v 4096 && set (4095 - v)

-- The words that are sums a + b, modulo 4096, of a word a of the first set and a word b of the
-- second.
abbrev pub sums : Words → Words → Words
sums a b v = nat_lt v 4096 && some_below 4096 (λ x. a x && b (minus v x))

-- The carries of all a + b: 1 is among them if one of these sums is 4096 or more, and 0 if one is
-- less.
abbrev pub carries : Words → Words → Words
carries a b k = some_below 4096 (λ x. a x && some_below 4096 (λ y. b y && ((x + y) / 4096 == k)))

-- The links after such a sum: a carry complements the link, and without a carry it stays.
abbrev pub toggled : Words → Words → Words
toggled links carried k = nat_lt k 2 && ((carried 0 && links k) || (carried 1 && links (1 - k)))

-- All a and b, bit by bit.
abbrev pub ands : Words → Words → Words
ands a b v = some_below 4096 (λ x. a x && some_below 4096 (λ y. b y && (bit_and x y == v)))

-- All a or b, bit by bit.
abbrev pub ors : Words → Words → Words
ors a b v = some_below 4096 (λ x. a x && some_below 4096 (λ y. b y && (bit_or x y == v)))

-- All a or m for the parts m of the mask, that is, for the words that have only bits of the mask.
abbrev pub or_any : ℕ → Words → Words
or_any mask a v = some_below 4096 (λ x. a x && some_below 4096 (λ m. (bit_and m mask == m) && (bit_or x m == v)))

-- All f x for a word x of the set.
abbrev pub images_at : (ℕ → ℕ) → Words → Words
images_at f a v = some_below 4096 (λ x. a x && (v == f x))

-- All f x l for a word x and a link l of the sets.
abbrev pub images : (ℕ → ℕ → ℕ) → Words → Words → Words
images f a links v = some_below 2 (λ l. links l && images_at (λ x. f x l) a v)

-- The word is in the set and is the least of those from a number on.
pub record IsFirstFrom (from : ℕ) (set : Words) (w : ℕ) : Type 0 where
  pub small : w < 4096
  pub reached : from ≤ w
  pub within : set w ≡ true
  pub before : (v : ℕ) → from ≤ v → v < w → set v ≡ false

-- The set has no word from a number on.
abbrev pub HasNoneFrom : ℕ → Words → Type 0
HasNoneFrom from set = (v : ℕ) → from ≤ v → v < 4096 → set v ≡ false

-- The word is in the set and is the greatest.
pub record IsGreatest (set : Words) (w : ℕ) : Type 0 where
  pub small : w < 4096
  pub within : set w ≡ true
  pub after : (v : ℕ) → w < v → v < 4096 → set v ≡ false

-- Lines packed, and the runs of their sets.
use Rattle.std.proofs.Common.{◌≡◌, ℕ, ◌+◌, ◌-◌, ◌<◌, ◌≤◌, Bool, true, false, ◌&&◌, ◌||◌, List, [], ◌∷◌, ◌++◌, length, get_or, take, drop, refl, ap, ◌∙◌, sym, subst, arith, append_assoc, length-append}
use Rattle.std.specs.Prelude.{not, nat_le, slice_range}
use Rattle.std.proofs.lemmas.Bool.{true≢false}
use Rattle.std.proofs.Math.Bool.{and-false}
use Rattle.std.proofs.lemmas.Bool.Decides.{nat_tests}
use Rattle.std.proofs.lemmas.List.{take_all, take_at, take_more, drop_at, drop-append-le, take-append-le, length-drop}
use Rattle.wordset.specs.Words.{Words, SameWords, all_words, difference, nothing, between, union}
use Rattle.wordset.specs.Lanes.{words}
use Rattle.wordset.proofs.SetLemmas.{words_are, equal_words, lt_to, all_past}
use Rattle.wordset.proofs.RangeLemmas.{all_between}
use Rattle.certificate_lines.specs.declared.runs.Run.{Run}
use Rattle.certificate_lines.specs.declared.runs.RunCounts.{RunCounts}
use Rattle.certificate_lines.specs.declared.runs.PackedRegisters.{PackedRegisters}
use Rattle.certificate_lines.specs.Runs.{Begins, joined, set_of_runs, added, set_at, one_at, other_at, registers_at, AreWithin, AreLaid}

-- A run more.
pub joined_more : (t : Words) (rs : List Run) (r : Run) → joined t (rs ++ r ∷ []) ≡ union (joined t rs) (between r.first r.last)
joined_more t [] r = refl
joined_more t (x ∷ rs) r = joined_more (union t (between x.first x.last)) rs r

-- The runs up to the one at an index, and that one.
pub run_joined : (set after : Words) (rs : List Run) (i : ℕ) (r : Run) → i < length rs → r ≡ get_or rs i r → set ≡ joined nothing (take i rs) →
    after ≡ union set (between r.first r.last) → after ≡ joined nothing (take (i + 1) rs)
run_joined set after rs i r h at so e =
    rw (take_more rs i r h, joined_more nothing (take i rs) (get_or rs i r), ← at, ← so) e

pub in_between : (low high v : ℕ) → low ≤ v → v ≤ high → between low high v ≡ true
in_between low high v a b = grind (arith, nat_tests)

pub below_between : (low high v : ℕ) → v < low → between low high v ≡ false
below_between low high v a = grind (arith, nat_tests)

pub above_between : (low high v : ℕ) → high < v → between low high v ≡ false
above_between low high v a = let e : nat_le v high ≡ false = grind (arith, nat_tests) in rw e (and-false (nat_le low v))

-- No run.
pub no_run : (v : ℕ) → set_of_runs [] v ≡ false
unfolding set_of_runs
no_run v = and-false (all_words v)

pub or_with : (a b c d : Bool) → a ≡ c → b ≡ d → (a || b) ≡ (c || d)
or_with a b c d e f = ap (λ x. x || b) e ∙ ap (λ x. c || x) f

-- What isn't among the other words is in the set.
pub still_in : (set : Words) (v : ℕ) → v < 4096 → difference all_words set v ≡ false → set v ≡ true
still_in set v h e = go (set v) (all_words v) (grind (arith, nat_tests)) e
  where
    go : (b c : Bool) → c ≡ true → (c && not b) ≡ false → b ≡ true
    go true c k q = refl
    go false c k q = absurd (let z : true ≡ false = rw k at q in true≢false z)

-- No set has a word past the last one that there is.
pub runs_past : (rs : List Run) (v : ℕ) → 4096 ≤ v → set_of_runs rs v ≡ false
unfolding set_of_runs
runs_past rs v h = ap (λ b. b && joined nothing rs v) (all_past v h)

pub runs_within : (rs : List Run) (v : ℕ) → v < 4096 → joined nothing rs v ≡ set_of_runs rs v
unfolding set_of_runs
runs_within rs v h = sym (ap (λ b. b && joined nothing rs v) (lt_to v h))

pub set_is : (lanes : List ℕ) (rs : List Run) → SameWords (words lanes) (joined nothing rs) → words lanes ≡ set_of_runs rs
set_is lanes rs same = words_are lanes (set_of_runs rs) (runs_past rs) (λ v h. same v h ∙ runs_within rs v h)

-- The set of all runs, where it was that of those up to an index past them.
pub all_joined : (lanes : List ℕ) (rs : List Run) (i : ℕ) → length rs ≤ i → words lanes ≡ joined nothing (take i rs) → words lanes ≡ set_of_runs rs
all_joined lanes rs i h e = set_is lanes rs (λ v k. ap (λ (f : Words). f v) (rw (take_all i rs h) at e))

-- What is kept stays so where more runs are added.
pub range_kept : {X : Type 0} (xs more : List X) (first count : ℕ) → first + count ≤ length xs →
    slice_range (xs ++ more) first (first + count) ≡ slice_range xs first (first + count)
range_kept xs more first count k =
    let room : first + count - first ≤ length (drop first xs) = omega (arith, length-drop first xs) in
    ap (take (first + count - first)) (drop-append-le first xs more (omega arith)) ∙ take-append-le (first + count - first) (drop first xs) more room

pub set_kept : (runs more : List Run) (first count : ℕ) → first + count ≤ length runs → set_at (runs ++ more) first count ≡ set_at runs first count
set_kept runs more first count h = ap set_of_runs (range_kept runs more first count h)

pub one_kept : (runs more : List Run) (s : RunCounts) → AreWithin (length runs) s → one_at (runs ++ more) s ≡ one_at runs s
one_kept runs more s h = set_kept runs more 0 s.one (let q = h.inside in omega (arith, q))

pub other_kept : (runs more : List Run) (s : RunCounts) → AreWithin (length runs) s → other_at (runs ++ more) s ≡ other_at runs s
other_kept runs more s h = set_kept runs more s.one s.other h.inside

pub registers_kept : (runs more : List Run) (r : PackedRegisters) → AreWithin (length runs) r.sets → registers_at (runs ++ more) r ≡ registers_at runs r
registers_kept runs more r h = rw (one_kept runs more r.sets h, other_kept runs more r.sets h) refl

-- More runs.
pub longer : (runs new : List Run) → Begins runs new → length runs ≤ length new
longer runs new b = let q : length new ≡ length (runs ++ b.0) = ap length b.1 in omega (arith, length-append runs b.0)

-- The runs at the front, and those from one on.
pub front_of : (xs : List Run) (n : ℕ) → slice_range xs 0 (0 + n) ≡ take n xs
front_of xs n = let k : 0 + n - 0 ≡ n = omega arith in rw k refl

-- The set of one run.
pub one_run : (r : Run) → r.last < 4096 → set_of_runs (r ∷ []) ≡ between r.first r.last
unfolding set_of_runs
one_run r small = equal_words _ _ (runs_past (r ∷ [])) (λ v h. above_between r.first r.last v (omega arith))
    (λ v h. ap (λ b. b && between r.first r.last v) (lt_to v h))

-- The run of all words.
pub all_added : (old new : List Run) (r : Run) → r.first ≡ 0 → r.last ≡ 4095 → new ≡ old ++ r ∷ [] → added old new ≡ all_words
all_added old new r first last e =
    ap set_of_runs (ap (drop (length old)) e ∙ drop_at old (r ∷ []) (length old) refl) ∙ (one_run r (omega arith) ∙
    sym (all_between r.first r.last first last))

-- The runs of two sets that were added one after the other.
pub two_laid : (old mid new : List Run) (n m : ℕ) (one other : Words) → Begins old mid → Begins mid new → length old + n ≡ length mid →
    length mid + m ≡ length new → added old mid ≡ one → added mid new ≡ other → AreLaid (drop (length old) new) (record { one = n; other = m }) one other
two_laid old mid new n m one other a b p q is also = record {
  within = record { inside = omega (arith, length-drop (length old) new) };
  one_is = ap set_of_runs first ∙ is;
  other_is = ap set_of_runs second ∙ also;
}
  where
    count : length a.0 ≡ n
    count = let e : length mid ≡ length old + length a.0 = ap length a.1 ∙ length-append old a.0 in omega arith

    rest : length b.0 ≡ m
    rest = let e : length new ≡ length mid + length b.0 = ap length b.1 ∙ length-append mid b.0 in omega arith

    both : drop (length old) new ≡ a.0 ++ b.0
    both = rw (b.1, a.1) (ap (drop (length old)) (append_assoc old a.0 b.0) ∙ drop_at old (a.0 ++ b.0) (length old) refl)

    first : slice_range (drop (length old) new) 0 (0 + n) ≡ drop (length old) mid
    first = front_of (drop (length old) new) n ∙ (rw (both, ← count) (take_at a.0 b.0 (length a.0) refl) ∙ sym (ap (drop (length old)) a.1 ∙ drop_at old a.0 (length old) refl))

    second : slice_range (drop (length old) new) n (n + m) ≡ drop (length mid) new
    second =
        rw (both, ← count) (ap (take (length a.0 + m - length a.0)) (drop_at a.0 b.0 (length a.0) refl) ∙ take_all (length a.0 + m - length a.0) b.0 (omega (arith, rest))) ∙
        sym (ap (drop (length mid)) b.1 ∙ drop_at mid b.0 (length mid) refl)

-- The same where there were none.
pub from_none : (old mid new : List Run) (n m : ℕ) → old ≡ [] → Begins old mid → Begins mid new → length old + n ≡ length mid → length mid + m ≡ length new →
    AreLaid new (record { one = n; other = m }) (added old mid) (added mid new)
from_none old mid new n m none a b p q =
    subst (λ (rs : List Run). AreLaid rs (record { one = n; other = m }) (added old mid) (added mid new)) (ap (λ (rs : List Run). drop (length rs) new) none)
    (two_laid old mid new n m (added old mid) (added mid new) a b p q refl refl)

-- Lines of all versions that are kept, and are found by their places.
use Rattle.std.proofs.Common.{◌≡◌, ℕ, ◌+◌, ◌<◌, ◌≤◌, ◌==◌, true, false, List, [], ◌∷◌, ◌++◌, length, map, get_or, take, drop, zero, suc, refl, ap, ◌∙◌, sym, inl, inr, arith}
use Rattle.std.specs.Prelude.{nat_le}
use Rattle.std.specs.List.Sorted.{IsNonDecreasingBy}
use Rattle.std.proofs.lemmas.Bool.{cases_Bool}
use Rattle.std.proofs.lemmas.Bool.Decides.{nat_tests}
use Rattle.std.proofs.lemmas.List.{drop_all}
use Rattle.domain.specs.declared.chains.Step.{Step}
use Rattle.certificate_lines.specs.declared.runs.Run.{Run}
use Rattle.certificate_lines.specs.declared.packed.PackedLine.{PackedLine}
use Rattle.certificate_lines.specs.declared.packed.PackedLine.TheVariants as packed
use Rattle.certificate_lines.specs.declared.packed.StoredLine.{StoredLine}
use Rattle.certificate_lines.specs.Runs.{Begins}
use Rattle.certificate_lines.specs.Lines.{Line, is_detail}
use Rattle.certificate_lines.specs.Order.{place_of_head}
use Rattle.certificate_lines.specs.Packed.{said_at, kept_at, IsPacked}
use Rattle.certificate_lines.specs.Found.{from_place, past, AreRising, last_past, ArePast, AreKept, begins_at, least_place}
use Rattle.certificate_lines.proofs.SumPackedLemmas.{all_within, still_within}

-- The place after a line is no matter of its runs and steps.
past_same : (n : ℕ) (runs more : List Run) (steps further : List Step) (l : PackedLine) → past n (said_at runs steps l) ≡ past n (said_at more further l)
past_same n runs more steps further (packed.Routine r) = refl
past_same n runs more steps further (packed.Fact f) = refl
past_same n runs more steps further (packed.Exit e) = refl
past_same n runs more steps further (packed.Cell a c) = refl
past_same n runs more steps further (packed.Sum s c) = refl
past_same n runs more steps further (packed.Chain c) = refl
past_same n runs more steps further packed.End = refl

past_kept : (runs new : List Run) (steps later : List Step) (n : ℕ) (ls : List StoredLine) → ArePast runs steps n ls → ArePast new later n ls
past_kept runs new steps later n [] h = tt
past_kept runs new steps later n (k ∷ ks) h =
    (h.0 ∙ past_same n (drop k.first runs) (drop k.first new) (drop k.first steps) (drop k.first later) k.line, past_kept runs new steps later k.past ks h.1)

past_added : (runs : List Run) (steps : List Step) (ks : List StoredLine) (n : ℕ) (k : StoredLine) → ArePast runs steps n ks → k.past ≡ past (last_past n ks) (kept_at runs steps k) →
    ArePast runs steps n (ks ++ k ∷ [])
past_added runs steps [] n k h e = (e, tt)
past_added runs steps (x ∷ ks) n k h e = (h.0, past_added runs steps ks x.past k h.1 e)

pub past_front : (runs : List Run) (steps : List Step) (ks : List StoredLine) (n i : ℕ) → ArePast runs steps n ks → ArePast runs steps n (take i ks)
past_front runs steps [] n zero h = tt
past_front runs steps [] n (suc i) h = tt
past_front runs steps (k ∷ ks) n zero h = tt
past_front runs steps (k ∷ ks) n (suc i) h = (h.0, past_front runs steps ks k.past i h.1)

pub last_is : (ks : List StoredLine) (n i : ℕ) (d : StoredLine) → length ks ≡ suc i → last_past n ks ≡ (get_or ks i d).past
last_is [] n i d e = absurd (omega arith)
last_is (k ∷ []) n zero d e = refl
last_is (k ∷ []) n (suc i) d e = absurd (omega arith)
last_is (k ∷ x ∷ ks) n zero d e = absurd (omega arith)
last_is (k ∷ x ∷ ks) n (suc i) d e = last_is (x ∷ ks) k.past i d (omega arith)

-- What is kept stays so where more runs and steps are added, and a line more.
pub kept_on : (runs new : List Run) (steps later : List Step) (ls : List StoredLine) → AreKept runs steps ls → Begins runs new → Begins steps later → AreKept new later ls
kept_on runs new steps later ls h b d = record { within = still_within runs new steps later ls h.within b d; past = past_kept runs new steps later 0 ls h.past }

pub kept_added : (runs new : List Run) (steps later : List Step) (ls after : List StoredLine) (k : StoredLine) (line : Line) → AreKept runs steps ls →
    Begins runs new → Begins steps later → IsPacked (drop k.first new) (drop k.first later) k.line line →
    k.past ≡ past (last_past 0 ls) (said_at [] [] k.line) → after ≡ ls ++ k ∷ [] → AreKept new later after
kept_added runs new steps later ls after k line h b d p g e = record {
  within = all_within runs new steps later ls after k line h.within b d p e;
  past = rw e (past_added new later ls 0 k (past_kept runs new steps later 0 ls h.past)
      (g ∙ past_same (last_past 0 ls) [] (drop k.first new) [] (drop k.first later) k.line));
}

-- The places rise.
on : (runs : List Run) (steps : List Step) (k : StoredLine) (ls : List Line) (n : ℕ) → k.past ≡ past n (kept_at runs steps k) → AreRising n (kept_at runs steps k ∷ ls) →
    (n ≤ k.past) × AreRising k.past ls
on runs steps k ls n e h = rw e h

at_least : (runs : List Run) (steps : List Step) (ks : List StoredLine) (n j : ℕ) (d : StoredLine) → ArePast runs steps n ks → AreRising n (map (kept_at runs steps) ks) →
    j < length ks → n ≤ (get_or ks j d).past
at_least runs steps [] n j d a h b = absurd (omega arith)
at_least runs steps (k ∷ ks) n zero d a h b = (on runs steps k (map (kept_at runs steps) ks) n a.0 h).0
at_least runs steps (k ∷ ks) n (suc j) d a h b =
    let o = on runs steps k (map (kept_at runs steps) ks) n a.0 h in
    let x : n ≤ k.past = o.0 in let y : k.past ≤ (get_or ks j d).past = at_least runs steps ks k.past j d a.1 o.1 (omega arith) in omega arith

pub rises : (runs : List Run) (steps : List Step) (ks : List StoredLine) (n : ℕ) → ArePast runs steps n ks → AreRising n (map (kept_at runs steps) ks) →
    IsNonDecreasingBy (λ (k : StoredLine). k.past) ks
rises runs steps [] n a h i j d le b = absurd (omega arith)
rises runs steps (k ∷ ks) n a h zero zero d le b = omega arith
rises runs steps (k ∷ ks) n a h zero (suc j) d le b = at_least runs steps ks k.past j d a.1 (on runs steps k (map (kept_at runs steps) ks) n a.0 h).1 (omega arith)
rises runs steps (k ∷ ks) n a h (suc i) zero d le b = absurd (omega arith)
rises runs steps (k ∷ ks) n a h (suc i) (suc j) d le b =
    rises runs steps ks k.past a.1 (on runs steps k (map (kept_at runs steps) ks) n a.0 h).1 i j d (omega arith) (omega arith)

-- A line that is passed over, and one that is found.
passed : (l : Line) (ls : List Line) (n p : ℕ) → past n l ≤ p → from_place p (l ∷ ls) ≡ from_place p ls
passed l ls n p h = elim (cases_Bool (is_detail l)) [
  | inl d ↦ rw d refl
  | inr d ↦ (let z : place_of_head l + 1 ≤ p = rw d at h in let e : nat_le p (place_of_head l) ≡ false = grind (arith, nat_tests) in rw (d, e) refl)
]

found : (l : Line) (ls : List Line) (n p : ℕ) → n ≤ p → p < past n l → from_place p (l ∷ ls) ≡ l ∷ ls
found l ls n p low h = elim (cases_Bool (is_detail l)) [
  | inl d ↦ absurd (let z : p < n = rw d at h in omega arith)
  | inr d ↦ (let z : p < place_of_head l + 1 = rw d at h in let e : nat_le p (place_of_head l) ≡ true = grind (arith, nat_tests) in rw (d, e) refl)
]

pub search_told : (runs : List Run) (steps : List Step) (ks : List StoredLine) (n p i : ℕ) → ArePast runs steps n ks → n ≤ p → i ≤ length ks →
    ((j : ℕ) (d : StoredLine) → j < i → (get_or ks j d).past ≤ p) → ((d : StoredLine) → i < length ks → p < (get_or ks i d).past) →
    drop i (map (kept_at runs steps) ks) ≡ from_place p (map (kept_at runs steps) ks)
search_told runs steps [] n p i a low few under over = drop_all i [] (omega arith)
search_told runs steps (k ∷ ks) n p zero a low few under over =
    let y : p < k.past = over k (omega arith) in let e : k.past ≡ past n (kept_at runs steps k) = a.0 in
    sym (found (kept_at runs steps k) (map (kept_at runs steps) ks) n p low (omega arith))
search_told runs steps (k ∷ ks) n p (suc i) a low few under over =
    let here : k.past ≤ p = under 0 k (omega arith) in let e : k.past ≡ past n (kept_at runs steps k) = a.0 in
    search_told runs steps ks k.past p i a.1 here (omega arith) (λ j d b. under (suc j) d (omega arith)) (λ d b. over d (omega arith)) ∙
    sym (passed (kept_at runs steps k) (map (kept_at runs steps) ks) n p (omega arith))

-- The place that is kept with a line that is no detail.
past_at : (runs : List Run) (steps : List Step) (ks : List StoredLine) (n i : ℕ) (d : StoredLine) → ArePast runs steps n ks → i < length ks →
    is_detail (kept_at runs steps (get_or ks i d)) ≡ false → (get_or ks i d).past ≡ place_of_head (kept_at runs steps (get_or ks i d)) + 1
past_at runs steps [] n i d a b e = absurd (omega arith)
past_at runs steps (k ∷ ks) n zero d a b e = let p : k.past ≡ past n (kept_at runs steps k) = a.0 in rw e at p
past_at runs steps (k ∷ ks) n (suc i) d a b e = past_at runs steps ks k.past i d a.1 (omega arith) e

pub place_there : (runs : List Run) (steps : List Step) (ks : List StoredLine) (i : ℕ) (k : StoredLine) → AreKept runs steps ks → i < length ks → k ≡ get_or ks i k →
    is_detail (kept_at runs steps k) ≡ false → k.past ≡ place_of_head (kept_at runs steps k) + 1
place_there runs steps ks i k a b is e = rw is (past_at runs steps ks 0 i k a.past b (rw is at e))

-- Whether the line at a place is one of a place.
pub none_at : (ls : List Line) (i p : ℕ) → length ls ≤ i → begins_at p (drop i ls) ≡ false
none_at ls i p h = ap (begins_at p) (drop_all i ls h)

pub detail_at : (ls rest : List Line) (i p : ℕ) (l : Line) → drop i ls ≡ l ∷ rest → is_detail l ≡ true → begins_at p (drop i ls) ≡ false
detail_at ls rest i p l e d = ap (begins_at p) e ∙ rw d refl

pub head_at : (ls rest : List Line) (i p n : ℕ) (l : Line) → drop i ls ≡ l ∷ rest → is_detail l ≡ false → n ≡ place_of_head l + 1 → (n == (p + 1)) ≡ begins_at p (drop i ls)
head_at ls rest i p n l e d f = sym (ap (begins_at p) e ∙ rw d (same (place_of_head l) p n f))
  where
    same : (q p n : ℕ) → n ≡ q + 1 → (q == p) ≡ (n == (p + 1))
    same q p n f = grind (arith, nat_tests)

-- What is found is no detail.
pub no_detail : (p : ℕ) (ls rest : List Line) (l : Line) → from_place p ls ≡ l ∷ rest → is_detail l ≡ false
no_detail p [] rest l e = absurd (cc)
no_detail p (x ∷ ls) rest l e = elim (cases_Bool (is_detail x)) [
  | inl d ↦ no_detail p ls rest l (rw d at e)
  | inr d ↦ elim (cases_Bool (nat_le p (place_of_head x))) [
    | inl g ↦ (let z : x ∷ ls ≡ l ∷ rest = rw (d, g) at e in let q : x ≡ l = cc in rw (← q) d)
    | inr g ↦ no_detail p ls rest l (rw (d, g) at e)
  ]
]

pub least_at : (ls rest : List Line) (i p n : ℕ) (l : Line) → drop i ls ≡ from_place p ls → drop i ls ≡ l ∷ rest → n ≡ place_of_head l → n ≡ least_place (from_place p ls)
least_at ls rest i p n l e f g = g ∙ ap least_place (sym f ∙ e)

pub least_none : (ls : List Line) (i p : ℕ) → drop i ls ≡ from_place p ls → length ls ≤ i → 270336 ≡ least_place (from_place p ls)
least_none ls i p e h = ap least_place (sym (drop_all i ls h) ∙ e)

-- What is added to a fact of a name, and of the parts of a relation's sum.
use Rattle.std.proofs.Common.{◌≡◌, ℕ, ◌+◌, ◌*◌, ◌%◌, ◌<◌, ◌≤◌, ◌==◌, Bool, true, false, ◌&&◌, List, [], ◌∷◌, ◌++◌, drop, length, refl, sym, ap, ◌∙◌, arith, inl, inr}
use Rattle.std.specs.Prelude.{if◌then◌else◌, Option, Some, None}
use Rattle.std.proofs.Math.Path.{fun_ext}
use Rattle.std.specs.Prelude.{flat_map}
use Rattle.std.proofs.Common.{map, get_or}
use Rattle.std.proofs.lemmas.List.{at_drop_more}
use Rattle.std.proofs.lemmas.Bool.{cases_lt, eq-eqb, eqb-true}
use Rattle.wordset.specs.Words.{Words, some_below, meet}
use Rattle.wordset.proofs.Tests.{some_from, some_to, IsSome, both_ways, and_both, and_first, and_second}
use Rattle.wordset.specs.Lanes.{words}
use Rattle.wordset.proofs.SetLemmas.{words_past, all_past}
use Rattle.domain.specs.Locations.{Location, Ac, Cell}
use Rattle.domain.specs.TrackedCells.{TrackedCell, tracked}
use Rattle.processor.specs.Runs.{Image}
use Rattle.domain.specs.Terms.{Sum, Holding, sum_of_name, difference_of}
use Rattle.domain.specs.Shapes.{Spelled, spelled}
use Rattle.domain.specs.Knowing.{said_of}
use Rattle.domain.specs.Narrowing.{of_term, of_part, parts_of}
use Rattle.domain.specs.InCode.{summand_at}
use Rattle.domain.specs.Facts.{Fact, OfSums}
use Rattle.domain.specs.Adding.{times, differences, with_name, with_term_in, with_shape_in, with_spelled_in, adding, adding_all}
use Rattle.domain.specs.Facts.{Relation}
use Rattle.domain.specs.FactInCode.{names_words}

and_past : (x y : Bool) → y ≡ false → (x && y) ≡ false
and_past true y e = e
and_past false y e = refl

-- No number past the words is one of a cell's words.
pub tracked_past : (a : ℕ) (cells : List TrackedCell) (v : ℕ) → 4096 ≤ v → tracked a cells v ≡ false
tracked_past a [] v h = all_past v h
tracked_past a (c ∷ cs) v h = and_past (if c.address == a then c.set v else true) (tracked a cs v) (tracked_past a cs v h)

-- Nor one of a name's words.
pub names_past : (lanes : List ℕ) (cells : List TrackedCell) (n : Location) (v : ℕ) → 4096 ≤ v → names_words (words lanes) cells n v ≡ false
names_past lanes cells Ac v h = words_past lanes v h
names_past lanes cells (Cell a) v h = tracked_past a cells v h

once_at : (a : Words) (v : ℕ) → v < 4096 → times 1 a v ≡ a v
once_at a v h = both_ways (times 1 a v) (a v)
    (λ e. let s : IsSome 4096 (λ x. a x && (v == (1 * x) % 4096)) = some_to 4096 (λ x. a x && (v == (1 * x) % 4096)) e in
    let same : v ≡ (1 * s.at) % 4096 = eqb-true v ((1 * s.at) % 4096) (and_second (a s.at) (v == (1 * s.at) % 4096) s.holds) in
    let small : s.at < 4096 = s.small in
    let is : v ≡ s.at = omega arith in
    ap a is ∙ and_first (a s.at) (v == (1 * s.at) % 4096) s.holds)
    (λ e. some_from 4096 (λ x. a x && (v == (1 * x) % 4096)) v h (and_both (a v) (v == (1 * v) % 4096) e (eq-eqb v ((1 * v) % 4096) (omega arith))))

meet_times : (a s : Words) → ((v : ℕ) → 4096 ≤ v → a v ≡ false) → meet a (times 1 s) ≡ meet a s
meet_times a s past = fun_ext (λ v. elim (cases_lt v 4096) [
  | inl l ↦ ap (λ b. a v && b) (once_at s v l)
  | inr g ↦ ap (λ b. b && times 1 s v) (past v g) ∙ sym (ap (λ b. b && s v) (past v g))
])

-- A name's set is met with another one, once.
pub name_added : (f : Fact) (n : Location) (s p : Words) → ((v : ℕ) → 4096 ≤ v → f.set n v ≡ false) → p ≡ meet (f.set n) s →
    with_name n p f ≡ adding OfSums (record { sum = sum_of_name n; set = s }) f
name_added f n s p past e = ap (λ (w : Words). with_name n w f) (e ∙ sym (meet_times (f.set n) s past))

-- One list is added, and then another.
pub added_both : (xs ys : List Relation) (f : Fact) → adding_all OfSums (xs ++ ys) f ≡ adding_all OfSums ys (adding_all OfSums xs f)
added_both [] ys f = refl
added_both (x ∷ xs) ys f = added_both xs ys (adding OfSums x f)

-- ---- parts of a sum by how many terms they have

pub part_none : (image : Image) (set : Words) (f : Fact) (xs : Sum) → length xs ≡ 0 → f ≡ adding_all OfSums (of_part image xs set) f
part_none image set f [] e = refl
part_none image set f (x ∷ xs) e = absurd (omega (arith, e))

pub part_one : (image : Image) (set : Words) (f : Fact) (xs : Sum) → length xs ≡ 1 →
    adding OfSums (of_term image (summand_at xs 0).coefficient (summand_at xs 0).term set) f ≡ adding_all OfSums (of_part image xs set) f
part_one image set f [] e = absurd (omega (arith, e))
part_one image set f (x ∷ []) e = refl
part_one image set f (x ∷ y ∷ ys) e = absurd (omega (arith, e))

pub part_more : (image : Image) (set : Words) (f : Fact) (xs : Sum) → 1 < length xs → adding OfSums (record { sum = xs; set = set }) f ≡ adding_all OfSums (of_part image xs set) f
part_more image set f [] e = absurd (omega (arith, e))
part_more image set f (x ∷ []) e = absurd (omega (arith, e))
part_more image set f (x ∷ y ∷ ys) e = refl

-- The first term and the rest.
pub parts_none : (image : Image) (g f : Fact) (set : Words) (xs : Sum) → length xs ≡ 0 → f ≡ adding_all OfSums (parts_of image g xs set) f
parts_none image g f set [] e = refl
parts_none image g f set (x ∷ xs) e = absurd (omega (arith, e))

pub parts_more : (image : Image) (g f : Fact) (set : Words) (xs : Sum) → 0 < length xs →
    adding_all OfSums (of_part image (drop 1 xs) (differences set (said_of image g (summand_at xs 0 ∷ []))))
    (adding OfSums (of_term image (summand_at xs 0).coefficient (summand_at xs 0).term (differences set (said_of image g (drop 1 xs)))) f)
    ≡ adding_all OfSums (parts_of image g xs set) f
parts_more image g f set [] e = absurd (omega (arith, e))
parts_more image g f set (x ∷ xs) e = refl

-- ---- lists of relations, each with its parts

-- One more has its parts added.
pub parts_on : {A B : Type 0} (g : A → B) (p : B → List Relation) (xs : List A) (i : ℕ) (x : A) (now more all : Fact) → i < length xs → x ≡ get_or xs i x → more ≡ adding_all OfSums (p (g x)) now →
    adding_all OfSums (flat_map p (map g (drop i xs))) now ≡ all → adding_all OfSums (flat_map p (map g (drop (i + 1) xs))) more ≡ all
parts_on g p xs i x now more all lt is e before =
    let here : flat_map p (map g (drop i xs)) ≡ p (g x) ++ flat_map p (map g (drop (i + 1) xs)) =
    at_drop_more (λ os. flat_map p (map g os)) xs i x lt ∙ ap (λ y. p (g y) ++ flat_map p (map g (drop (i + 1) xs))) (sym is) in
    ap (λ (f : Fact). adding_all OfSums (flat_map p (map g (drop (i + 1) xs))) f) e ∙ sym (added_both (p (g x)) (flat_map p (map g (drop (i + 1) xs))) now)
    ∙ ap (λ (rs : List Relation). adding_all OfSums rs now) (sym here) ∙ before

-- ---- what a chain says, told by sets that are known of words alone

meet_upto : (a s t : Words) → ((v : ℕ) → 4096 ≤ v → a v ≡ false) → ((v : ℕ) → v < 4096 → s v ≡ t v) → meet a s ≡ meet a t
meet_upto a s t past same = fun_ext (λ v. elim (cases_lt v 4096) [
  | inl l ↦ ap (λ b. a v && b) (same v l)
  | inr g ↦ ap (λ b. b && s v) (past v g) ∙ sym (ap (λ b. b && t v) (past v g))
])

-- A name's set is met with words that are known.
pub known_name : (f : Fact) (n : Location) (s t : Words) → ((v : ℕ) → 4096 ≤ v → f.set n v ≡ false) → ((v : ℕ) → v < 4096 → s v ≡ t v) →
    with_term_in (Holding n) s f ≡ adding OfSums (record { sum = sum_of_name n; set = t }) f
known_name f n s t past same = name_added f n t (meet (f.set n) s) past (meet_upto (f.set n) s t past same)

some_agree : (n : ℕ) (a b : ℕ → Bool) → ((x : ℕ) → x < n → a x ≡ b x) → some_below n a ≡ some_below n b
some_agree n a b same = both_ways (some_below n a) (some_below n b)
    (λ e. let s : IsSome n a = some_to n a e in some_from n b s.at s.small (sym (same s.at s.small) ∙ s.holds))
    (λ e. let s : IsSome n b = some_to n b e in some_from n a s.at s.small (same s.at s.small ∙ s.holds))

times_known : (c : ℕ) (s t : Words) → ((v : ℕ) → v < 4096 → s v ≡ t v) → times c s ≡ times c t
times_known c s t same = fun_ext (λ v. some_agree 4096 (λ x. s x && (v == (c * x) % 4096)) (λ x. t x && (v == (c * x) % 4096)) (λ x small. ap (λ b. b && (v == (c * x) % 4096)) (same x small)))

-- A sum is in a set of which words are known.
pub known_sum : (sum : Sum) (s t : Words) (f : Fact) → ((v : ℕ) → v < 4096 → s v ≡ t v) → adding OfSums (record { sum = sum; set = s }) f ≡ adding OfSums (record { sum = sum; set = t }) f
known_sum sum s t f same = go (spelled sum)
  where
    go : (o : Option Spelled) → with_spelled_in OfSums o s f ≡ with_spelled_in OfSums o t f
    go None = refl
    go (Some p) = ap (λ (x : Words). with_shape_in OfSums p.sum x f) (times_known p.sign s t same)

-- What is told of the accumulator less a cell is a relation.
pub difference_told : (a : ℕ) (set : Words) (f : Fact) →
    record f { relations = (adding OfSums (record { sum = difference_of Ac (Cell a); set = set }) f).relations } ≡ adding OfSums (record { sum = difference_of Ac (Cell a); set = set }) f
difference_told a set f = refl

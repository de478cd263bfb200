-- The sets by which the rules are checked.
use Rattle.std.proofs.Common.{ℕ, ◌≡◌, ◌<◌, ◌+◌, ◌==◌, Bool, true, false, not, ◌&&◌, ◌||◌, cond, List, [], ◌∷◌, length, map, take, get_or, zero-add, add-zero, add_assoc, arith, refl, sym, ◌∙◌, ap, Some, None, inl, inr}
use Rattle.std.specs.Prelude.{nat_le, if◌then◌else◌}
use Rattle.std.specs.List.{list_any, count_by}
use Rattle.std.proofs.lemmas.Bool.{cases_Bool, le-leb}
use Rattle.std.proofs.lemmas.List.Sums.{sum_by_more, sum_by-cons}
use Rattle.std.proofs.Math.Path.{fun_ext}
use Rattle.wordset.specs.Words.{Words, nothing, first_below, SameWords, IsFirstFrom, HasNoneFrom}
use Rattle.wordset.specs.Lanes.{words}
use Rattle.wordset.proofs.Firsts.{first_is}
use Rattle.wordset.proofs.SetLemmas.{word_small}
use Rattle.declaration.specs.DeclarationInCode.{offsets_of, subroutine_of, further_of, place_assertion_of, return_assertion_of}
use Rattle.declaration.specs.declared.FurtherOffsets.{FurtherOffsets as KeptFurtherOffsets}
use Rattle.declaration.specs.declared.PlaceAssertion.{PlaceAssertion}
use Rattle.declaration.specs.declared.ReturnAssertion.{ReturnAssertion}
use Rattle.declaration.specs.Text.{Contents, is_entry, in_bodies, bodies_at, overlaps, entry_in_index, halt_outside, is_named_entry, misplaced, fault_of}
use Rattle.processor.specs.Machine.{is_auto_index}
use Rattle.declaration.specs.Drafts.{Counts, KeepsRules, entries_at, is_held, kept_bodies, kept_entries, named_entries}
use Rattle.declaration.specs.declared.DeclarationFault.TheVariants.{Overlap, EntryInAutoIndex, StartNotInMain, HaltNotInBody, Misplaced}
use Rattle.declaration.specs.declared.coverage.Coverage.{Coverage}
use Rattle.declaration.specs.declared.Routine.{Routine as KeptRoutine}
use Rattle.declaration.proofs.LineLemmas.{eqb-turned}

-- ---- sets below 4096

-- the first of a set is the first of another that has the same words
pub first_same : (set other : Words) (w : ℕ) → SameWords set other → IsFirstFrom 0 set w → IsFirstFrom 0 other w
first_same set other w same f = record {
  small = f.small;
  reached = f.reached;
  within = sym (same w f.small) ∙ f.within;
  before = λ v low h. sym (same v (omega (arith, f.small))) ∙ f.before v low h;
}

pub none_same : (set other : Words) → SameWords set other → HasNoneFrom 0 set → HasNoneFrom 0 other
none_same set other same none = λ v low h. sym (same v h) ∙ none v low h

-- ---- counting

-- the first of a list counts for itself
pub count-cons : {X : Type 0} (p : X → Bool) (x : X) (xs : List X) → count_by p (x ∷ xs) ≡ (if p x then 1 else 0) + count_by p xs
count-cons p x xs = sum_by-cons (λ y. cond (p y) 1 0) x xs

some_or : (b : Bool) (n : ℕ) → nat_le 1 ((if b then 1 else 0) + n) ≡ (b || nat_le 1 n)
some_or true n = le-leb 1 (1 + n) (omega arith)
some_or false n = ap (λ k. nat_le 1 k) (zero-add n)

-- in one or more of some sets
pub some_counted : {X : Type 0} (p : X → Bool) (xs : List X) → nat_le 1 (count_by p xs) ≡ list_any p xs
some_counted p [] = refl
some_counted p (x ∷ xs) = ap (λ n. nat_le 1 n) (count-cons p x xs) ∙ (some_or (p x) (count_by p xs) ∙ ap (λ b. p x || b) (some_counted p xs))

-- a cell is in a body where it's in one body or more; a word is an entry likewise
pub in_bodies_once : (c : Contents) (a : ℕ) → nat_le 1 (bodies_at c a) ≡ in_bodies c a
in_bodies_once c a = some_or (c.main a) (count_by (λ r. r.body a) c.routines) ∙ ap (λ b. c.main a || b) (some_counted (λ r. r.body a) c.routines)

pub is_entry_once : (c : Contents) (a : ℕ) → nat_le 1 (entries_at c a) ≡ is_entry c a
is_entry_once c a = some_counted (λ r. r.entry == a) c.routines

-- counting in a mapped list
pub count_map : {X Y : Type 0} (f : X → Y) (p : Y → Bool) (xs : List X) → count_by p (map f xs) ≡ count_by (λ x. p (f x)) xs
count_map f p [] = refl
count_map f p (x ∷ xs) = count-cons p (f x) (map f xs) ∙ (ap (λ n. (if p (f x) then 1 else 0) + n) (count_map f p xs) ∙ sym (count-cons (λ y. p (f y)) x xs))

pub any_map : {X Y : Type 0} (f : X → Y) (p : Y → Bool) (xs : List X) → list_any p (map f xs) ≡ list_any (λ x. p (f x)) xs
any_map f p [] = refl
any_map f p (x ∷ xs) = ap (λ b. p (f x) || b) (any_map f p xs)

-- the offsets of a routine, by its own line and by others
pub offsets_said : (routines : List KeptRoutine) (skips : List KeptFurtherOffsets) (e o : ℕ) → (list_any (λ r. r.entry == e && offsets_of r.offsets o) routines || list_any (λ s. s.entry == e && words s.offsets o) skips)
    ≡ (list_any (λ r. r.entry == e && r.offsets o) (map subroutine_of routines) || list_any (λ s. s.entry == e && s.offsets o) (map further_of skips))
offsets_said routines skips e o = rw (any_map subroutine_of (λ r. r.entry == e && r.offsets o) routines, any_map further_of (λ s. s.entry == e && s.offsets o) skips) refl

-- counts that agree
Counts-same : (coverage : Coverage) (n m : ℕ → ℕ) → Counts coverage n → ((a : ℕ) → n a ≡ m a) → Counts coverage m
Counts-same coverage n m counts same = record {
  once = λ a. counts.once a ∙ ap (λ k. nat_le 1 k) (same a);
  twice = λ a. counts.twice a ∙ ap (λ k. nat_le 2 k) (same a);
}

-- ---- overlaps

pub overlaps_found : (c : Contents) (bodies entries : Coverage) (v : ℕ) → Counts bodies (bodies_at c) → Counts entries (entries_at c)
    → (variable stop pause : Bool) → variable ≡ c.variable v → stop ≡ c.stop v → pause ≡ c.pause v
    → (words bodies.twice v || (words entries.once v && words bodies.once v) || (words entries.once v && variable) || words entries.twice v || (stop && pause)) ≡ overlaps c v
overlaps_found c bodies entries v b e variable stop pause is_variable is_stop is_pause =
    rw (b.twice v, b.once v, e.twice v, e.once v, in_bodies_once c v, is_entry_once c v, is_variable, is_stop, is_pause) refl

-- ---- the loops over routines

-- none is counted yet
pub bodies_start : (coverage grown : Coverage) (main : List ℕ) (routines : List KeptRoutine) → Counts coverage (λ _. 0)
    → ((number : ℕ → ℕ) → Counts coverage number → Counts grown (λ a. number a + (if words main a then 1 else 0)))
    → Counts grown (kept_bodies main (take 0 routines))
bodies_start coverage grown main routines none add =
    Counts-same grown (λ a. 0 + (if words main a then 1 else 0)) (kept_bodies main (take 0 routines)) (add (λ _. 0) none) (λ a. zero-add (if words main a then 1 else 0) ∙ sym (add-zero (if words main a then 1 else 0)))

-- one routine more
bodies_more : (main : List ℕ) (routines : List KeptRoutine) (i : ℕ) (r : KeptRoutine) (a : ℕ) → i < length routines → r ≡ get_or routines i r
    → kept_bodies main (take i routines) a + (if words r.body a then 1 else 0) ≡ kept_bodies main (take (i + 1) routines) a
bodies_more main routines i r a h is =
    let more : count_by (λ x. words x.body a) (take (i + 1) routines) ≡ count_by (λ x. words x.body a) (take i routines) + (if words (get_or routines i r).body a then 1 else 0) =
    sum_by_more (λ x. cond (words x.body a) 1 0) routines i r h in
    let same : (if words r.body a then 1 else 0) ≡ (if words (get_or routines i r).body a then 1 else 0) = ap (λ (x : KeptRoutine). if words x.body a then 1 else 0) is in
    add_assoc (if words main a then 1 else 0) (count_by (λ x. words x.body a) (take i routines)) (if words r.body a then 1 else 0)
    ∙ ap (λ n. (if words main a then 1 else 0) + n) (ap (λ n. count_by (λ x. words x.body a) (take i routines) + n) same ∙ sym more)

pub bodies_step : (coverage grown : Coverage) (main : List ℕ) (routines : List KeptRoutine) (i : ℕ) (r : KeptRoutine) → i < length routines → r ≡ get_or routines i r
    → Counts coverage (kept_bodies main (take i routines))
    → ((number : ℕ → ℕ) → Counts coverage number → Counts grown (λ a. number a + (if words r.body a then 1 else 0)))
    → Counts grown (kept_bodies main (take (i + 1) routines))
bodies_step coverage grown main routines i r h is so_far add =
    Counts-same grown (λ a. kept_bodies main (take i routines) a + (if words r.body a then 1 else 0)) (kept_bodies main (take (i + 1) routines)) (add (kept_bodies main (take i routines)) so_far) (λ a. bodies_more main routines i r a h is)

entries_more : (routines : List KeptRoutine) (i : ℕ) (r : KeptRoutine) (set : List ℕ) (a : ℕ) → i < length routines → r ≡ get_or routines i r → words set a ≡ (r.entry == a)
    → kept_entries (take i routines) a + (if words set a then 1 else 0) ≡ kept_entries (take (i + 1) routines) a
entries_more routines i r set a h is inside =
    let more : count_by (λ x. x.entry == a) (take (i + 1) routines) ≡ count_by (λ x. x.entry == a) (take i routines) + (if (get_or routines i r).entry == a then 1 else 0) =
    sum_by_more (λ x. cond (x.entry == a) 1 0) routines i r h in
    let same : (if words set a then 1 else 0) ≡ (if (get_or routines i r).entry == a then 1 else 0) = ap (λ b. if b then 1 else 0) inside ∙ ap (λ (x : KeptRoutine). if x.entry == a then 1 else 0) is in
    ap (λ n. kept_entries (take i routines) a + n) same ∙ sym more

pub entries_step : (coverage grown : Coverage) (routines : List KeptRoutine) (i : ℕ) (r : KeptRoutine) (set : List ℕ) → i < length routines → r ≡ get_or routines i r
    → words set ≡ (λ a. a == r.entry)
    → Counts coverage (kept_entries (take i routines))
    → ((number : ℕ → ℕ) → Counts coverage number → Counts grown (λ a. number a + (if words set a then 1 else 0)))
    → Counts grown (kept_entries (take (i + 1) routines))
entries_step coverage grown routines i r set h is one so_far add =
    Counts-same grown (λ a. kept_entries (take i routines) a + (if words set a then 1 else 0)) (kept_entries (take (i + 1) routines)) (add (kept_entries (take i routines)) so_far)
    (λ a. entries_more routines i r set a h is (ap (λ (s : Words). s a) one ∙ eqb-turned a r.entry))

-- of all that is kept
pub bodies_all : (coverage : Coverage) (c : Contents) (main : List ℕ) (routines items : List KeptRoutine) → routines ≡ items → c.main ≡ words main → c.routines ≡ map subroutine_of items
    → Counts coverage (kept_bodies main routines) → Counts coverage (bodies_at c)
bodies_all coverage c main routines items same is_main are_routines counts =
    Counts-same coverage (kept_bodies main routines) (bodies_at c) counts (λ a.
    ap (λ rs. (if words main a then 1 else 0) + count_by (λ r. words r.body a) rs) same
    ∙ (ap (λ n. (if words main a then 1 else 0) + n) (sym (count_map subroutine_of (λ r. r.body a) items))
    ∙ (ap (λ m. (if m a then 1 else 0) + count_by (λ r. r.body a) (map subroutine_of items)) (sym is_main)
    ∙ ap (λ rs. (if c.main a then 1 else 0) + count_by (λ r. r.body a) rs) (sym are_routines))))

pub entries_all : (coverage : Coverage) (c : Contents) (routines items : List KeptRoutine) → routines ≡ items → c.routines ≡ map subroutine_of items
    → Counts coverage (kept_entries routines) → Counts coverage (entries_at c)
entries_all coverage c routines items same are_routines counts =
    Counts-same coverage (kept_entries routines) (entries_at c) counts (λ a.
    ap (λ rs. count_by (λ r. r.entry == a) rs) same
    ∙ (sym (count_map subroutine_of (λ r. r.entry == a) items) ∙ ap (λ rs. count_by (λ r. r.entry == a) rs) (sym are_routines)))

-- ---- entries in auto-index cells, and halts in no body

pub entry_in_index_found : (c : Contents) (entries : Coverage) (index : List ℕ) (v : ℕ) → Counts entries (entries_at c) → words index v ≡ is_auto_index v
    → (words entries.once v && words index v) ≡ entry_in_index c v
entry_in_index_found c entries index v e is = rw (e.once v, is_entry_once c v, is) refl

pub halt_outside_found : (c : Contents) (bodies : Coverage) (v : ℕ) → Counts bodies (bodies_at c) → (stop pause : Bool) → stop ≡ c.stop v → pause ≡ c.pause v
    → ((stop || pause) && not (words bodies.once v)) ≡ halt_outside c v
halt_outside_found c bodies v b stop pause is_stop is_pause = rw (b.once v, in_bodies_once c v, is_stop, is_pause) refl

-- ---- what is misplaced

-- the cells that are named as entries, and those at which something is to hold, as they are kept
pub named_kept : (c : Contents) (moves : List ℕ) (skips skipped : List KeptFurtherOffsets) (returns returned : List ReturnAssertion) (a : ℕ) → c.moves ≡ words moves → skips ≡ skipped → c.skips ≡ map further_of skipped → returns ≡ returned → c.returns ≡ map return_assertion_of returned
    → named_entries (words moves) skips returns a ≡ is_named_entry c a
named_kept c moves skips skipped returns returned a is_moves same_skips is_skips same_returns is_returns =
    rw (is_moves, same_skips, is_skips, same_returns, is_returns, any_map further_of (λ s. s.entry == a) skipped, any_map return_assertion_of (λ r. r.entry == a) returned) refl

pub held_kept : (c : Contents) (holds held : List PlaceAssertion) (a : ℕ) → holds ≡ held → c.holds ≡ map place_assertion_of held → list_any (λ h. words h.places a) holds ≡ is_held c a
held_kept c holds held a same is = rw (same, is, any_map place_assertion_of (λ h. h.places a) held) refl

pub misplaced_found : (c : Contents) (bodies entries : Coverage) (v : ℕ) → Counts bodies (bodies_at c) → Counts entries (entries_at c) → (named abandon main held : Bool) → named ≡ is_named_entry c v → abandon ≡ c.abandon v → main ≡ c.main v → held ≡ is_held c v
    → ((named && not (words entries.once v)) || (abandon && not main) || (held && not (words bodies.once v))) ≡ misplaced c v
misplaced_found c bodies entries v b e named abandon main held is_named is_abandon is_main holds =
    rw (b.once v, in_bodies_once c v, e.once v, is_entry_once c v, is_named, is_abandon, is_main, holds) refl

-- one of a list more
pub any_more : {X : Type 0} (p : X → Bool) (xs : List X) (i : ℕ) (x : X) → i < length xs → x ≡ get_or xs i x → list_any p (take (i + 1) xs) ≡ (list_any p (take i xs) || p x)
any_more p xs i x h is =
    let more : count_by p (take (i + 1) xs) ≡ count_by p (take i xs) + (if p (get_or xs i x) then 1 else 0) = sum_by_more (λ y. cond (p y) 1 0) xs i x h in
    let same : (if p (get_or xs i x) then 1 else 0) ≡ (if p x then 1 else 0) = ap (λ y. if p y then 1 else 0) (sym is) in
    sym (some_counted p (take (i + 1) xs)) ∙ (ap (λ n. nat_le 1 n) (more ∙ ap (λ n. count_by p (take i xs) + n) same) ∙ (or_some (count_by p (take i xs)) (p x) ∙ ap (λ b. b || p x) (some_counted p (take i xs))))
  where
    or_truth : (b : Bool) → (b || true) ≡ true
    or_truth true = refl
    or_truth false = refl

    or_falsity : (b : Bool) → (b || false) ≡ b
    or_falsity true = refl
    or_falsity false = refl

    or_some : (n : ℕ) (b : Bool) → nat_le 1 (n + (if b then 1 else 0)) ≡ (nat_le 1 n || b)
    or_some n true = le-leb 1 (n + 1) (omega arith) ∙ sym (or_truth (nat_le 1 n))
    or_some n false = ap (λ k. nat_le 1 k) (add-zero n) ∙ sym (or_falsity (nat_le 1 n))

-- a cell of each of them more, and a set of each of them more
pub cell_more : {X : Type 0} (cell : X → ℕ) (set new : Words) (xs : List X) (i : ℕ) (x : X) → i < length xs → x ≡ get_or xs i x → set ≡ (λ a. list_any (λ y. cell y == a) (take i xs)) → new ≡ (λ a. set a || a == cell x)
    → new ≡ (λ a. list_any (λ y. cell y == a) (take (i + 1) xs))
cell_more cell set new xs i x h is so_far grown =
    grown ∙ fun_ext (λ a. ap (λ (s : Words). s a || a == cell x) so_far ∙ (ap (λ b. list_any (λ y. cell y == a) (take i xs) || b) (eqb-turned a (cell x)) ∙ sym (any_more (λ y. cell y == a) xs i x h is)))

pub set_more : {X : Type 0} (cells : X → Words) (set new : Words) (xs : List X) (i : ℕ) (x : X) → i < length xs → x ≡ get_or xs i x → set ≡ (λ a. list_any (λ y. cells y a) (take i xs)) → new ≡ (λ a. set a || cells x a)
    → new ≡ (λ a. list_any (λ y. cells y a) (take (i + 1) xs))
set_more cells set new xs i x h is so_far grown =
    grown ∙ fun_ext (λ a. ap (λ (s : Words). s a || cells x a) so_far ∙ sym (any_more (λ y. cells y a) xs i x h is))

pub none_yet : {X : Type 0} (p : X → ℕ → Bool) (set : Words) (xs : List X) → set ≡ nothing → set ≡ (λ a. list_any (λ y. p y a) (take 0 xs))
none_yet p set xs none = none ∙ fun_ext (λ a. refl)

-- the cells that are kept are words
pub cell_below : (lanes : List ℕ) (a : ℕ) → words lanes a ≡ true → a < 4096
cell_below lanes a is = word_small lanes a is

body_below : (routines : List KeptRoutine) (a : ℕ) → list_any (λ r. r.body a) (map subroutine_of routines) ≡ true → a < 4096
body_below [] a is = absurd (cc)
body_below (r ∷ rs) a is = elim (cases_Bool (words r.body a)) [
  | inl e ↦ cell_below r.body a e
  | inr e ↦ body_below rs a (rw e at is)
]

pub in_bodies_below : (main : List ℕ) (routines : List KeptRoutine) (a : ℕ) → (words main a || list_any (λ r. r.body a) (map subroutine_of routines)) ≡ true → a < 4096
in_bodies_below main routines a is = elim (cases_Bool (words main a)) [
  | inl e ↦ cell_below main a e
  | inr e ↦ body_below routines a (rw e at is)
]

-- so are the entries that are counted
pub entries_below : (c : Contents) (entries : Coverage) → Counts entries (entries_at c) → (e : ℕ) → is_entry c e ≡ true → e < 4096
entries_below c entries counts e is = cell_below entries.once e (counts.once e ∙ is_entry_once c e ∙ is)

-- ---- the first fault of all lines

found_first : (set : Words) (a : ℕ) → IsFirstFrom 0 set a → first_below 4096 set ≡ Some a
found_first set a is = sym (first_is (Some a) set is)

found_none : (set : Words) → HasNoneFrom 0 set → first_below 4096 set ≡ None
found_none set none = sym (first_is None set none)

pub overlap_first : (c : Contents) (start a : ℕ) → IsFirstFrom 0 (overlaps c) a → fault_of c start ≡ Some (Overlap a)
overlap_first c start a is = rw (found_first (overlaps c) a is) refl

pub index_first : (c : Contents) (start a : ℕ) → HasNoneFrom 0 (overlaps c) → IsFirstFrom 0 (entry_in_index c) a → fault_of c start ≡ Some (EntryInAutoIndex a)
index_first c start a apart is = rw (found_none (overlaps c) apart, found_first (entry_in_index c) a is) refl

pub start_first : (c : Contents) (start : ℕ) → HasNoneFrom 0 (overlaps c) → HasNoneFrom 0 (entry_in_index c) → c.main start ≡ false → fault_of c start ≡ Some StartNotInMain
start_first c start apart outside is = rw (found_none (overlaps c) apart, found_none (entry_in_index c) outside, is) refl

pub halt_first : (c : Contents) (start a : ℕ) → HasNoneFrom 0 (overlaps c) → HasNoneFrom 0 (entry_in_index c) → c.main start ≡ true → IsFirstFrom 0 (halt_outside c) a
    → fault_of c start ≡ Some (HaltNotInBody a)
halt_first c start a apart outside main is =
    rw (found_none (overlaps c) apart, found_none (entry_in_index c) outside, main, found_first (halt_outside c) a is) refl

pub misplaced_first : (c : Contents) (start a : ℕ) → HasNoneFrom 0 (overlaps c) → HasNoneFrom 0 (entry_in_index c) → c.main start ≡ true → HasNoneFrom 0 (halt_outside c)
    → IsFirstFrom 0 (misplaced c) a → fault_of c start ≡ Some (Misplaced a)
misplaced_first c start a apart outside main inside is =
    rw (found_none (overlaps c) apart, found_none (entry_in_index c) outside, main, found_none (halt_outside c) inside, found_first (misplaced c) a is) refl

pub no_fault_first : (c : Contents) (start : ℕ) → KeepsRules c start → fault_of c start ≡ None
no_fault_first c start k =
    rw (found_none (overlaps c) k.apart, found_none (entry_in_index c) k.outside_index, k.start_in_main, found_none (halt_outside c) k.halts_inside, found_none (misplaced c) k.placed) refl

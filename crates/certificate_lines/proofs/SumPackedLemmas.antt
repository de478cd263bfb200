-- Lines of all versions packed, with the runs of their sets and the steps of their chains.
use Rattle.std.proofs.Common.{◌≡◌, ℕ, ◌+◌, ◌-◌, ◌<◌, ◌≤◌, List, [], ◌∷◌, ◌++◌, length, map, get_or, take, drop, zero, suc, refl, ap, ◌∙◌, sym, subst, inl, inr, arith, append_assoc, length-append}
use Rattle.std.specs.Prelude.{if◌then◌else◌, slice_range, min}
use Rattle.std.specs.List.{AllByRecursion}
use Rattle.std.proofs.lemmas.List.{take_all, take_at, drop_at, drop_all, drop-append-le, take-append-le, take-append-drop, length-take-le, length-drop, length-map, drop-map, drop_more, map_push}
use Rattle.std.proofs.lemmas.List.Elements.{All-from_recursion}
use Rattle.std.proofs.lemmas.Bool.{cases_lt}
use Rattle.std.proofs.Math.Path.{fun_ext}
use Rattle.wordset.specs.Words.{Words, nothing}
use Rattle.domain.specs.declared.chains.Step.{Step}
use Rattle.certificate_lines.specs.declared.runs.Run.{Run}
use Rattle.certificate_lines.specs.declared.runs.PackedRegisters.{PackedRegisters}
use Rattle.certificate_lines.specs.declared.packed.PackedLine.{PackedLine}
use Rattle.certificate_lines.specs.declared.packed.PackedLine.TheVariants as packed
use Rattle.certificate_lines.specs.declared.packed.StoredLine.{StoredLine}
use Rattle.certificate_lines.specs.FieldSpelling.{Registers}
use Rattle.certificate_lines.specs.Runs.{Begins, set_of_runs, added, set_at, registers_at, AreWithin}
use Rattle.certificate_lines.specs.Lines.{Line, is_chain, End}
use Rattle.certificate_lines.specs.Packed.{said_at, kept_at, LieWithin, LiesWithin, IsKept, IsPacked, run_count, step_count}
use Rattle.certificate_lines.proofs.PackedLemmas.{set_kept, one_kept, other_kept, registers_kept, longer, front_of, no_run}

-- What is left of two lists behind a place.
pub drop_both : {X : Type 0} (n : ℕ) (xs ys : List X) → drop n (xs ++ ys) ≡ drop n xs ++ drop (n - length xs) ys
drop_both zero xs ys = let e : 0 - length xs ≡ 0 = omega arith in rw e refl
drop_both (suc n) [] ys = let e : suc n - 0 ≡ suc n = omega arith in rw e refl
drop_both (suc n) (x ∷ xs) ys = let e : suc n - suc (length xs) ≡ n - length xs = omega arith in rw e (drop_both n xs ys)

-- What a line says stays so where more runs and steps are added.
behind_kept : (runs more : List Run) (sites : ℕ) (r : PackedRegisters) → LieWithin (length runs) sites r.sets →
    registers_at (drop sites (runs ++ more)) r ≡ registers_at (drop sites runs) r
behind_kept runs more sites r h =
    let q : sites + (r.sets.one + r.sets.other) ≤ length runs = h in
    ap (λ (x : List Run). registers_at x r) (drop-append-le sites runs more (omega (arith, q))) ∙
    registers_kept (drop sites runs) more r (record { inside = omega (arith, q, length-drop sites runs) })

pub line_kept : (runs more : List Run) (steps further : List Step) (l : PackedLine) → LiesWithin (length runs) (length steps) l →
    said_at (runs ++ more) (steps ++ further) l ≡ said_at runs steps l
line_kept runs more steps further (packed.Routine r) h = rw (one_kept runs more r.sets h, other_kept runs more r.sets h) refl
line_kept runs more steps further (packed.Fact f) h =
    let q : f.sites + (f.registers.sets.one + f.registers.sets.other) ≤ length runs = h in
    rw (set_kept runs more 0 f.sites (omega (arith, q)), behind_kept runs more f.sites f.registers h) refl
line_kept runs more steps further (packed.Exit e) h =
    let q : e.sites + (e.registers.sets.one + e.registers.sets.other) ≤ length runs = h in
    rw (set_kept runs more 0 e.sites (omega (arith, q)), behind_kept runs more e.sites e.registers h) refl
line_kept runs more steps further (packed.Cell a n) h = let q : n ≤ length runs = h in rw (set_kept runs more 0 n (omega (arith, q))) refl
line_kept runs more steps further (packed.Sum s n) h = let q : n ≤ length runs = h in rw (set_kept runs more 0 n (omega (arith, q))) refl
line_kept runs more steps further (packed.Chain c) h = rw (take-append-le c.count steps further h.0) refl
line_kept runs more steps further packed.End h = refl

still_kept : (runs more : List Run) (steps further : List Step) (k : StoredLine) → IsKept (length runs) (length steps) k →
    kept_at (runs ++ more) (steps ++ further) k ≡ kept_at runs steps k
still_kept runs more steps further k h =
    ap (λ (rs : List Run). said_at rs (drop k.first (steps ++ further)) k.line) (drop_both k.first runs more) ∙
    (ap (λ (ss : List Step). said_at (drop k.first runs ++ drop (k.first - length runs) more) ss k.line) (drop_both k.first steps further) ∙
    line_kept (drop k.first runs) (drop (k.first - length runs) more) (drop k.first steps) (drop (k.first - length steps) further) k.line
    (rw (length-drop k.first runs, length-drop k.first steps) h))

lines_kept : (runs more : List Run) (steps further : List Step) (ls : List StoredLine) → AllByRecursion (IsKept (length runs) (length steps)) ls →
    map (kept_at (runs ++ more) (steps ++ further)) ls ≡ map (kept_at runs steps) ls
lines_kept runs more steps further [] h = refl
lines_kept runs more steps further (l ∷ ls) h = rw (still_kept runs more steps further l h.0, lines_kept runs more steps further ls h.1) refl

line_on : (n m p q : ℕ) (l : PackedLine) → n ≤ m → p ≤ q → LiesWithin n p l → LiesWithin m q l
line_on n m p q (packed.Routine r) h k w = record { inside = (let z = w.inside in omega (arith, z)) }
line_on n m p q (packed.Fact f) h k w = let z : f.sites + (f.registers.sets.one + f.registers.sets.other) ≤ n = w in omega (arith, z)
line_on n m p q (packed.Exit e) h k w = let z : e.sites + (e.registers.sets.one + e.registers.sets.other) ≤ n = w in omega (arith, z)
line_on n m p q (packed.Cell a c) h k w = let z : c ≤ n = w in omega (arith, z)
line_on n m p q (packed.Sum s c) h k w = let z : c ≤ n = w in omega (arith, z)
line_on n m p q (packed.Chain c) h k w = let z : c.count ≤ p = w.0 in (omega (arith, z), w.1)
line_on n m p q packed.End h k w = tt

all_on : (n m p q : ℕ) (ls : List StoredLine) → n ≤ m → p ≤ q → AllByRecursion (IsKept n p) ls → AllByRecursion (IsKept m q) ls
all_on n m p q [] h k w = tt
all_on n m p q (x ∷ ls) h k w = (line_on (n - x.first) (m - x.first) (p - x.first) (q - x.first) x.line (omega arith) (omega arith) w.0, all_on n m p q ls h k w.1)

one_on : (n p : ℕ) (ls : List StoredLine) (k : StoredLine) → AllByRecursion (IsKept n p) ls → IsKept n p k → AllByRecursion (IsKept n p) (ls ++ k ∷ [])
one_on n p [] k w one = (one, tt)
one_on n p (x ∷ ls) k w one = (w.0, one_on n p ls k w.1 one)

-- More steps.
longer_steps : (steps later : List Step) → Begins steps later → length steps ≤ length later
longer_steps steps later b = let q : length later ≡ length (steps ++ b.0) = ap length b.1 in omega (arith, length-append steps b.0)

pub lines_added : (runs new : List Run) (steps later : List Step) (ls : List StoredLine) → AllByRecursion (IsKept (length runs) (length steps)) ls →
    Begins runs new → Begins steps later → map (kept_at new later) ls ≡ map (kept_at runs steps) ls
lines_added runs new steps later ls h b d = rw (b.1, d.1) (lines_kept runs b.0 steps d.0 ls h)

pub still_within : (runs new : List Run) (steps later : List Step) (ls : List StoredLine) → AllByRecursion (IsKept (length runs) (length steps)) ls →
    Begins runs new → Begins steps later → AllByRecursion (IsKept (length new) (length later)) ls
still_within runs new steps later ls h b d = all_on (length runs) (length new) (length steps) (length later) ls (longer runs new b) (longer_steps steps later d) h

-- A line more, whose runs and steps were added.
pub line_added : (runs new : List Run) (steps later : List Step) (ls after : List StoredLine) (k : StoredLine) (line : Line) →
    AllByRecursion (IsKept (length runs) (length steps)) ls → Begins runs new → Begins steps later →
    IsPacked (drop k.first new) (drop k.first later) k.line line → after ≡ ls ++ k ∷ [] →
    map (kept_at new later) after ≡ map (kept_at runs steps) ls ++ line ∷ []
line_added runs new steps later ls after k line h b d p e =
    rw e (map_push (kept_at new later) ls k ∙ (ap (λ (x : List Line). x ++ kept_at new later k ∷ []) (lines_added runs new steps later ls h b d) ∙
    ap (λ (x : Line). map (kept_at runs steps) ls ++ x ∷ []) p.is))

pub all_within : (runs new : List Run) (steps later : List Step) (ls after : List StoredLine) (k : StoredLine) (line : Line) →
    AllByRecursion (IsKept (length runs) (length steps)) ls → Begins runs new → Begins steps later →
    IsPacked (drop k.first new) (drop k.first later) k.line line → after ≡ ls ++ k ∷ [] → AllByRecursion (IsKept (length new) (length later)) after
all_within runs new steps later ls after k line h b d p e =
    let w : LiesWithin (length new - k.first) (length later - k.first) k.line = rw (length-drop k.first new, length-drop k.first later) at p.within in
    rw e (one_on (length new) (length later) ls k (still_within runs new steps later ls h b d) w)

-- Where a line's runs or steps begin: a chain has no runs, and other lines have no steps.
pub from_first : (runs : List Run) (steps : List Step) (n m first : ℕ) (l : PackedLine) (line : Line) →
    first ≡ (if is_chain (said_at [] [] l) then m else n) → IsPacked (drop n runs) (drop m steps) l line → IsPacked (drop first runs) (drop first steps) l line
from_first runs steps n m first (packed.Routine r) line e p = rw e (record { within = p.within; is = p.is })
from_first runs steps n m first (packed.Fact f) line e p = rw e (record { within = p.within; is = p.is })
from_first runs steps n m first (packed.Exit x) line e p = rw e (record { within = p.within; is = p.is })
from_first runs steps n m first (packed.Cell a c) line e p = rw e (record { within = p.within; is = p.is })
from_first runs steps n m first (packed.Sum s c) line e p = rw e (record { within = p.within; is = p.is })
from_first runs steps n m first (packed.Chain c) line e p = rw e (record { within = p.within; is = p.is })
from_first runs steps n m first packed.End line e p = record { within = tt; is = p.is }

pub begun : (i j n m first : ℕ) (l : PackedLine) → i ≡ n → j ≡ m → first ≡ (if is_chain (said_at [] [] l) then j else i) → first ≡ (if is_chain (said_at [] [] l) then m else n)
begun i j n m first l e f g = rw (← e, ← f) g

-- Runs and steps that were added with their line.
pub packed_after : (old new runs : List Run) (before later steps : List Step) (l : PackedLine) → new ≡ old ++ runs → later ≡ before ++ steps →
    LiesWithin (length runs) (length steps) l → IsPacked (drop (length old) new) (drop (length before) later) l (said_at runs steps l)
packed_after old new runs before later steps l e f w =
    subst (λ (rs : List Run). IsPacked rs (drop (length before) later) l (said_at runs steps l)) (sym (ap (drop (length old)) e ∙ drop_at old runs (length old) refl))
    (subst (λ (ss : List Step). IsPacked runs ss l (said_at runs steps l)) (sym (ap (drop (length before)) f ∙ drop_at before steps (length before) refl)) (record { within = w; is = refl }))

-- The runs of sites that were added, and then those of registers.
pub record AreSited (runs : List Run) (n : ℕ) (r : PackedRegisters) (sites : Words) (said : Registers) : Type 0 where
  pub within : LieWithin (length runs) n r.sets
  pub sites_are : set_at runs 0 n ≡ sites
  pub registers_are : registers_at (drop n runs) r ≡ said

pub are_sited : (old mid new : List Run) (n : ℕ) (r : PackedRegisters) (sites : Words) (said : Registers) → Begins old mid → Begins mid new → length old + n ≡ length mid →
    added old mid ≡ sites → AreWithin (length (drop (length mid) new)) r.sets → registers_at (drop (length mid) new) r ≡ said → AreSited (drop (length old) new) n r sites said
are_sited old mid new n r sites said a b count is within also = record {
  within = (let z = within.inside in omega (arith, z, count, length-drop (length old) new, length-drop (length mid) new, reached));
  sites_are = ap set_of_runs first ∙ is;
  registers_are = ap (λ (x : List Run). registers_at x r) behind ∙ also;
}
  where
    reached : length mid ≤ length new
    reached = longer mid new b

    some : length a.0 ≡ n
    some = let e : length mid ≡ length old + length a.0 = ap length a.1 ∙ length-append old a.0 in omega (arith, count)

    both : drop (length old) new ≡ a.0 ++ b.0
    both = rw (b.1, a.1) (ap (drop (length old)) (append_assoc old a.0 b.0) ∙ drop_at old (a.0 ++ b.0) (length old) refl)

    first : slice_range (drop (length old) new) 0 (0 + n) ≡ drop (length old) mid
    first = front_of (drop (length old) new) n ∙ (rw (both, ← some) (take_at a.0 b.0 (length a.0) refl) ∙ sym (ap (drop (length old)) a.1 ∙ drop_at old a.0 (length old) refl))

    behind : drop n (drop (length old) new) ≡ drop (length mid) new
    behind = rw (both, ← some) (drop_at a.0 b.0 (length a.0) refl) ∙ sym (ap (drop (length mid)) b.1 ∙ drop_at mid b.0 (length mid) refl)

-- Runs of registers that were copied.
pub registers_copied : (old new own : List Run) (sites first last : ℕ) (r : PackedRegisters) → first ≡ sites → last ≡ first + (r.sets.one + r.sets.other) → new ≡ old ++ slice_range own first last →
    LieWithin (length own) sites r.sets → AreWithin (length (drop (length old) new)) r.sets × (registers_at (drop (length old) new) r ≡ registers_at (drop sites own) r)
registers_copied old new own sites first last r f l g h =
    let xs : List Run = drop sites own in
    let e : new ≡ old ++ slice_range own sites last = rw f at g in
    let z : last - sites ≡ r.sets.one + r.sets.other = omega (arith, l, f) in
    let q : sites + (r.sets.one + r.sets.other) ≤ length own = h in
    let part : drop (length old) new ≡ take (r.sets.one + r.sets.other) xs =
    ap (drop (length old)) e ∙ (drop_at old (slice_range own sites last) (length old) refl ∙ ap (λ k. take k (drop sites own)) z) in
    let w : AreWithin (length (take (r.sets.one + r.sets.other) xs)) r.sets =
    record { inside = omega (arith, length-take-le (r.sets.one + r.sets.other) xs (omega (arith, q, length-drop sites own))) } in
    rw part (
      w,
      sym (registers_kept (take (r.sets.one + r.sets.other) xs) (drop (r.sets.one + r.sets.other) xs) r w) ∙
          ap (λ (x : List Run). registers_at x r) (take-append-drop (r.sets.one + r.sets.other) xs),
    )

-- The runs and the steps of a line alone.
pub line_alone : (runs : List Run) (steps : List Step) (l : PackedLine) → LiesWithin (length runs) (length steps) l →
    IsPacked (take (run_count l) runs) (take (step_count l) steps) l (said_at runs steps l)
line_alone runs steps l h = record {
  within = counted runs steps l h;
  is = sym (ap (λ (x : List Run). said_at x steps l) (sym (take-append-drop (run_count l) runs)) ∙
      (ap (λ (x : List Step). said_at (take (run_count l) runs ++ drop (run_count l) runs) x l) (sym (take-append-drop (step_count l) steps)) ∙
      line_kept (take (run_count l) runs) (drop (run_count l) runs) (take (step_count l) steps) (drop (step_count l) steps) l (counted runs steps l h)));
}
  where
    counted : (runs : List Run) (steps : List Step) (l : PackedLine) → LiesWithin (length runs) (length steps) l →
        LiesWithin (length (take (run_count l) runs)) (length (take (step_count l) steps)) l
    counted runs steps (packed.Routine r) h = let z = h.inside in record { inside = omega (arith, length-take-le (r.sets.one + r.sets.other) runs z) }
    counted runs steps (packed.Fact f) h = let z = length-take-le (f.sites + (f.registers.sets.one + f.registers.sets.other)) runs h in omega (arith, z)
    counted runs steps (packed.Exit e) h = let z = length-take-le (e.sites + (e.registers.sets.one + e.registers.sets.other)) runs h in omega (arith, z)
    counted runs steps (packed.Cell a n) h = let z = length-take-le n runs h in omega (arith, z)
    counted runs steps (packed.Sum s n) h = let z = length-take-le n runs h in omega (arith, z)
    counted runs steps (packed.Chain c) h = let z = length-take-le c.count steps h.0 in (omega (arith, z), h.1)
    counted runs steps packed.End h = tt

-- The line at a place.
pub record LineThere (runs : List Run) (steps : List Step) (ls : List StoredLine) (i : ℕ) (k : StoredLine) : Type 0 where
  pub there : drop i (map (kept_at runs steps) ls) ≡ kept_at runs steps k ∷ drop (i + 1) (map (kept_at runs steps) ls)
  pub within : LiesWithin (length (drop k.first runs)) (length (drop k.first steps)) k.line

pub line_there : (runs : List Run) (steps : List Step) (ls : List StoredLine) (i : ℕ) (k : StoredLine) → k ≡ get_or ls i k → i < length (map (kept_at runs steps) ls) →
    AllByRecursion (IsKept (length runs) (length steps)) ls → LineThere runs steps ls i k
line_there runs steps ls i k at h all =
    let b : i < length ls = omega (arith, length-map ls (kept_at runs steps)) in
    let it : IsKept (length runs) (length steps) k = rw at (All-from_recursion (IsKept (length runs) (length steps)) ls all i k b) in
    record {
      there = drop-map (kept_at runs steps) i ls ∙ (ap (map (kept_at runs steps)) (drop_more ls i k b ∙ ap (λ (x : StoredLine). x ∷ drop (i + 1) ls) (sym at)) ∙
          ap (λ (x : List Line). kept_at runs steps k ∷ x) (sym (drop-map (kept_at runs steps) (i + 1) ls)));
      within = rw (length-drop k.first runs, length-drop k.first steps) it;
    }

-- The line at a place of a list is the one at the front of those from there on.
same_head : (x y : Line) (xs ys : List Line) → x ∷ xs ≡ y ∷ ys → x ≡ y
same_head x y xs ys e = cc

pub line_is : (ls : List Line) (i : ℕ) (l : Line) → i < length ls → drop i ls ≡ l ∷ drop (i + 1) ls → get_or ls i End ≡ l
line_is ls i l h e = same_head (get_or ls i End) l (drop (i + 1) ls) (drop (i + 1) ls) (sym (drop_more ls i End h) ∙ e)

pub kept_there : (runs : List Run) (steps : List Step) (ks : List StoredLine) (i : ℕ) (k : StoredLine) → k ≡ get_or ks i k → i < length (map (kept_at runs steps) ks) →
    AllByRecursion (IsKept (length runs) (length steps)) ks → get_or (map (kept_at runs steps) ks) i End ≡ kept_at runs steps k
kept_there runs steps ks i k at h all = line_is (map (kept_at runs steps) ks) i (kept_at runs steps k) h (line_there runs steps ks i k at h all).there

pub line_at : (ls : List Line) (i : ℕ) → i < length ls → drop i ls ≡ get_or ls i End ∷ drop (i + 1) ls
line_at ls i h = drop_more ls i End h

-- What lies behind a place, or nothing where that is past all.
pub rest_from : {X : Type 0} (xs ys : List X) (i m : ℕ) → xs ≡ ys → m ≡ min i (length ys) → take (length xs - m) (drop m xs) ≡ drop i ys
rest_from xs ys i m e f = elim (cases_lt i (length ys)) [
  | inl h ↦ (let g : m ≡ i = omega arith in rw (e, g) (take_all (length ys - i) (drop i ys) (omega (arith, length-drop i ys))))
  | inr h ↦ (let g : m ≡ length ys = omega arith in
      rw (e, g) (ap (take (length ys - length ys)) (drop_all (length ys) ys (omega arith)) ∙ (take_all (length ys - length ys) [] (omega arith) ∙ sym (drop_all i ys h))))
]

-- The runs and the steps of a line that were added behind others.
pub laid_alone : (old new runs : List Run) (before later steps : List Step) (l : PackedLine) (n m : ℕ) → n ≡ run_count l → m ≡ step_count l →
    new ≡ old ++ take n runs → later ≡ before ++ take m steps → LiesWithin (length runs) (length steps) l →
    IsPacked (drop (length old) new) (drop (length before) later) l (said_at runs steps l)
laid_alone old new runs before later steps l n m e f g h within =
    let a : IsPacked (take (run_count l) runs) (take (step_count l) steps) l (said_at runs steps l) = line_alone runs steps l within in
    let p : IsPacked (drop (length old) new) (drop (length before) later) l (said_at (take (run_count l) runs) (take (step_count l) steps) l) =
    packed_after old new (take (run_count l) runs) before later (take (step_count l) steps) l (rw e at g) (rw f at h) a.within in
    record { within = p.within; is = p.is ∙ a.is }

-- Runs behind a place.
drop_twice : (k n : ℕ) (xs : List Run) → drop n (drop k xs) ≡ drop (k + n) xs
drop_twice zero n xs = let e : 0 + n ≡ n = omega arith in rw e refl
drop_twice (suc k) n [] = drop_all n [] (omega arith) ∙ sym (drop_all (suc k + n) [] (omega arith))
drop_twice (suc k) n (x ∷ xs) = let e : suc k + n ≡ suc (k + n) = omega arith in rw e (drop_twice k n xs)

pub set_behind : (runs : List Run) (k i j n : ℕ) → j ≡ k + i → set_at runs j n ≡ set_at (drop k runs) i n
set_behind runs k i j n e =
    let a : j + n - j ≡ n = omega arith in
    let b : i + n - i ≡ n = omega arith in
    ap set_of_runs (rw (a, b, e) (ap (take n) (sym (drop_twice k i runs))))

-- No run was added.
pub none_added : (old : List Run) → added old old ≡ nothing
none_added old = ap set_of_runs (drop_all (length old) old (omega arith)) ∙ fun_ext no_run

-- A set read run by run.
use Rattle.std.proofs.Common.{◌≡◌, ℕ, suc, ◌+◌, ◌*◌, ◌/◌, ◌<◌, ◌≤◌, true, false, List, [], ◌∷◌, ◌++◌, length, Option, Some, None, refl, ap, ◌∙◌, sym, subst, inl, inr, arith, append_assoc, append-nil, length-append, drop}
use Rattle.std.proofs.lemmas.List.{drop_at, drop_all}
use Rattle.std.specs.Prelude.{IfSome}
use Rattle.std.specs.Option.{IsSomeAnd}
use Rattle.std.proofs.lemmas.Bool.{false≢true}
use Rattle.word12.specs.Words.{octal_text}
use Rattle.wordset.specs.Words.{Words, has_some}
use Rattle.certificate_lines.specs.FieldSpelling.{marks, set_text}
use Rattle.certificate_lines.specs.FieldsLeft.{run_text, NoDash, EndsField}
use Rattle.certificate_lines.specs.declared.runs.Run.{Run}
use Rattle.certificate_lines.specs.Runs.{Begins, set_of_runs, added, StandApart}
use Rattle.certificate_lines.proofs.PackedLemmas.{no_run}
use Rattle.certificate_lines.proofs.DigitLemmas.{at_some}
use Rattle.certificate_lines.proofs.ApartLemmas.{more_text, runs_text, AllBelow, few_apart, run_is}
use Rattle.certificate_lines.proofs.SetLemmas.{text_of, some_runs, RunsOf, word_runs, by_words, empty_text}

-- These are runs that stand apart, and their text came before the rest of a line.
pub record Whole (text : ℕ → List ℕ) (old : Option (List ℕ)) (rs : List Run) (tail : List ℕ) : Type 0 where
  pub apart : StandApart 0 rs
  pub spelled : old ≡ Some (runs_text text rs ++ tail)

-- What a call that reads a run of numbers says, each of which is below `most` and has this text.
pub record RunRead (text : ℕ → List ℕ) (most from : ℕ) (old now : Option (List ℕ)) (low high : ℕ) : Type 0 where
  pub read : IfSome now (λ r. old ≡ Some (run_text text low high ++ r))
  pub order : IfSome now (λ r. (from ≤ low) × (low ≤ high))
  pub only : (l h : ℕ) (r : List ℕ) → from ≤ l → l ≤ h → h < most → NoDash r → old ≡ Some (run_text text l h ++ r) →
      (low ≡ l) × (high ≡ h) × (now ≡ Some r)

-- Where a run is next, what was read and the runs that follow are the whole; and of any whole a run is next.
abbrev pub Before : (ℕ → List ℕ) → Option (List ℕ) → List Run → ℕ → List ℕ → Type 0
Before text old more n now = (r : Run) (rs : List Run) (tail : List ℕ) → StandApart n (r ∷ rs) → now ≡ runs_text text (r ∷ rs) ++ tail →
    Whole text old (more ++ r ∷ rs) tail

pub record Ahead (text : ℕ → List ℕ) (most : ℕ) (all more : List Run) (n : ℕ) (now : Option (List ℕ)) (tail : List ℕ) : Type 0 where
  pub next : Run
  pub others : List Run
  pub is : all ≡ more ++ next ∷ others
  pub apart : StandApart n (next ∷ others)
  pub below : AllBelow most (next ∷ others)
  pub left : now ≡ Some (runs_text text (next ∷ others) ++ tail)

-- These runs were read.
pub record RunsRead (text : ℕ → List ℕ) (most : ℕ) (old now : Option (List ℕ)) (more : List Run) (n : ℕ) : Type 0 where
  pub read : IfSome now (Before text old more n)
  pub only : (r : Run) (rs : List Run) (tail : List ℕ) → StandApart 0 (r ∷ rs) → AllBelow most (r ∷ rs) → EndsField tail →
      old ≡ Some (runs_text text (r ∷ rs) ++ tail) → Ahead text most (r ∷ rs) more n now tail

pub none_read : (text : ℕ → List ℕ) (most : ℕ) (old : Option (List ℕ)) → RunsRead text most old old [] 0
none_read text most old = record {
  read = reads old;
  only = λ r rs tail apart below ends e. record { next = r; others = rs; is = refl; apart = apart; below = below; left = e };
}
  where
    reads : (o : Option (List ℕ)) → IfSome o (Before text o [] 0)
    reads None = tt
    reads (Some x) = λ r rs tail apart e. record { apart = apart; spelled = ap (λ (y : List ℕ). Some y) e }

-- After a run comes the text of further ones, or none.
abbrev pub After : (ℕ → List ℕ) → Option (List ℕ) → List Run → ℕ → List ℕ → Type 0
After text old more n now = (rs : List Run) (tail : List ℕ) → StandApart n rs → now ≡ more_text text rs ++ tail → Whole text old (more ++ rs) tail

pub record Behind (text : ℕ → List ℕ) (most : ℕ) (all more : List Run) (n : ℕ) (now : Option (List ℕ)) (tail : List ℕ) : Type 0 where
  pub others : List Run
  pub is : all ≡ more ++ others
  pub apart : StandApart n others
  pub below : AllBelow most others
  pub left : now ≡ Some (more_text text others ++ tail)

-- Runs were read, the last of them just now.
pub record OneMore (text : ℕ → List ℕ) (most : ℕ) (old mid : Option (List ℕ)) (more : List Run) (n : ℕ) : Type 0 where
  pub read : IfSome mid (After text old more n)
  pub only : (r : Run) (rs : List Run) (tail : List ℕ) → StandApart 0 (r ∷ rs) → AllBelow most (r ∷ rs) → EndsField tail →
      old ≡ Some (runs_text text (r ∷ rs) ++ tail) → Behind text most (r ∷ rs) more n mid tail

no_dash : (text : ℕ → List ℕ) (rs : List Run) (tail : List ℕ) → EndsField tail → NoDash (more_text text rs ++ tail)
no_dash text [] [] ends = tt
no_dash text [] (c ∷ cs) ends = λ q. omega arith
no_dash text (r ∷ rs) tail ends = λ q. absurd (omega arith)

-- No further run is next where a field ends.
no_comma : (tail x : List ℕ) → EndsField tail → tail ≡ 44 ∷ x → ⊥
no_comma [] x ends e = absurd (cc)
no_comma (c ∷ cs) x ends e = let z : c ≡ 44 = cc in omega arith

pub one_more : (text : ℕ → List ℕ) (most : ℕ) (old now mid : Option (List ℕ)) (more : List Run) (n m : ℕ) (run : Run) → most ≤ 4096 →
    RunsRead text most old now more n → RunRead text most n now mid run.first run.last → m ≡ run.last → m < most →
    OneMore text most old mid (more ++ run ∷ []) (m + 2)
one_more text most old now mid more n m run few h g is below = record {
  read = reads mid g.read g.order;
  only = λ r rs tail apart small ends q. went r rs tail ends (h.only r rs tail apart small ends q);
}
  where
    reads : (o : Option (List ℕ)) → IfSome o (λ r. now ≡ Some (run_text text run.first run.last ++ r)) → IfSome o (λ r. (n ≤ run.first) × (run.first ≤ run.last)) →
        IfSome o (After text old (more ++ run ∷ []) (m + 2))
    reads None a b = tt
    reads (Some x) a b = λ rs tail apart q.
        let begun : Before text old more n (run_text text run.first run.last ++ x) = at_some (Before text old more n) now _ h.read a in
        let after : StandApart (run.last + 2) rs = rw is at apart in
        let t : run_text text run.first run.last ++ x ≡ (run_text text run.first run.last ++ more_text text rs) ++ tail =
        ap (λ (y : List ℕ). run_text text run.first run.last ++ y) q ∙ sym (append_assoc (run_text text run.first run.last) (more_text text rs) tail) in
        subst (λ (y : List Run). Whole text old y tail) (sym (append_assoc more (run ∷ []) rs)) (begun run rs tail (b.0, b.1, omega (arith, is, below, few), after) t)

    went : (r : Run) (rs : List Run) (tail : List ℕ) → EndsField tail → Ahead text most (r ∷ rs) more n now tail →
        Behind text most (r ∷ rs) (more ++ run ∷ []) (m + 2) mid tail
    went r rs tail ends a = made (g.only a.next.first a.next.last (more_text text a.others ++ tail) a.apart.0 a.apart.1 a.below.0 (no_dash text a.others tail ends)
        (a.left ∙ ap (λ (y : List ℕ). Some y) (append_assoc (run_text text a.next.first a.next.last) (more_text text a.others) tail)))
      where
        made : (run.first ≡ a.next.first) × (run.last ≡ a.next.last) × (mid ≡ Some (more_text text a.others ++ tail)) →
            Behind text most (r ∷ rs) (more ++ run ∷ []) (m + 2) mid tail
        made p =
            let same : a.next ≡ run = run_is a.next run (sym p.0) (sym p.1) in
            let k : a.next.last + 2 ≡ m + 2 = (let q : run.last ≡ a.next.last = p.1 in omega (arith, is)) in
            record {
              others = a.others;
              is = a.is ∙ (ap (λ (y : Run). more ++ y ∷ a.others) same ∙ sym (append_assoc more (run ∷ []) a.others));
              apart = subst (λ (y : ℕ). StandApart y a.others) k a.apart.3;
              below = a.below.1;
              left = p.2;
            }

-- A further run follows.
pub going_on : (text : ℕ → List ℕ) (most : ℕ) (old now mid next : Option (List ℕ)) (more : List Run) (n m : ℕ) (run : Run) → most ≤ 4096 →
    RunsRead text most old now more n → RunRead text most n now mid run.first run.last → m ≡ run.last → m < most →
    IsSomeAnd next (λ r. mid ≡ Some (44 ∷ r)) → ((r : List ℕ) → mid ≡ Some (44 ∷ r) → (true ≡ true) × (next ≡ Some r)) →
    RunsRead text most old next (more ++ run ∷ []) (m + 2)
going_on text most old now mid None more n m run few h g is below took begins = absurd took
going_on text most old now mid (Some y) more n m run few h g is below took begins =
    let a : OneMore text most old mid (more ++ run ∷ []) (m + 2) = one_more text most old now mid more n m run few h g is below in
    record {
      read = λ r rs tail apart q. at_some (After text old (more ++ run ∷ []) (m + 2)) mid _ a.read took (r ∷ rs) tail apart (ap (λ (x : List ℕ). 44 ∷ x) q);
      only = λ r rs tail apart small ends q. let b = a.only r rs tail apart small ends q in went (r ∷ rs) tail ends b.others b.is b.apart b.below b.left;
    }
  where
    went : (all : List Run) (tail : List ℕ) → EndsField tail → (others : List Run) → all ≡ (more ++ run ∷ []) ++ others → StandApart (m + 2) others →
        AllBelow most others → mid ≡ Some (more_text text others ++ tail) → Ahead text most all (more ++ run ∷ []) (m + 2) (Some y) tail
    went all tail ends [] here apart small left = absurd (no_comma tail y ends (cc))
    went all tail ends (r ∷ rs) here apart small left =
        record { next = r; others = rs; is = here; apart = apart; below = small; left = (begins (runs_text text (r ∷ rs) ++ tail) left).1 }

-- No further run follows: what was read is the text of the runs.
pub whole_read : (text : ℕ → List ℕ) (old : Option (List ℕ)) (more : List Run) (n : ℕ) (r : List ℕ) → After text old more n r →
    StandApart 0 more × (old ≡ Some (runs_text text more ++ r))
whole_read text old more n r f =
    let w : Whole text old more r = subst (λ (x : List Run). Whole text old x r) (append-nil more) (f [] r tt refl) in (w.apart, w.spelled)

-- Words that were read, and their runs that were added to others.
pub record WordsRead (old now : Option (List ℕ)) (before runs : List Run) (n : ℕ) : Type 0 where
  more : List Run
  is : runs ≡ before ++ more
  read : RunsRead octal_text 4096 old now more n

pub no_words_read : (old : Option (List ℕ)) (before : List Run) → WordsRead old old before before 0
no_words_read old before = record { more = []; is = sym (append-nil before); read = none_read octal_text 4096 old }

one_pushed : (before runs new more : List Run) (run : Run) → runs ≡ before ++ more → new ≡ runs ++ run ∷ [] → new ≡ before ++ (more ++ run ∷ [])
one_pushed before runs new more run is e = e ∙ (ap (λ (x : List Run). x ++ run ∷ []) is ∙ append_assoc before more (run ∷ []))

pub words_go_on : (old now mid next : Option (List ℕ)) (before runs new : List Run) (n m : ℕ) (run : Run) → WordsRead old now before runs n →
    RunRead octal_text 4096 n now mid run.first run.last → m ≡ run.last → m < 4096 → new ≡ runs ++ run ∷ [] →
    IsSomeAnd next (λ r. mid ≡ Some (44 ∷ r)) → ((r : List ℕ) → mid ≡ Some (44 ∷ r) → (true ≡ true) × (next ≡ Some r)) →
    WordsRead old next before new (m + 2)
words_go_on old now mid next before runs new n m run h g is below e took begins = record {
  more = h.more ++ run ∷ [];
  is = one_pushed before runs new h.more run h.is e;
  read = going_on octal_text 4096 old now mid next h.more n m run (omega arith) h.read g is below took begins;
}

-- What a call says that reads a set with a word and adds its runs.
pub record AllRead (old now : Option (List ℕ)) (before runs : List Run) : Type 0 where
  pub front : Begins before runs
  pub read : IfSome now (λ r. (has_some (added before runs) ≡ true) × (old ≡ Some (marks octal_text 4096 (added before runs) ++ r)))
  pub only : (s : Words) (tail : List ℕ) → length before ≤ 4096 → has_some s ≡ true → EndsField tail → old ≡ Some (marks octal_text 4096 s ++ tail) →
      (now ≡ Some tail) × (length runs ≤ length before + 2048)

-- The text of a set, by its runs.
pub by_runs : (text : ℕ → List ℕ) (n : ℕ) (old : Option (List ℕ)) (s : Words) (tail : List ℕ) (r : RunsOf text n s) → old ≡ Some (marks text n s ++ tail) →
    old ≡ Some (runs_text text (r.first ∷ r.more) ++ tail)
by_runs text n old s tail r e = e ∙ ap (λ (x : List ℕ). Some (x ++ tail)) r.marks_are

-- No further run.
pub ending : (old now mid next : Option (List ℕ)) (before runs new : List Run) (n m : ℕ) (run : Run) → WordsRead old now before runs n →
    RunRead octal_text 4096 n now mid run.first run.last → m ≡ run.last → m < 4096 → new ≡ runs ++ run ∷ [] → next ≡ mid →
    ((r : List ℕ) → mid ≡ Some (44 ∷ r) → (false ≡ true) × (next ≡ Some r)) → AllRead old next before new
ending old now mid next before runs new n m run h g is below e same none = rw same (record {
  front = (more, placed);
  read = reads mid a.read;
  only = λ s tail room full ends q. let r : RunsOf octal_text 4096 s = word_runs s full in
      let b = a.only r.first r.more tail r.apart r.below ends (by_runs octal_text 4096 old s tail r q) in all s tail r room b.others b.is b.left;
})
  where
    more : List Run
    more = h.more ++ run ∷ []

    placed : new ≡ before ++ more
    placed = one_pushed before runs new h.more run h.is e

    a : OneMore octal_text 4096 old mid more (m + 2)
    a = one_more octal_text 4096 old now mid h.more n m run (omega arith) h.read g is below

    alike : added before new ≡ set_of_runs more
    alike = ap set_of_runs (ap (drop (length before)) placed ∙ drop_at before more (length before) refl)

    some : (front : List Run) (last : Run) → StandApart 0 (front ++ last ∷ []) → has_some (set_of_runs (front ++ last ∷ [])) ≡ true
    some [] last w = some_runs 0 last [] w
    some (r ∷ rs) last w = some_runs 0 r (rs ++ last ∷ []) w

    reads : (o : Option (List ℕ)) → IfSome o (After octal_text old more (m + 2)) →
        IfSome o (λ r. (has_some (added before new) ≡ true) × (old ≡ Some (marks octal_text 4096 (added before new) ++ r)))
    reads None f = tt
    reads (Some r) f =
        let w = whole_read octal_text old more (m + 2) r f in
        rw alike (some h.more run w.0, w.1 ∙ ap (λ (x : List ℕ). Some (x ++ r)) (sym (text_of more w.0)))

    all : (s : Words) (tail : List ℕ) (r : RunsOf octal_text 4096 s) → length before ≤ 4096 → (others : List Run) → r.first ∷ r.more ≡ more ++ others →
        mid ≡ Some (more_text octal_text others ++ tail) → (mid ≡ Some tail) × (length new ≤ length before + 2048)
    all s tail r room (x ∷ xs) here left = absurd (false≢true (none _ left).0)
    all s tail r room [] here left =
        let few : 2 * length (r.first ∷ r.more) + 0 ≤ 4097 = few_apart 0 (r.first ∷ r.more) (omega arith) r.apart in
        let l : length new ≡ length before + length more = ap length placed ∙ length-append before more in
        let k : length (r.first ∷ r.more) ≡ length more = ap length (here ∙ append-nil more) in
        (left, omega (arith, few, l, k))

-- There was no room for a run.
pub no_room : (old now next : Option (List ℕ)) (before runs : List Run) (n : ℕ) → WordsRead old now before runs n → length runs ≡ 6144 → next ≡ None →
    AllRead old next before runs
no_room old now next before runs n h full none = rw none (record {
  front = (h.more, h.is);
  read = tt;
  only = λ s tail room some ends q. let r : RunsOf octal_text 4096 s = word_runs s some in
      absurd (too_many s tail r room (h.read.only r.first r.more tail r.apart r.below ends (by_runs octal_text 4096 old s tail r q)));
})
  where
    too_many : (s : Words) (tail : List ℕ) (r : RunsOf octal_text 4096 s) → length before ≤ 4096 → Ahead octal_text 4096 (r.first ∷ r.more) h.more n now tail → ⊥
    too_many s tail r room a =
        let few : 2 * length (r.first ∷ r.more) + 0 ≤ 4097 = few_apart 0 (r.first ∷ r.more) (omega arith) r.apart in
        let l : length runs ≡ length before + length h.more = ap length h.is ∙ length-append before h.more in
        let k : length (r.first ∷ r.more) ≡ length h.more + length (a.next ∷ a.others) = ap length a.is ∙ length-append h.more (a.next ∷ a.others) in
        omega (arith, few, l, k, full)

-- How much is left.
abbrev pub how_long : Option (List ℕ) → ℕ
how_long None = 0
how_long (Some r) = length r + 1

pub shorter : (text : ℕ → List ℕ) (now mid next : Option (List ℕ)) (low high : ℕ) → IfSome mid (λ r. now ≡ Some (run_text text low high ++ r)) →
    IsSomeAnd next (λ r. mid ≡ Some (44 ∷ r)) → how_long next < how_long now
shorter text now mid None low high a b = absurd b
shorter text now None (Some r) low high a b = absurd (cc)
shorter text None (Some y) (Some r) low high a b = absurd (cc)
shorter text (Some x) (Some y) (Some r) low high a b =
    let e : y ≡ 44 ∷ r = cc in
    let f : x ≡ run_text text low high ++ y = cc in
    let g : length y ≡ suc (length r) = ap length e in
    let k : length x ≡ length (run_text text low high ++ y) = ap length f in
    omega (arith, length-append (run_text text low high) y)

-- What was left is left.
pub as_is : {P : Type 0} (o : Option (List ℕ)) → P → IfSome o (λ r. (o ≡ Some r) × P)
as_is None p = tt
as_is (Some r) p = (refl, p)

-- The text of a set with a word begins with a digit.
pub first_digit : (s : Words) → RunsOf octal_text 4096 s → (tail r : List ℕ) → set_text s ++ tail ≡ 45 ∷ r → ⊥
first_digit s f tail r e =
    let first : Run = f.first in
    let m : runs_text octal_text (f.first ∷ f.more) ++ tail ≡ 45 ∷ r = rw f.text_is at e in
    let z : 48 + f.first.first / 512 ≡ 45 = cc in omega arith

-- What a call that reads a set says.
pub record FieldRead (old now : Option (List ℕ)) (before runs : List Run) : Type 0 where
  pub read : IfSome now (λ r. old ≡ Some (set_text (added before runs) ++ r))
  pub only : (s : Words) (tail : List ℕ) → length before ≤ 4096 → EndsField tail → old ≡ Some (set_text s ++ tail) →
      (now ≡ Some tail) × (length runs ≤ length before + 2048)

-- A dash.
pub dash_read : (old now : Option (List ℕ)) (before : List Run) → IsSomeAnd now (λ r. old ≡ Some (45 ∷ r)) →
    ((r : List ℕ) → old ≡ Some (45 ∷ r) → (true ≡ true) × (now ≡ Some r)) → FieldRead old now before before
dash_read old now before took begins = record { read = reads now took; only = only }
  where
    none : (v : ℕ) → added before before v ≡ false
    none v = ap (λ (rs : List Run). set_of_runs rs v) (drop_all (length before) before (omega arith)) ∙ no_run v

    reads : (o : Option (List ℕ)) → IsSomeAnd o (λ r. old ≡ Some (45 ∷ r)) → IfSome o (λ r. old ≡ Some (set_text (added before before) ++ r))
    reads None a = tt
    reads (Some r) a = rw (empty_text (added before before) (λ v h. none v)) a

    dashed : (o : Option (List ℕ)) → IsSomeAnd o (λ r. old ≡ Some (45 ∷ r)) → (s : Words) (tail : List ℕ) → RunsOf octal_text 4096 s → old ≡ Some (set_text s ++ tail) → ⊥
    dashed None a s tail full q = absurd a
    dashed (Some r) a s tail full q = first_digit s full tail r (cc)

    only : (s : Words) (tail : List ℕ) → length before ≤ 4096 → EndsField tail → old ≡ Some (set_text s ++ tail) →
        (now ≡ Some tail) × (length before ≤ length before + 2048)
    only s tail room ends q = elim (by_words s) [
      | inl full ↦ absurd (dashed now took s tail full q)
      | inr empty ↦ ((begins tail (rw (empty_text s empty) at q)).1, omega arith)
    ]

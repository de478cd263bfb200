-- A set of offsets read run by run.
use Rattle.std.proofs.Common.{◌≡◌, ℕ, ◌+◌, ◌/◌, ◌<◌, ◌&&◌, ◌||◌, true, false, List, [], ◌∷◌, ◌++◌, Option, Some, None, refl, ap, ◌∙◌, sym, inl, inr, arith}
use Rattle.std.specs.Prelude.{IfSome, nat_le}
use Rattle.std.specs.Option.{IsSomeAnd}
use Rattle.std.proofs.lemmas.Bool.{true≢false, false≢true, cases_lt, cases_Bool, le-ltb}
use Rattle.wordset.specs.Words.{Words, nothing, some_below}
use Rattle.wordset.proofs.Tests.{some_from, some_none_of}
use Rattle.domain.specs.Offsets.{offsets_in}
use Rattle.domain.specs.declared.return_offsets.ReturnOffsets.{ReturnOffsets}
use Rattle.certificate_lines.specs.FieldSpelling.{marks, rank_text, offset_set_text}
use Rattle.certificate_lines.specs.RisingLists.{EndsBefore}
use Rattle.certificate_lines.specs.FieldsLeft.{EndsField}
use Rattle.certificate_lines.specs.declared.runs.Run.{Run}
use Rattle.certificate_lines.specs.Runs.{joined, StandApart}
use Rattle.certificate_lines.specs.Fields.{with_run}
use Rattle.certificate_lines.proofs.PackedLemmas.{joined_more}
use Rattle.certificate_lines.proofs.ApartLemmas.{more_text, runs_text, in_first}
use Rattle.certificate_lines.proofs.SetLemmas.{text_below, RunsOf, offset_runs, no_offset_text}
use Rattle.certificate_lines.proofs.RunLemmas.{RunRead, RunsRead, none_read, After, OneMore, one_more, going_on, whole_read, by_runs}

-- Offsets that were read, which are those of some runs.
pub record OffsetsSofar (old now : Option (List ℕ)) (s : Words) (n : ℕ) : Type 0 where
  more : List Run
  is : (v : ℕ) → s v ≡ joined nothing more v
  read : RunsRead rank_text 64 old now more n

pub none_yet : (old : Option (List ℕ)) (s : Words) → s ≡ nothing → OffsetsSofar old old s 0
none_yet old s none = record { more = []; is = λ v. ap (λ (f : Words). f v) none; read = none_read rank_text 64 old }

put_in : (s t : Words) (more : List Run) (run : Run) → ((v : ℕ) → s v ≡ joined nothing more v) → ((v : ℕ) → t v ≡ with_run run.first run.last s v) →
    (v : ℕ) → t v ≡ joined nothing (more ++ run ∷ []) v
put_in s t more run is e v = e v ∙ (ap (λ b. b || (nat_le run.first v && nat_le v run.last)) (is v) ∙ sym (ap (λ (f : Words). f v) (joined_more nothing more run)))

-- A further run follows.
pub go_on : (old now mid next : Option (List ℕ)) (s t : Words) (n : ℕ) (run : Run) → OffsetsSofar old now s n → run.last < 64 →
    RunRead rank_text 64 n now mid run.first run.last → ((v : ℕ) → t v ≡ with_run run.first run.last s v) →
    IsSomeAnd next (λ r. mid ≡ Some (44 ∷ r)) → ((r : List ℕ) → mid ≡ Some (44 ∷ r) → (true ≡ true) × (next ≡ Some r)) →
    OffsetsSofar old next t (run.last + 2)
go_on old now mid next s t n run h below g e took begins = record {
  more = h.more ++ run ∷ [];
  is = put_in s t h.more run h.is e;
  read = going_on rank_text 64 old now mid next h.more n run.last run (omega arith) h.read g refl below took begins;
}

-- What a call says that reads offsets of which there is one at least.
pub record OffsetsRead (old now : Option (List ℕ)) (s : Words) : Type 0 where
  pub read : IfSome now (λ r. (some_below 64 s ≡ true) × (old ≡ Some (marks rank_text 64 s ++ r)))
  pub only : (t : Words) (tail : List ℕ) → some_below 64 t ≡ true → EndsBefore 64 t → EndsField tail → old ≡ Some (marks rank_text 64 t ++ tail) → now ≡ Some tail

-- No further run.
pub ending : (old now mid next : Option (List ℕ)) (s t : Words) (n : ℕ) (run : Run) → OffsetsSofar old now s n → run.last < 64 →
    RunRead rank_text 64 n now mid run.first run.last → ((v : ℕ) → t v ≡ with_run run.first run.last s v) → EndsBefore 64 t → next ≡ mid →
    ((r : List ℕ) → mid ≡ Some (44 ∷ r) → (false ≡ true) × (next ≡ Some r)) → OffsetsRead old next t
ending old now mid next s t n run h below g e end same none = rw same (record {
  read = reads mid a.read;
  only = λ u tail full last ends q. let r : RunsOf rank_text 64 u = offset_runs u last full in
      let b = a.only r.first r.more tail r.apart r.below ends (by_runs rank_text 64 old u tail r q) in all tail b.others b.left;
})
  where
    more : List Run
    more = h.more ++ run ∷ []

    is : (v : ℕ) → t v ≡ joined nothing more v
    is = put_in s t h.more run h.is e

    a : OneMore rank_text 64 old mid more (run.last + 2)
    a = one_more rank_text 64 old now mid h.more n run.last run (omega arith) h.read g refl below

    there : (v : ℕ) → t v ≡ true → some_below 64 t ≡ true
    there v is = elim (cases_lt v 64) [ inl small ↦ some_from 64 t v small is | inr past ↦ absurd (true≢false (sym is ∙ end v past)) ]

    first : (front : List Run) (last : Run) → StandApart 0 (front ++ last ∷ []) → ((v : ℕ) → t v ≡ joined nothing (front ++ last ∷ []) v) → some_below 64 t ≡ true
    first [] last w is = there last.first (is last.first ∙ in_first last [] last.first (omega arith) w.1)
    first (r ∷ rs) last w is = there r.first (is r.first ∙ in_first r (rs ++ last ∷ []) r.first (omega arith) w.1)

    reads : (o : Option (List ℕ)) → IfSome o (After rank_text old more (run.last + 2)) →
        IfSome o (λ r. (some_below 64 t ≡ true) × (old ≡ Some (marks rank_text 64 t ++ r)))
    reads None f = tt
    reads (Some r) f =
        let w = whole_read rank_text old more (run.last + 2) r f in
        (first h.more run w.0 is, w.1 ∙ ap (λ (x : List ℕ). Some (x ++ r)) (sym (text_below rank_text 64 t more (omega arith) (λ v i j. end v i) w.0 (λ v i. is v))))

    all : (tail : List ℕ) → (others : List Run) → mid ≡ Some (more_text rank_text others ++ tail) → mid ≡ Some tail
    all tail (x ∷ xs) left = absurd (false≢true (none _ left).0)
    all tail [] left = left

-- Offsets that are kept are below 100 octal.
pub end_of : (o : ReturnOffsets) → EndsBefore 64 (offsets_in o)
end_of o v past = rw (le-ltb v 64 past) refl

-- A set of offsets by its runs, or a dash.
pub record SetRead (old now : Option (List ℕ)) (s : Words) : Type 0 where
  pub read : IfSome now (λ r. old ≡ Some (offset_set_text s ++ r))
  pub only : (t : Words) (tail : List ℕ) → EndsBefore 64 t → EndsField tail → old ≡ Some (offset_set_text t ++ tail) → now ≡ Some tail

some_text : (t : Words) → some_below 64 t ≡ true → offset_set_text t ≡ marks rank_text 64 t
some_text t e = rw e refl

pub dash_read : (old now : Option (List ℕ)) (s : Words) → s ≡ nothing → IsSomeAnd now (λ r. old ≡ Some (45 ∷ r)) →
    ((r : List ℕ) → old ≡ Some (45 ∷ r) → (true ≡ true) × (now ≡ Some r)) → SetRead old now s
dash_read old None s none took begins = absurd took
dash_read old (Some x) s none took begins = record { read = rw (empty s (λ v h. ap (λ (f : Words). f v) none)) took; only = only }
  where
    empty : (t : Words) → ((v : ℕ) → v < 64 → t v ≡ false) → offset_set_text t ≡ 45 ∷ []
    empty t h = no_offset_text t (some_none_of 64 t h)

    digit : (t : Words) (tail : List ℕ) → EndsBefore 64 t → some_below 64 t ≡ true → old ≡ Some (offset_set_text t ++ tail) → ⊥
    digit t tail end full e =
        let r : RunsOf rank_text 64 t = offset_runs t end full in
        let f : old ≡ Some (runs_text rank_text (r.first ∷ r.more) ++ tail) = rw r.text_is at e in
        let z : 48 + r.first.first / 8 ≡ 45 = cc in omega arith

    only : (t : Words) (tail : List ℕ) → EndsBefore 64 t → EndsField tail → old ≡ Some (offset_set_text t ++ tail) → Some x ≡ Some tail
    only t tail end ends e = elim (cases_Bool (some_below 64 t)) [
      | inl full ↦ absurd (digit t tail end full e)
      | inr none ↦ (begins tail (rw (no_offset_text t none) at e)).1
    ]

pub set_read : (old mid now : Option (List ℕ)) (s : Words) → mid ≡ old → ((r : List ℕ) → old ≡ Some (45 ∷ r) → (false ≡ true) × (mid ≡ Some r)) →
    OffsetsRead mid now s → SetRead old now s
set_read old mid now s same none g = record {
  read = reads now g.read;
  only = λ t tail end ends e. elim (cases_Bool (some_below 64 t)) [
    | inl full ↦ g.only t tail full end ends (same ∙ (rw (some_text t full) at e))
    | inr empty ↦ absurd (false≢true (none tail (rw (no_offset_text t empty) at e)).0)
  ];
}
  where
    reads : (o : Option (List ℕ)) → IfSome o (λ r. (some_below 64 s ≡ true) × (mid ≡ Some (marks rank_text 64 s ++ r))) → IfSome o (λ r. old ≡ Some (offset_set_text s ++ r))
    reads None h = tt
    reads (Some r) h = sym same ∙ (h.1 ∙ ap (λ (x : List ℕ). Some (x ++ r)) (sym (some_text s h.0)))

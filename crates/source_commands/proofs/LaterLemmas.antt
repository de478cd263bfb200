-- Sources after the one that is refused.
use Rattle.std.proofs.Common.{ℕ, zero, suc, ◌≡◌, ◌+◌, ◌-◌, ◌<◌, ◌≤◌, Bool, true, false, ◌||◌, List, [], ◌∷◌, map, take, drop, length, slice_set, arith, refl, zero-add, sym, ◌∙◌, ap, inl, inr}
use Rattle.std.specs.Prelude.{Option, Some, IfSome, Result, Ok, Err, slice_get}
use Rattle.std.specs.List.{AllByRecursion, list_any}
use Rattle.std.proofs.lemmas.Bool.{cases_lt}
use Rattle.std.proofs.lemmas.List.{drop-set-lt, take-map, take-set, length-map}
use Rattle.std.proofs.lemmas.Option.{slice_get_within}
use Rattle.command_parts.specs.Faults.{fails_to_read}
use Rattle.command_parts.proofs.AnswerLemmas.{reads_alike, refused, same_fault}
use Rattle.command_parts.specs.declared.status.Fault.{Fault}
use Rattle.source_commands.specs.SourceTexts.{AreRead, HasLeft, IsShort, IsLongAt, LeavesThoseAfter, ReadsParts}
use Rattle.source_commands.proofs.SourceLemmas.{AreEnded}
use Rattle.source_commands.proofs.PartLemmas.{short_sources}

nothing_left : {S : Type 0} (n : ℕ) → ◌≡◌ {A = List S} (drop n []) []
nothing_left zero = refl
nothing_left (suc n) = refl

later_by : {S : Type 0} (n m : ℕ) (s : S) (ss : List S) → drop (n + m) ss ≡ drop (suc n + m) (s ∷ ss)
later_by n m s ss = let next : suc n + m ≡ suc (n + m) = omega arith in rw next refl

-- what is dropped in two steps
dropped : {S : Type 0} (n m : ℕ) (ss : List S) → drop m (drop n ss) ≡ drop (n + m) ss
dropped zero m ss = rw (zero-add m) refl
dropped (suc n) m [] = nothing_left m ∙ sym (nothing_left (suc n + m))
dropped (suc n) m (s ∷ ss) = dropped n m ss ∙ later_by n m s ss

later_same : {S : Type 0} (ss os : List S) (i at : ℕ) → i ≤ at → drop i ss ≡ drop i os → drop (at + 1) ss ≡ drop (at + 1) os
later_same ss os i at within same =
    let sum : i + (at + 1 - i) ≡ at + 1 = omega (arith, within) in
    ap (λ k. drop k ss) (sym sum) ∙ sym (dropped i (at + 1 - i) ss) ∙ ap (drop (at + 1 - i)) same ∙ dropped i (at + 1 - i) os ∙ ap (λ k. drop k os) sum

-- the source that is read last leaves those after it as they were
later_set : {S : Type 0} (ss os : List S) (i at : ℕ) (new : S) → i ≤ at → drop i ss ≡ drop i os → LeavesThoseAfter at os (slice_set ss i new)
later_set ss os i at new within same = drop-set-lt (at + 1) ss i new (omega (arith, within)) ∙ later_same ss os i at within same

-- none of the sources that were read is too long,
short_there : (xs : List (Option (List ℕ))) (i at : ℕ) (part : List ℕ) → AllByRecursion (λ source. IfSome source IsShort) (take i xs) →
    at < i → slice_get xs at ≡ Some (Some part) → IsShort part
short_there xs zero at part all within there = absurd (omega (arith, within))
short_there [] (suc i) at part all within there = cc
short_there (x ∷ xs) (suc i) zero part all within there =
    let is : x ≡ Some part = cc in (rw is at all.0)
short_there (x ∷ xs) (suc i) (suc at) part all within there = short_there xs i at part all.1 (omega (arith, within)) there

-- and no read of them failed
unmarked_there : (bs : List Bool) (i at : ℕ) → list_any (λ b. b) (take i bs) ≡ false → at < i → slice_get bs at ≡ Some true → ⊥
unmarked_there bs zero at none within there = absurd (omega (arith, within))
unmarked_there [] (suc i) at none within there = cc
unmarked_there (true ∷ bs) (suc i) at none within there = cc
unmarked_there (false ∷ bs) (suc i) zero none within there = cc
unmarked_there (false ∷ bs) (suc i) (suc at) none within there = unmarked_there bs i at none (omega (arith, within)) there

marks_of : {S : Type 0} (mark : S → Bool) (ss : List S) → list_any (λ b. b) (map mark ss) ≡ list_any mark ss
marks_of mark [] = refl
marks_of mark (s ∷ ss) = ap (λ b. mark s || b) (marks_of mark ss)

unmarked : {S : Type 0} (mark : S → Bool) (ss : List S) (i at : ℕ) → list_any mark (take i ss) ≡ false → at < i → slice_get (map mark ss) at ≡ Some true → ⊥
unmarked mark ss i at none within there =
    unmarked_there (map mark ss) i at (ap (list_any (λ b. b)) (take-map mark i ss) ∙ marks_of mark (take i ss) ∙ none) within there

not_long : {S V : Type 0} (remaining : S → Option (List ℕ)) (items : V → List ℕ) (os : List S) (i at : ℕ) (vs : List V) →
    AreRead (map remaining (take i os)) (map items vs) → AllByRecursion IsShort (map items vs) → at < i → IsLongAt (map remaining os) at → ⊥
not_long remaining items os i at vs reads all within long =
    let shorts : AllByRecursion (λ source. IfSome source IsShort) (take i (map remaining os)) =
    rw (take-map remaining i os) (short_sources (map remaining (take i os)) (map items vs) reads all) in
    let short = short_there (map remaining os) i at long.part shorts within long.there in
    let is = long.long in
    omega (arith, short, is)

-- those after one that is too long are as they were,
pub unread_long : {S V : Type 0} (remaining : S → Option (List ℕ)) (items : V → List ℕ) (ss os : List S) (i : ℕ) (new : S) (vs : List V) (at : ℕ) →
    AreRead (map remaining (take i os)) (map items vs) → AllByRecursion IsShort (map items vs) → drop i ss ≡ drop i os →
    IsLongAt (map remaining os) at → LeavesThoseAfter at os (slice_set ss i new)
unread_long remaining items ss os i new vs at reads all same long = elim (cases_lt at i) [
  | inl before ↦ absurd (not_long remaining items os i at vs reads all before long)
  | inr past ↦ later_set ss os i at new past same
]

-- and so are those after one whose read failed
pub unread_failed : {S : Type 0} (mark : S → Bool) (ss os : List S) (i : ℕ) (new : S) (at : ℕ) → i < length ss →
    list_any mark (take i ss) ≡ false → drop i ss ≡ drop i os → slice_get (map mark (slice_set ss i new)) at ≡ Some true → LeavesThoseAfter at os (slice_set ss i new)
unread_failed mark ss os i new at within none same there = elim (cases_lt at i) [
  | inl before ↦ absurd (unmarked mark (slice_set ss i new) i at (ap (list_any mark) (take-set ss i new) ∙ none) before there)
  | inr past ↦ later_set ss os i at new past same
]

-- nothing is left of the sources that were read,
ended_there : (xs ys : List (Option (List ℕ))) (i at : ℕ) (part : List ℕ) (next : ℕ) (more : List ℕ) → AreEnded (take i xs) (take i ys) → at < i →
    slice_get xs at ≡ Some (Some part) → slice_get ys at ≡ Some (Some (next ∷ more)) → ⊥
ended_there xs ys zero at part next more all within there still = absurd (omega (arith, within))
ended_there [] ys (suc i) at part next more all within there still = cc
ended_there (x ∷ xs) [] (suc i) at part next more all within there still = cc
ended_there (x ∷ xs) (y ∷ ys) (suc i) zero part next more all within there still =
    let had : x ≡ Some part = cc in
    let has : y ≡ Some (next ∷ more) = cc in
    let none : next ∷ more ≡ [] = (rw (had, has) at all.0) in
    cc
ended_there (x ∷ xs) (y ∷ ys) (suc i) (suc at) part next more all within there still = ended_there xs ys i at part next more all.1 (omega (arith, within)) there still

not_left : {S : Type 0} (remaining : S → Option (List ℕ)) (ss os : List S) (i at : ℕ) → AreEnded (map remaining (take i os)) (map remaining (take i ss)) → at < i →
    HasLeft (map remaining os) (map remaining ss) at → ⊥
not_left remaining ss os i at all within has =
    ended_there (map remaining os) (map remaining ss) i at has.part has.next has.more (rw (take-map remaining i os, take-map remaining i ss) all) within has.there has.still

-- and the sources after one that has some bytes left are as they were
pub unread_left : {S : Type 0} (remaining : S → Option (List ℕ)) (ss os : List S) (i : ℕ) (new : S) (at : ℕ) →
    AreEnded (map remaining (take i os)) (map remaining (take i ss)) → drop i ss ≡ drop i os →
    HasLeft (map remaining os) (map remaining (slice_set ss i new)) at → LeavesThoseAfter at os (slice_set ss i new)
unread_left remaining ss os i new at all same has = elim (cases_lt at i) [
  | inl before ↦ (let kept : AreEnded (map remaining (take i os)) (map remaining (take i (slice_set ss i new))) = rw (take-set ss i new) all in absurd (not_left remaining (slice_set ss i new) os i at kept before has))
  | inr past ↦ later_set ss os i at new past same
]

pub left_whole : {S : Type 0} (remaining : S → Option (List ℕ)) (ss os : List S) (i at : ℕ) → length os ≤ i → AreEnded (map remaining (take i os)) (map remaining (take i ss)) →
    HasLeft (map remaining os) (map remaining ss) at → LeavesThoseAfter at os ss
left_whole remaining ss os i at past all has =
    let is : at < length (map remaining os) = slice_get_within (map remaining os) at (Some has.part) has.there in
    let within : at < i = omega (arith, is, past, length-map os remaining) in
    absurd (not_left remaining ss os i at all within has)

-- and the same holds when all sources are read, since none of them is too long then
pub read_whole : {S V : Type 0} (remaining : S → Option (List ℕ)) (items : V → List ℕ) (ss os : List S) (i : ℕ) (vs : List V) (at : ℕ) →
    length os ≤ i → AreRead (map remaining (take i os)) (map items vs) → AllByRecursion IsShort (map items vs) →
    IsLongAt (map remaining os) at → LeavesThoseAfter at os ss
read_whole remaining items ss os i vs at past reads all long =
    let there : at < length (map remaining os) = slice_get_within (map remaining os) at (Some long.part) long.there in
    let within : at < i = omega (arith, there, past, length-map os remaining) in
    absurd (not_long remaining items os i at vs reads all within long)

pub marked_whole : {S : Type 0} (mark : S → Bool) (ss os : List S) (i at : ℕ) → length ss ≤ i → list_any mark (take i ss) ≡ false →
    slice_get (map mark ss) at ≡ Some true → LeavesThoseAfter at os ss
marked_whole mark ss os i at past none there =
    let is : at < length (map mark ss) = slice_get_within (map mark ss) at true there in
    let within : at < i = omega (arith, is, past, length-map ss mark) in
    absurd (unmarked mark ss i at none within there)

-- a fault of reading is that of the command too
pub parts_refused : {S T U : Type 0} {mark : S → Bool} {remaining : S → Option (List ℕ)} {old new : List S} {f : Fault} →
    ReadsParts {T = T} mark remaining old new (Err f) → ReadsParts {T = U} mark remaining old new (Err f)
parts_refused {T = T} {U = U} {f = f} reads = record {
  marks = reads.marks ∙ reads_alike T U f;
  number = λ bad. (ap (refused U) (same_fault T f _ (reads.number bad).0), (reads.number bad).1);
  unread = reads.unread;
  unread_after_failure = reads.unread_after_failure;
  unread_after = reads.unread_after;
  takes = reads.takes;
}

no_fault : {T : Type 0} (x : T) (f : Fault) → ◌≡◌ {A = Result T Fault} (Ok x) (Err f) → ⊥
no_fault x f is = cc

-- once all parts are read, the command does not say that a read failed
pub parts_read : {S T U : Type 0} {mark : S → Bool} {remaining : S → Option (List ℕ)} {old new : List S} {x : T} {result : Result U Fault} →
    fails_to_read result ≡ false → ReadsParts {T = T} mark remaining old new (Ok x) → ReadsParts {T = U} mark remaining old new result
parts_read {x = x} fine reads = record {
  marks = reads.marks ∙ sym fine;
  number = λ bad. absurd (no_fault x _ (reads.number bad).0);
  unread = reads.unread;
  unread_after_failure = reads.unread_after_failure;
  unread_after = reads.unread_after;
  takes = reads.takes;
}

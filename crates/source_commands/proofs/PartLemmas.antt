-- The sizes of parts, and which read failed.
use Rattle.std.proofs.Common.{ℕ, ◌≡◌, ◌+◌, ◌<◌, ◌≤◌, Bool, true, false, ◌||◌, if◌then◌else◌, List, [], ◌∷◌, ◌++◌, map, take, drop, get_or, length, slice_set, refl, sym, ◌∙◌, ap, subst, arith, inl, inr}
use Rattle.std.specs.Prelude.{Option, Some, None, Err, IfSome, slice_get, option_map}
use Rattle.std.specs.List.{AllByRecursion, list_any}
use Rattle.std.proofs.Math.Bool.{or-false}
use Rattle.std.proofs.Math.Seq.{split_at}
use Rattle.std.proofs.lemmas.Bool.{lt-ltb, le-ltb, cases_lt}
use Rattle.std.proofs.lemmas.List.{map-append, length-append, length-take-le, length-take, take_all, take_more_set, take-map, length-map, drop_more, get_or-set_same, length-set, set_split}
use Rattle.std.proofs.lemmas.List.Folds.{list_any-append}
use Rattle.std.proofs.lemmas.Option.{slice_get-map, slice_get-get_or}
use Rattle.std.specs.Io.KnownBytes.{Consumes, IsAtEnd}
use Rattle.streams.specs.Bytes.{Gave}
use Rattle.pal_acts.specs.declared.fault_code.FaultCode.TheVariants.{TooLong}
use Rattle.pal_asm.specs.Sources.{fault_at, first_long, size_fault}
use Rattle.pal_asm.specs.declared.fault.PalFault.{PalFault}
use Rattle.source_commands.specs.SourceTexts.{AreRead, IsShort, is_bad_number, FailsToReadPart, IsPartFault, ArePartsFault, IsLong}
use Rattle.command_parts.specs.Faults.{fails_to_read}
use Rattle.command_parts.specs.declared.status.Fault.{Fault}
use Rattle.command_parts.specs.declared.status.Fault.TheVariants.{Tape, EmptyImage, Source, Declared, Certificate, Events, Guess, Declare, Device}
use Rattle.command_parts.specs.declared.status.Fault.TheVariants as fault
use Rattle.command_parts.specs.declared.status.DeviceFault.TheVariants.{Read, Write}

pub all_push : {X : Type 0} (P : X → Type 0) (xs : List X) (x : X) → AllByRecursion P xs → P x → AllByRecursion P (xs ++ x ∷ [])
all_push P [] x all last = (last, tt)
all_push P (y ∷ ys) x all last = (all.0, all_push P ys x all.1 last)

pub none_marked : {S : Type 0} (mark : S → Bool) (ss : List S) → AllByRecursion (λ s. mark s ≡ false) ss → list_any mark ss ≡ false
none_marked mark [] all = refl
none_marked mark (s ∷ ss) all = rw all.0 (none_marked mark ss all.1)

-- if no read failed before or after this source, the source says whether one failed
pub one_tells : {S : Type 0} (mark : S → Bool) (ss : List S) (i : ℕ) (new : S) → i < length ss →
    list_any mark (take i ss) ≡ false → AllByRecursion (λ s. mark s ≡ false) (drop i ss) → list_any mark (slice_set ss i new) ≡ mark new
one_tells mark ss i new within before after =
    let rest = drop (ℕ.suc i) ss in
    let later : AllByRecursion (λ s. mark s ≡ false) (drop (i + 1) ss) = (subst (AllByRecursion (λ s. mark s ≡ false)) (drop_more ss i new within) after).1 in
    let next : i + 1 ≡ ℕ.suc i = omega arith in
    let none : list_any mark rest ≡ false = subst (λ k. list_any mark (drop k ss) ≡ false) next (none_marked mark (drop (i + 1) ss) later) in
    ap (list_any mark) (set_split ss i new within) ∙ list_any-append mark (take i ss) (new ∷ rest)
    ∙ ap (λ b. b || list_any mark (new ∷ rest)) before ∙ ap (λ b. mark new || b) none ∙ or-false (mark new)

-- and if none failed up to and including this source, none did among those read so far
pub none_more : {S : Type 0} (mark : S → Bool) (ss : List S) (i : ℕ) (new : S) → i < length ss →
    list_any mark (take i ss) ≡ false → mark new ≡ false → list_any mark (take (i + 1) (slice_set ss i new)) ≡ false
none_more mark ss i new within before good =
    ap (list_any mark) (take_more_set ss i new within) ∙ list_any-append mark (take i ss) (new ∷ [])
    ∙ ap (λ b. b || list_any mark (new ∷ [])) before ∙ ap (λ b. b || false) good

short_source : (x : Option (List ℕ)) (y : List ℕ) → IfSome x (λ bytes. y ≡ bytes) → IsShort y → IfSome x IsShort
short_source None y is short = tt
short_source (Some bytes) y is short = subst IsShort is short

-- bytes that were read up to one more than the limit are all the bytes, if there are no more than the limit
all_of : (bytes text : List ℕ) (most : ℕ) → text ≡ take (most + 1) bytes → length text ≤ most → text ≡ bytes
all_of bytes text most is short = elim (cases_lt most (length bytes)) [
  | inl long ↦ (let taken : length (take (most + 1) bytes) ≡ most + 1 = length-take-le (most + 1) bytes (omega arith) in let same : length text ≡ length (take (most + 1) bytes) = ap length is in absurd (omega (arith, taken, same, short)))
  | inr fits ↦ is ∙ take_all (most + 1) bytes (omega arith)
]

pub whole : (had : Option (List ℕ)) (text : List ℕ) (most : ℕ) → IfSome had (λ bytes. text ≡ take (most + 1) bytes) → length text ≤ most → IfSome had (λ bytes. text ≡ bytes)
whole None text most is short = tt
whole (Some bytes) text most is short = all_of bytes text most is short

-- and then the source has nothing left
front_ends : (bytes text rest : List ℕ) → text ≡ bytes → bytes ≡ text ++ rest → rest ≡ []
front_ends bytes [] rest is taken = sym taken ∙ sym is
front_ends bytes (c ∷ text) rest is taken = nothing_more (c ∷ text) rest (ap length (is ∙ taken) ∙ length-append (c ∷ text) rest)
  where
    nothing_more : (front rest : List ℕ) → length front ≡ length front + length rest → rest ≡ []
    nothing_more front [] e = refl
    nothing_more front (b ∷ rest) e = absurd (omega (arith, e))

pub at_end : (had left : Option (List ℕ)) (text : List ℕ) (most : ℕ) → IfSome had (λ bytes. text ≡ take (most + 1) bytes) → Consumes had left text → length text ≤ most →
    IfSome had (λ _. IsAtEnd left)
at_end None left text most is taken short = tt
at_end (Some bytes) None text most is taken short = absurd taken
at_end (Some bytes) (Some rest) text most is taken short = front_ends bytes text rest (all_of bytes text most is short) taken

-- a part that is longer than the limit
pub long_text : (had : Option (List ℕ)) (text : List ℕ) → IfSome had (λ bytes. text ≡ take 65537 bytes) → 65536 < length text → IsLong had
long_text None text is long = record { part = text; is = tt; long = long }
long_text (Some bytes) text is long = record {
  part = bytes;
  is = refl;
  long = let same : length text ≡ length (take 65537 bytes) = ap length is in let most = length-take 65537 bytes in omega (arith, same, most, long);
}

-- sources whose parts are short are short
pub short_sources : (xs : List (Option (List ℕ))) (ys : List (List ℕ)) → AreRead xs ys → AllByRecursion IsShort ys → AllByRecursion (λ source. IfSome source IsShort) xs
short_sources [] [] reads all = tt
short_sources [] (y ∷ ys) reads all = absurd reads
short_sources (x ∷ xs) [] reads all = absurd reads
short_sources (x ∷ xs) (y ∷ ys) reads all = (short_source x y reads.0 all.0, short_sources xs ys reads.1 all.1)

there_of : {S X : Type 0} (f : S → X) (ss : List S) (i : ℕ) (d : S) → i < length ss → slice_get (map f ss) i ≡ Some (f (get_or ss i d))
there_of f ss i d within = slice_get-map f ss i ∙ ap (option_map f) (slice_get-get_or ss i d within)

same_there : {S : Type 0} (ss os : List S) (i : ℕ) (d : S) → i < length ss → i < length os → drop i ss ≡ drop i os → get_or ss i d ≡ get_or os i d
same_there ss os i d short within same = ap (λ l. get_or l 0 d) (sym (drop_more ss i d short) ∙ same ∙ drop_more os i d within)

-- the read of this part failed
fails_to_read_part : {S V : Type 0} (mark : S → Bool) (remaining : S → Option (List ℕ)) (items : V → List ℕ) (ss os : List S) (i : ℕ) (d new : S) (vs : List V) →
    i < length ss → i < length os → drop i ss ≡ drop i os → is_bad_number (length os) ≡ false →
    AreRead (map remaining (take i os)) (map items vs) → AllByRecursion IsShort (map items vs) →
    mark new ≡ true → Gave (remaining (get_or ss i d)) (remaining new) IsShort →
    FailsToReadPart (map mark (slice_set ss i new)) (map remaining os) (map remaining (slice_set ss i new))
fails_to_read_part mark remaining items ss os i d new vs short within same number reads all marked gave =
    let long : i < length (slice_set ss i new) = omega (arith, length-set ss i new) in
    let is : get_or (slice_set ss i new) i new ≡ new = get_or-set_same ss i new new short in
    record {
      at = i;
      failed = there_of mark (slice_set ss i new) i new long ∙ ap (λ s. Some (mark s)) is ∙ ap Some marked;
      number = ap is_bad_number (length-map os remaining) ∙ number;
      before = rw (take-map remaining i os) (short_sources (map remaining (take i os)) (map items vs) reads all);
      had = remaining (get_or os i d);
      there = there_of remaining os i d within;
      has = remaining new;
      still = there_of remaining (slice_set ss i new) i new long ∙ ap (λ s. Some (remaining s)) is;
      gave = subst (λ s. Gave (remaining s) (remaining new) IsShort) (same_there ss os i d short within same) gave;
    }

-- what is read from a source if nothing prevents it
part_of : Option (List ℕ) → List ℕ
part_of None = []
part_of (Some bytes) = bytes

of_source : (x : Option (List ℕ)) → IfSome x (λ bytes. part_of x ≡ bytes)
unfolding part_of
of_source None = tt
of_source (Some bytes) = refl

all_read : (xs : List (Option (List ℕ))) → AreRead xs (map part_of xs)
all_read [] = tt
all_read (x ∷ xs) = (of_source x, all_read xs)

read_both : (xs : List (Option (List ℕ))) (ys : List (List ℕ)) (vs : List (Option (List ℕ))) (ws : List (List ℕ)) →
    AreRead xs ys → AreRead vs ws → AreRead (xs ++ vs) (ys ++ ws)
read_both [] [] vs ws reads more = more
read_both [] (y ∷ ys) vs ws reads more = absurd reads
read_both (x ∷ xs) [] vs ws reads more = absurd reads
read_both (x ∷ xs) (y ∷ ys) vs ws reads more = (reads.0, read_both xs ys vs ws reads.1 more)

as_many : (xs : List (Option (List ℕ))) (ys : List (List ℕ)) → AreRead xs ys → length ys ≡ length xs
as_many [] [] reads = refl
as_many [] (y ∷ ys) reads = absurd reads
as_many (x ∷ xs) [] reads = absurd reads
as_many (x ∷ xs) (y ∷ ys) reads = ap ℕ.suc (as_many xs ys reads.1)

first_after : (n : ℕ) (ys : List (List ℕ)) (y : List ℕ) (rest : List (List ℕ)) → AllByRecursion IsShort ys → 65536 < length y →
    first_long n (ys ++ y ∷ rest) ≡ Some (fault_at TooLong (n + length ys) 0)
first_after n [] y rest all long = rw (lt-ltb 65536 (length y) long) (ap (λ (m : ℕ). Some (fault_at TooLong m 0)) (omega arith))
first_after n (x ∷ ys) y rest all long =
    rw (le-ltb 65536 (length x) all.0) (first_after (n + 1) ys y rest all.1 long ∙ ap (λ (m : ℕ). Some (fault_at TooLong m 0)) (omega arith))

told_first : (b : Bool) (x y : Option PalFault) → b ≡ true → (if b then x else y) ≡ x
told_first b x y is = ap (λ c. if c then x else y) is

told_second : (b : Bool) (x y : Option PalFault) → b ≡ false → (if b then x else y) ≡ y
told_second b x y is = ap (λ c. if c then x else y) is

bad_size : (parts : List (List ℕ)) → is_bad_number (length parts) ≡ true → size_fault parts ≡ Some (fault_at TooLong 0 0)
bad_size parts bad = told_first _ _ _ bad

long_size : (n : ℕ) (parts : List (List ℕ)) → is_bad_number (length parts) ≡ false → first_long 1 parts ≡ Some (fault_at TooLong n 0) → size_fault parts ≡ Some (fault_at TooLong n 0)
long_size n parts good long = told_second _ _ _ good ∙ long

-- a wrong number of parts is a fault of the parts
pub bad_number : {S : Type 0} (remaining : S → Option (List ℕ)) (marks : List Bool) (left : List (Option (List ℕ))) (os : List S) → is_bad_number (length os) ≡ true →
    ArePartsFault marks (map remaining os) left (Source (fault_at TooLong 0 0))
bad_number remaining marks left os bad =
    let many : length (map part_of (map remaining os)) ≡ length os = length-map (map remaining os) part_of ∙ length-map os remaining in
    (map part_of (map remaining os), all_read (map remaining os), bad_size (map part_of (map remaining os)) (ap is_bad_number many ∙ bad))

-- this part is too long
long_part : {S V : Type 0} (remaining : S → Option (List ℕ)) (items : V → List ℕ) (marks : List Bool) (left : List (Option (List ℕ))) (os : List S) (i : ℕ) (d : S) (vs : List V) (part : List ℕ) →
    i < length os → is_bad_number (length os) ≡ false →
    AreRead (map remaining (take i os)) (map items vs) → AllByRecursion IsShort (map items vs) →
    IfSome (remaining (get_or os i d)) (λ bytes. part ≡ bytes) → 65536 < length part →
    ArePartsFault marks (map remaining os) left (Source (fault_at TooLong (length vs + 1) 0))
long_part remaining items marks left os i d vs part within number reads all is long =
    let later = map remaining (drop (ℕ.suc i) os) in
    let parts = map items vs ++ part ∷ map part_of later in
    let whole : map remaining os ≡ map remaining (take i os) ++ remaining (get_or os i d) ∷ later =
    ap (map remaining) (split_at os i d within) ∙ map-append remaining (take i os) (get_or os i d ∷ drop (ℕ.suc i) os) in
    let read : AreRead (map remaining os) parts =
    rw whole (read_both (map remaining (take i os)) (map items vs) (remaining (get_or os i d) ∷ later) (part ∷ map part_of later) reads (is, all_read later)) in
    let many : length parts ≡ length os = as_many (map remaining os) parts read ∙ length-map os remaining in
    let first : first_long 1 parts ≡ Some (fault_at TooLong (length vs + 1) 0) =
    first_after 1 (map items vs) part (map part_of later) all long ∙ ap (λ (m : ℕ). Some (fault_at TooLong m 0)) (omega (arith, length-map vs items)) in
    (parts, read, long_size (length vs + 1) parts (ap is_bad_number many ∙ number) first)

-- why there are no parts, if this one cannot be read
pub parts_fault : (T : Type 0) {S V : Type 0} (mark : S → Bool) (remaining : S → Option (List ℕ)) (items : V → List ℕ) (ss os : List S) (i : ℕ) (d new : S) (vs : List V) (f : Fault) →
    i < length ss → i < length os → drop i ss ≡ drop i os → is_bad_number (length os) ≡ false →
    AreRead (map remaining (take i os)) (map items vs) → AllByRecursion IsShort (map items vs) →
    mark new ≡ fails_to_read {T = T} (Err f) → IsPartFault (length vs + 1) (remaining (get_or ss i d)) (remaining new) f →
    ArePartsFault (map mark (slice_set ss i new)) (map remaining os) (map remaining (slice_set ss i new)) f
parts_fault T mark remaining items ss os i d new vs (Tape x) short within same number reads all marked is = is
parts_fault T mark remaining items ss os i d new vs EmptyImage short within same number reads all marked is = is
parts_fault T mark remaining items ss os i d new vs (Source x) short within same number reads all marked is =
    let held = is.1 in
    rw is.0 (long_part remaining items (map mark (slice_set ss i new)) (map remaining (slice_set ss i new)) os i d vs held.part within number reads all
    (subst (λ s. IfSome (remaining s) (λ bytes. held.part ≡ bytes)) (same_there ss os i d short within same) held.is) held.long)
parts_fault T mark remaining items ss os i d new vs (Declared x) short within same number reads all marked is = is
parts_fault T mark remaining items ss os i d new vs (Certificate x) short within same number reads all marked is = is
parts_fault T mark remaining items ss os i d new vs (Events x) short within same number reads all marked is = is
parts_fault T mark remaining items ss os i d new vs (Guess x) short within same number reads all marked is = is
parts_fault T mark remaining items ss os i d new vs (Declare x) short within same number reads all marked is = is
parts_fault T mark remaining items ss os i d new vs (Device Read) short within same number reads all marked is =
    fails_to_read_part mark remaining items ss os i d new vs short within same number reads all marked is
parts_fault T mark remaining items ss os i d new vs (Device Write) short within same number reads all marked is = is
parts_fault T mark remaining items ss os i d new vs fault.NoMemory short within same number reads all marked is = ap is_bad_number (length-map os remaining) ∙ number

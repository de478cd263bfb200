-- The text of a line of any version while it is written.
use Rattle.std.proofs.Common.{◌≡◌, ℕ, ◌+◌, ◌-◌, ◌<◌, ◌≤◌, ◌==◌, ◌||◌, true, false, List, [], ◌∷◌, ◌++◌, length, map, take, drop, zero, suc, subst, get_or, Option, Some, refl, ap, ◌∙◌, sym, inl, inr, arith, append_assoc, append-nil}
use Rattle.std.specs.Prelude.{codes, flat_map, slice_range, IsTrue}
use Rattle.std.proofs.lemmas.Bool.{false≢true, cases_lt, cases_Bool, eq-eqb, ne_eqb}
use Rattle.std.proofs.lemmas.List.{take_all, take_more, drop_all, map_push}
use Rattle.std.proofs.lemmas.List.Concat.{flat_map-append}
use Rattle.word12.specs.Words.{octal_text}
use Rattle.wordset.specs.Words.{Words, some_below, minus}
use Rattle.wordset.proofs.Tests.{some_none_of, none_of_some}
use Rattle.domain.specs.ChainsInCode.{step_of}
use Rattle.domain.specs.declared.chains.Step.{Step}
use Rattle.std.specs.Io.KnownBytes.{Appends}
use Rattle.streams.specs.Bytes.{AppendsFront}
use Rattle.streams.proofs.BytesLemmas.{front_after}
use Rattle.certificate_lines.specs.declared.Version.{Version}
use Rattle.certificate_lines.specs.RisingLists.{Each}
use Rattle.certificate_lines.specs.FieldSpelling.{begins, ends, mark, marks, digits, rank_text, offset_set_text, offsets_text, ended}
use Rattle.certificate_lines.specs.Lines.{Line}
use Rattle.certificate_lines.specs.Spelled.{all_ended}
use Rattle.certificate_lines.specs.LineText.{Adds}
use Rattle.certificate_lines.specs.Spelling.{coefficient_text, step_text, line_text}
use Rattle.certificate_lines.specs.Fields.{third_text}
use Rattle.certificate.proofs.SpelledLemmas.{joined, none, front_more}
use Rattle.certificate_lines.proofs.SetLemmas.{marks_more}

-- Offsets looked through one by one.
pub none_yet : (s : Words) (v : ℕ) → v < 0 → s v ≡ false
none_yet s v h = absurd (omega arith)

pub none_more : (s : Words) (n : ℕ) → ((v : ℕ) → v < n → s v ≡ false) → s n ≡ false → (v : ℕ) → v < n + 1 → s v ≡ false
none_more s n h e v small = elim (cases_lt v n) [
  | inl a ↦ h v a
  | inr b ↦ (let z : v ≡ n = omega arith in rw z e)
]

pub none_at_all : (s : Words) (m n : ℕ) → m ≤ n → ((v : ℕ) → v < n → s v ≡ false) → false ≡ some_below m s
none_at_all s m n le h = sym (some_none_of m s (λ v a. h v (omega arith)))

-- Offsets written one by one.
pub mark_none : (s : Words) (a : ℕ) → begins s a ≡ false → ends s a ≡ false → mark rank_text s a ≡ []
mark_none s a e f = rw (e, f) refl

marks_none : (s : Words) → marks rank_text 0 s ≡ []
unfolding marks
marks_none s = refl

pub marks_begun : (old : List ℕ) (s : Words) → Adds old old (marks rank_text 0 s)
marks_begun old s = rw (marks_none s) (none old)

pub mark_written : (old now new : List ℕ) (s : Words) (n : ℕ) → Adds old now (marks rank_text n s) → Adds now new (mark rank_text s n) → Adds old new (marks rank_text (n + 1) s)
mark_written old now new s n h k = rw (marks_more rank_text n s) (joined old now new (marks rank_text n s) (mark rank_text s n) h k)

pub marks_done : (old now : List ℕ) (s : Words) (n : ℕ) → 64 ≤ n → n ≤ 64 → (((o : ℕ) → o < 64 → s o ≡ false) → IsTrue false) → Adds old now (marks rank_text n s) → Adds old now (offset_set_text s)
marks_done old now s n a b some h = elim (cases_Bool (some_below 64 s)) [
  | inl t ↦ (let e : n ≡ 64 = omega arith in rw t (rw e at h))
  | inr f ↦ absurd (false≢true (some (λ o small. none_of_some 64 s f o small)))
]

pub no_digits : (s : Words) → some_below 8 s ≡ false → offsets_text s ≡ codes "-"
no_digits s e = rw e refl

pub some_digits : (s : Words) → some_below 8 s ≡ true → offsets_text s ≡ digits 8 s
some_digits s e = rw e refl

-- Coefficients with a sign.
pub plus_text : (c : ℕ) → c ≡ 1 → coefficient_text c ≡ codes "+"
plus_text c e = rw (eq-eqb c 1 e) refl

pub minus_text : (c : ℕ) → ((c == 1) || (c == 4095)) ≡ true → (c ≡ 1 → ⊥) → coefficient_text c ≡ codes "-"
minus_text c e lacks = let f : (c == 1) ≡ false = ne_eqb c 1 lacks in let g : (c == 4095) ≡ true = rw f at e in rw (f, g) refl

pub third_written : (old new : List ℕ) (c z : ℕ) → Adds old new (codes " " ++ coefficient_text (minus 0 c) ++ codes " " ++ octal_text z) → Adds old new (third_text c (Some z))
third_written old new c z h = rw (append-nil (codes " " ++ coefficient_text (minus 0 c) ++ codes " " ++ octal_text z)) h

-- Steps written one by one.
pub step_written : (old now new : List ℕ) (steps : List Step) (i : ℕ) (s : Step) → i < length steps → s ≡ get_or steps i s → Adds old now (flat_map step_text (map step_of (take i steps))) →
    Adds now new (step_text (step_of s)) → Adds old new (flat_map step_text (map step_of (take (i + 1) steps)))
step_written old now new steps i s h at a b = rw grown (joined old now new (flat_map step_text (map step_of (take i steps))) (step_text (step_of s)) a b)
  where
    grown : flat_map step_text (map step_of (take (i + 1) steps)) ≡ flat_map step_text (map step_of (take i steps)) ++ step_text (step_of s)
    grown =
        ap (λ (x : List Step). flat_map step_text (map step_of x)) (take_more steps i s h ∙ ap (λ (x : Step). take i steps ++ x ∷ []) (sym at)) ∙
        (ap (flat_map step_text) (map_push step_of (take i steps) s) ∙ (flat_map-append step_text (map step_of (take i steps)) (step_of s ∷ []) ∙
        ap (λ (x : List ℕ). flat_map step_text (map step_of (take i steps)) ++ x) (append-nil (step_text (step_of s)))))

pub steps_written : (old now : List ℕ) (steps : List Step) (i : ℕ) → length steps ≤ i → Adds old now (flat_map step_text (map step_of (take i steps))) → Adds old now (flat_map step_text (map step_of steps))
steps_written old now steps i h a = rw (take_all i steps h) at a

-- The text of a fact and of an exit, of which the sites and the registers are one part.
pub fact_written : (s w t : List ℕ) (o a b c d e : List ℕ) (x y z : List ℕ) → Adds o a x → Adds a b y → Adds b c (s ++ w) → Adds c d z → Adds d e t → Adds o e (x ++ y ++ s ++ w ++ z ++ t)
fact_written s w t o a b c d e x y z p q r u v =
    rw (← append_assoc (x ++ y) s w) at (joined o d e (x ++ y ++ (s ++ w) ++ z) t (joined o c d (x ++ y ++ (s ++ w)) z (joined o b c (x ++ y) (s ++ w) (joined o a b x y p q) r) u) v)

pub exit_written : (s w : List ℕ) (o a b c d e : List ℕ) (x y z k : List ℕ) → Adds o a x → Adds a b y → Adds b c z → Adds c d k → Adds d e (s ++ w) → Adds o e (x ++ y ++ z ++ k ++ s ++ w)
exit_written s w o a b c d e x y z k p q r u v =
    rw (← append_assoc (x ++ y ++ z ++ k) s w) at (joined o d e (x ++ y ++ z ++ k) (s ++ w) (joined o c d (x ++ y ++ z) k (joined o b c (x ++ y) z (joined o a b x y p q) r) u) v)

-- Lines that are written one after another, up to the one at a place n.
first_in_range : (ls : List Line) (i n : ℕ) (l : Line) → drop i ls ≡ l ∷ drop (i + 1) ls → i < n → slice_range ls i n ≡ l ∷ slice_range ls (i + 1) n
first_in_range ls i n l at more = let k : n - i ≡ suc (n - (i + 1)) = omega arith in ap (take (n - i)) at ∙ rw k refl

pub line_next : (v : Version) (ls : List Line) (i n : ℕ) (l : Line) (wrote all : List ℕ) → drop i ls ≡ l ∷ drop (i + 1) ls → i < n →
    wrote ++ all_ended v (slice_range ls i n) ≡ all → (wrote ++ ended (line_text v l)) ++ all_ended v (slice_range ls (i + 1) n) ≡ all
line_next v ls i n l wrote all at more so =
    append_assoc wrote (ended (line_text v l)) (all_ended v (slice_range ls (i + 1) n)) ∙
    (ap (λ (x : List Line). wrote ++ all_ended v x) (sym (first_in_range ls i n l at more)) ∙ so)

pub line_cut : (a b c : Option (List ℕ)) (v : Version) (ls : List Line) (i n : ℕ) (l : Line) (wrote all piece : List ℕ) → drop i ls ≡ l ∷ drop (i + 1) ls → i < n →
    wrote ++ all_ended v (slice_range ls i n) ≡ all → Appends a b wrote → piece ≡ ended (line_text v l) → AppendsFront b c piece → AppendsFront a c all
line_cut a b c v ls i n l wrote all piece at more so whole same front =
    subst (λ (x : List ℕ). AppendsFront a c x) (line_next v ls i n l wrote all at more so)
    (front_more a c (wrote ++ ended (line_text v l)) (all_ended v (slice_range ls (i + 1) n)) (front_after a b c wrote (ended (line_text v l)) whole (rw same at front)))

pub lines_done : (v : Version) (ls : List Line) (i n : ℕ) (wrote all : List ℕ) → n ≤ i → wrote ++ all_ended v (slice_range ls i n) ≡ all → wrote ≡ all
lines_done v ls i n wrote all h so = let k : n - i ≡ 0 = omega arith in sym (append-nil wrote) ∙ (rw k at so)

pub all_lines : (ls : List Line) (n : ℕ) → n ≡ length ls → slice_range ls 0 n ≡ ls
all_lines ls n e = let k : n - 0 ≡ n = omega arith in rw k (take_all n ls (omega (arith, e)))

-- What holds of each line holds of the one at a place.
pub each_line : (P : Line → Type 0) (ls : List Line) (i : ℕ) (l : Line) (rest : List Line) → Each P ls → drop i ls ≡ l ∷ rest → P l
each_line P [] zero l rest h e = absurd (cc)
each_line P [] (suc i) l rest h e = absurd (let z : [] ≡ l ∷ rest = sym (drop_all (suc i) [] (omega arith)) ∙ e in cc)
each_line P (x ∷ ls) zero l rest h e = let z : x ≡ l = cc in subst P z h.0
each_line P (x ∷ ls) (suc i) l rest h e = each_line P ls i l rest h.1 e

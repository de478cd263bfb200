-- What a certificate says of a routine that it does not list, and how its facts are counted.
use Rattle.std.proofs.Common.{◌≡◌, ℕ, ◌+◌, ◌<◌, ◌≤◌, Bool, true, false, Option, Some, None, List, [], ◌∷◌, length, drop, suc, refl, sym, ap, ◌∙◌, arith}
use Rattle.std.specs.Prelude.{nat_le}
use Rattle.std.specs.List.{list_all}
use Rattle.std.proofs.lemmas.Bool.{true≢false, and_parts}
use Rattle.wordset.specs.Words.{nothing}
use Rattle.certificate_lines.specs.FieldSpelling.{RoutineLine}
use Rattle.certificate_lines.specs.RisingLists.{Each}
use Rattle.certificate_lines.specs.LineOf.{is_relation, is_summand}
use Rattle.certificate_lines.specs.Lines.{Line}
use Rattle.certificate_lines.specs.Reading.{routine_at, is_listed, rank_in, sites_in, writes_in}
use Rattle.certificate_lines.specs.CertificateInCode.{Follows, HasShape as IsShaped}
use Rattle.domain.specs.Chains.{Chain}
use Rattle.domain.specs.ChainsInCode.{AreShort}
use Rattle.domain.specs.Facts.{Fact, Relation}
use Rattle.domain.specs.Shapes.{has_shape}
use Rattle.transfer.specs.Shaped.{HaveFewTerms}
use Rattle.facts.specs.Landing.{fact_at}
use Rattle.facts.proofs.KeepingLemmas.{shape_few}
use Rattle.facts.proofs.SplitLemmas.{fact_dropped}
use Rattle.judge.specs.Shapes.{HasShape}

-- nothing is said of a routine
pub record SaysNothing (ls : List Line) (e : ℕ) : Type 0 where
  pub rank : rank_in (routine_at ls e) ≡ 0
  pub sites : sites_in (routine_at ls e) ≡ nothing
  pub writes : writes_in (routine_at ls e) ≡ nothing

pub unlisted : (ls : List Line) (e : ℕ) → is_listed (routine_at ls e) ≡ false → SaysNothing ls e
unlisted ls e h = let r = go (routine_at ls e) h in record { rank = ap rank_in r; sites = ap sites_in r; writes = ap writes_in r }
  where
    go : (o : Option RoutineLine) → is_listed o ≡ false → o ≡ None
    go None h = refl
    go (Some r) h = absurd (true≢false h)

-- one fact more is counted
pub counted_more : (fs rest : List Fact) (n m : ℕ) → Follows fs rest → n + length fs ≡ m → n + 1 + length rest ≡ m
counted_more fs rest n m next so = let one : length fs ≡ suc (length rest) = ap length next.1 in omega (arith, one, so)

pub counted_all : (fs : List Fact) (n m : ℕ) → fs ≡ [] → n + length fs ≡ m → n ≡ m
counted_all fs n m none so = let zero : length fs ≡ 0 = ap length none in omega (arith, zero, so)

-- the shape of a fact
terms_few : (rs : List Relation) → Each (λ (r : Relation). is_relation r.sum ≡ true) rs → HaveFewTerms rs
terms_few [] h = tt
terms_few (r ∷ rs) h = (shape_few r.sum (shaped r h.0), terms_few rs h.1)
  where
    shaped : (q : Relation) → is_relation q.sum ≡ true → has_shape q.sum ≡ true
    shaped q s = let p = and_parts (nat_le 2 (length q.sum)) _ s in let t = and_parts (list_all is_summand q.sum) _ p.1 in (and_parts (has_shape q.sum) _ t.1).0

steps_short : (cs : List Chain) → Each (λ (c : Chain). length c.steps ≤ 16) cs → AreShort cs
steps_short [] h = tt
steps_short (c ∷ cs) h = (omega (arith, h.0), steps_short cs h.1)

pub has_shape_too : (f : Fact) → IsShaped f → HasShape f
has_shape_too f h = record { terms = terms_few f.relations h.relations; short = steps_short f.chains h.chains; few = h.few }

pub counted_none : (fs all : List Fact) → fs ≡ all → 0 + length fs ≡ length all
counted_none fs all is = let same : length fs ≡ length all = ap length is in omega (arith, same)

-- the fact at a place of the list, where those before it were passed
pub is_next : (fs rest xs : List Fact) (i : ℕ) (b : Bool) (f : Fact) → i < length fs → xs ≡ drop i fs → (b ≡ false → xs ≡ []) → (b ≡ true → xs ≡ f ∷ rest) → (b ≡ true) × (f ≡ fact_at fs i)
is_next fs rest xs i true f lt at none next = (refl, let e : f ∷ rest ≡ fact_at fs i ∷ drop (i + 1) fs = sym (next refl) ∙ (at ∙ fact_dropped fs i lt) in cc)
is_next fs rest xs i false f lt at none next = absurd (let e : [] ≡ fact_at fs i ∷ drop (i + 1) fs = sym (none refl) ∙ (at ∙ fact_dropped fs i lt) in cc)

pub passed : (fs rest xs : List Fact) (k : ℕ) (b : Bool) → k < length fs → xs ≡ drop k fs → (b ≡ false → xs ≡ []) → (b ≡ true → Follows xs rest) → rest ≡ drop (k + 1) fs
passed fs rest xs k true lt at none next = let n = next refl in let e : n.0 ∷ rest ≡ fact_at fs k ∷ drop (k + 1) fs = sym n.1 ∙ (at ∙ fact_dropped fs k lt) in cc
passed fs rest xs k false lt at none next = absurd (let e : [] ≡ fact_at fs k ∷ drop (k + 1) fs = sym (none refl) ∙ (at ∙ fact_dropped fs k lt) in cc)

-- whether there is one fact alone
pub none_there : (fs xs : List Fact) → xs ≡ fs → xs ≡ [] → length fs ≡ 1 → ⊥
none_there fs xs all none one = let zero : length fs ≡ 0 = ap length (sym all ∙ none) in omega (arith, zero, one)

pub one_there : (fs xs rest : List Fact) (f : Fact) → xs ≡ fs → xs ≡ f ∷ rest → rest ≡ [] → fs ≡ f ∷ []
one_there fs xs rest f all next none = sym all ∙ (next ∙ ap (λ (ys : List Fact). f ∷ ys) none)

pub two_there : (fs xs rest further : List Fact) (f : Fact) → xs ≡ fs → xs ≡ f ∷ rest → Follows rest further → length fs ≡ 1 → ⊥
two_there fs xs rest further f all next more one =
    let two : length fs ≡ suc (suc (length further)) = ap length (sym all ∙ (next ∙ ap (λ (ys : List Fact). f ∷ ys) more.1)) in omega (arith, two, one)

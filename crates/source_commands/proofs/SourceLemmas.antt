-- Sources that are read one after the other.
use Rattle.std.proofs.Common.{zero, suc, refl, ℕ, ◌≡◌, ◌+◌, ◌<◌, List, [], ◌∷◌, ◌++◌, map, take, drop, get_or, length, slice_set, arith, sym, ◌∙◌, ap, subst}
use Rattle.std.specs.Prelude.{Option, Some, None, IfSome}
use Rattle.std.specs.List.{AllByRecursion}
use Rattle.std.proofs.lemmas.List.{take_more, map-append, drop-set-lt, drop_more}
use Rattle.std.specs.Io.KnownBytes.{IsAtEnd}
use Rattle.command_parts.specs.Inputs.{TakesAtMost}
use Rattle.source_commands.specs.SourceTexts.{AreRead, EachTakesAtMost}

are_read_push : (xs : List (Option (List ℕ))) (ys : List (List ℕ)) (x : Option (List ℕ)) (y : List ℕ) →
    AreRead xs ys → IfSome x (λ bytes. y ≡ bytes) → AreRead (xs ++ x ∷ []) (ys ++ y ∷ [])
are_read_push [] [] x y reads is = (is, tt)
are_read_push [] (z ∷ ys) x y reads is = absurd reads
are_read_push (w ∷ xs) [] x y reads is = absurd reads
are_read_push (w ∷ xs) (z ∷ ys) x y reads is = (reads.0, are_read_push xs ys x y reads.1 is)

-- one more part was read
pub reads_next : {S V : Type 0} (remaining : S → Option (List ℕ)) (items : V → List ℕ) (ss os : List S) (i : ℕ) (d : S) (vs : List V) (v : V) →
    i < length ss → i < length os → drop i ss ≡ drop i os → AreRead (map remaining (take i os)) (map items vs) →
    IfSome (remaining (get_or ss i d)) (λ bytes. items v ≡ bytes) →
    AreRead (map remaining (take (i + 1) os)) (map items (vs ++ v ∷ []))
reads_next remaining items ss os i d vs v short within same reads is =
    let at : get_or ss i d ≡ get_or os i d = ap (λ l. get_or l 0 d) (sym (drop_more ss i d short) ∙ same ∙ drop_more os i d within) in
    rw (take_more os i d within, map-append remaining (take i os) (get_or os i d ∷ []), map-append items vs (v ∷ []))
    (are_read_push (map remaining (take i os)) (map items vs) (remaining (get_or os i d)) (items v) reads (subst (λ s. IfSome (remaining s) (λ bytes. items v ≡ bytes)) at is))

-- the sources after it are as they were
pub unmarked_next : {S : Type 0} (P : S → Type 0) (ss : List S) (i : ℕ) (new : S) → i < length ss → AllByRecursion P (drop i ss) → AllByRecursion P (drop (i + 1) (slice_set ss i new))
unmarked_next P ss i new within all =
    rw (drop-set-lt (i + 1) ss i new (omega arith)) ((subst (AllByRecursion P) (drop_more ss i new within) all).1)

pub same_next : {S : Type 0} (ss os : List S) (i : ℕ) (new : S) → i < length ss → i < length os → drop i ss ≡ drop i os → drop (i + 1) (slice_set ss i new) ≡ drop (i + 1) os
same_next ss os i new within short same =
    drop-set-lt (i + 1) ss i new (omega arith) ∙ ap (drop 1) (sym (drop_more ss i new within) ∙ same ∙ drop_more os i new short)

-- the sources that were read have nothing left, as far as their bytes are known
abbrev pub AreEnded : List (Option (List ℕ)) → List (Option (List ℕ)) → Type 0
AreEnded [] left = Unit {0}
AreEnded (had ∷ sources) [] = Unit {0}
AreEnded (had ∷ sources) (has ∷ left) = IfSome had (λ _. IsAtEnd has) × AreEnded sources left

ended_more : {S : Type 0} (remaining : S → Option (List ℕ)) (ss os : List S) (i : ℕ) (d new : S) → i < length ss → i < length os → drop i ss ≡ drop i os →
    AreEnded (map remaining (take i os)) (map remaining (take i ss)) → IfSome (remaining (get_or ss i d)) (λ _. IsAtEnd (remaining new)) →
    AreEnded (map remaining (take (suc i) os)) (map remaining (take (suc i) (slice_set ss i new)))
ended_more remaining [] os i d new short within same all ended = absurd (omega arith)
ended_more remaining (s ∷ ss) [] i d new short within same all ended = absurd (omega arith)
ended_more remaining (s ∷ ss) (o ∷ os) zero d new short within same all ended =
    (subst (λ x. IfSome (remaining x) (λ _. IsAtEnd (remaining new))) (ap (λ l. get_or l 0 d) same) ended, tt)
ended_more remaining (s ∷ ss) (o ∷ os) (suc i) d new short within same all ended =
    (all.0, ended_more remaining ss os i d new (omega arith) (omega arith) same all.1 ended)

pub ended_next : {S : Type 0} (remaining : S → Option (List ℕ)) (ss os : List S) (i : ℕ) (d new : S) → i < length ss → i < length os → drop i ss ≡ drop i os →
    AreEnded (map remaining (take i os)) (map remaining (take i ss)) → IfSome (remaining (get_or ss i d)) (λ _. IsAtEnd (remaining new)) →
    AreEnded (map remaining (take (i + 1) os)) (map remaining (take (i + 1) (slice_set ss i new)))
ended_next remaining ss os i d new short within same all ended =
    let next : suc i ≡ i + 1 = omega arith in
    subst (λ k. AreEnded (map remaining (take k os)) (map remaining (take k (slice_set ss i new)))) next (ended_more remaining ss os i d new short within same all ended)

-- nothing was taken from any source
untaken : (most : ℕ) (source : Option (List ℕ)) → TakesAtMost most source source
untaken most None = tt
untaken most (Some bytes) = ([], refl, omega arith)

pub none_taken : (most : ℕ) (sources : List (Option (List ℕ))) → EachTakesAtMost most sources sources
none_taken most [] = tt
none_taken most (source ∷ sources) = (untaken most source, none_taken most sources)

-- one more source was read
pub takes_next : {S : Type 0} (most : ℕ) (remaining : S → Option (List ℕ)) (ss os : List S) (i : ℕ) (d new : S) → i < length ss → i < length os → drop i ss ≡ drop i os →
    EachTakesAtMost most (map remaining os) (map remaining ss) → TakesAtMost most (remaining (get_or ss i d)) (remaining new) →
    EachTakesAtMost most (map remaining os) (map remaining (slice_set ss i new))
takes_next most remaining [] os i d new short within same each takes = absurd (omega arith)
takes_next most remaining (s ∷ ss) [] i d new short within same each takes = absurd (omega arith)
takes_next most remaining (s ∷ ss) (o ∷ os) zero d new short within same each takes =
    (subst (λ x. TakesAtMost most (remaining x) (remaining new)) (ap (λ l. get_or l 0 d) same) takes, each.1)
takes_next most remaining (s ∷ ss) (o ∷ os) (suc i) d new short within same each takes =
    (each.0, takes_next most remaining ss os i d new (omega arith) (omega arith) same each.1 takes)

-- The bytes that were read so far, and the source's.
use Rattle.std.proofs.Common.{ℕ, ◌≡◌, ◌<◌, ◌≤◌, ◌+◌, List, ◌++◌, length, take, sym, ◌∙◌, ap, arith, append-nil, length-append, length-take-le}
use Rattle.std.specs.Prelude.{Option, Some, None, IfSome}
use Rattle.std.specs.Io.KnownBytes.{Consumes, IsAtEnd}
use Rattle.std.proofs.lemmas.List.{take_all, take-append-le}
use Rattle.std.proofs.KnownBytes.{Consumes-trans}
use Rattle.streams.specs.Bytes.{Gave}

pub at_end : (old new : Option (List ℕ)) (text : List ℕ) (limit : ℕ) → Consumes old new text → IsAtEnd new → length text ≤ limit → IfSome old (λ bytes. text ≡ take limit bytes)
at_end None new text limit consumes ends within = tt
at_end (Some bytes) None text limit consumes ends within = absurd consumes
at_end (Some bytes) (Some rest) text limit consumes ends within =
    let whole : bytes ≡ text = consumes ∙ ap (λ (r : List ℕ). text ++ r) ends ∙ append-nil text in
    rw whole (sym (take_all limit text within))

pub full : (old new : Option (List ℕ)) (text : List ℕ) (limit : ℕ) → Consumes old new text → length text ≡ limit → IfSome old (λ bytes. text ≡ take limit bytes)
full None new text limit consumes is = tt
full (Some bytes) None text limit consumes is = absurd consumes
full (Some bytes) (Some rest) text limit consumes is =
    let within : limit ≤ length text = omega arith in
    let most : length text ≤ limit = omega arith in
    rw (consumes, take-append-le limit text rest within) (sym (take_all limit text most))

-- two parts that a source gave, one after the other, are bounded together
pub gave_two : (old middle new : Option (List ℕ)) (first piece : List ℕ) (count limit : ℕ) → Consumes old middle first → Consumes middle new (take count piece) → count ≤ length piece → length first + count ≤ limit → Gave old new (λ given. length given ≤ limit)
gave_two None middle new first piece count limit one two filled within = tt
gave_two (Some bytes) middle new first piece count limit one two filled within =
    let second : List ℕ = take count piece in
    let joined : length (first ++ second) ≤ limit = rw (length-append first second, length-take-le count piece filled) within in
    (first ++ second, Consumes-trans (Some bytes) middle new first second one two, joined)

-- and of two parts of which the second isn't empty, some byte came
pub gave_some : (old middle new : Option (List ℕ)) (first piece : List ℕ) (count : ℕ) → Consumes old middle first → Consumes middle new (take count piece) → count ≤ length piece → 0 < count → Gave old new (λ given. 0 < length given)
gave_some None middle new first piece count one two filled some = tt
gave_some (Some bytes) middle new first piece count one two filled some =
    let second : List ℕ = take count piece in
    let joined : 0 < length (first ++ second) = rw (length-append first second, length-take-le count piece filled) (omega arith) in
    (first ++ second, Consumes-trans (Some bytes) middle new first second one two, joined)

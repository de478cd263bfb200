-- What a source gave, and what it brings.
use Rattle.std.proofs.Common.{◌≡◌, ℕ, zero, suc, ◌+◌, ◌-◌, ◌<◌, ◌≤◌, List, [], ◌∷◌, ◌++◌, length, take, drop, ap, ◌∙◌, sym, arith, append_assoc, length-append, get_or, length-take-le}
use Rattle.std.specs.Prelude.{slice_index}
use Rattle.std.proofs.lemmas.List.{take_more, take-append-drop}
use Rattle.std.proofs.Math.Seq.{take-add}
use Rattle.certificate_lines.specs.LineFeeds.{NoFeed}

-- The bytes that were taken, and those after them.
pub piece_more : (before bytes : List ℕ) (i n : ℕ) → before ++ take i bytes ++ take n (drop i bytes) ≡ before ++ take (i + n) bytes
piece_more before bytes i n = append_assoc before (take i bytes) (take n (drop i bytes)) ∙ ap (λ (x : List ℕ). before ++ x) (sym (take-add i n bytes))

pub piece_rest : (before bytes : List ℕ) (i : ℕ) → before ++ take i bytes ++ drop i bytes ≡ before ++ bytes
piece_rest before bytes i = append_assoc before (take i bytes) (drop i bytes) ∙ ap (λ (x : List ℕ). before ++ x) (take-append-drop i bytes)

pub piece_length : (before piece : List ℕ) (n : ℕ) → n ≡ length before → n + length piece ≡ length (before ++ piece)
piece_length before piece n e = ap (λ k. k + length piece) e ∙ sym (length-append before piece)

pub piece_count : (before piece : List ℕ) (n i : ℕ) → i ≤ length piece → n ≡ length before → n + i ≡ length (before ++ take i piece)
piece_count before piece n i h e = sym (length-append before (take i piece) ∙ (ap (λ k. length before + k) (length-take-le i piece h) ∙ ap (λ k. k + i) (sym e)))

-- Bytes of which none is at a place of a line feed.
pub no_feed_before : (bytes : List ℕ) (n : ℕ) → ((k : ℕ) → k < n → (slice_index bytes k ≡ 10) → ⊥) → NoFeed (take n bytes)
no_feed_before [] zero none = tt
no_feed_before (b ∷ bytes) zero none = tt
no_feed_before [] (suc n) none = tt
no_feed_before (b ∷ bytes) (suc n) none = (none 0 (omega arith), no_feed_before bytes n (λ k h. none (suc k) (omega arith)))

-- A line after what was taken, with its line feed.
pub with_feed : (before bytes : List ℕ) (n : ℕ) → n < length bytes → get_or bytes n 0 ≡ 10 → before ++ take n bytes ++ 10 ∷ [] ≡ before ++ take (n + 1) bytes
with_feed before bytes n h e = append_assoc before (take n bytes) (10 ∷ []) ∙
    ap (λ (x : List ℕ). before ++ x) (ap (λ (b : ℕ). take n bytes ++ b ∷ []) (sym e) ∙ sym (take_more bytes n 0 h))

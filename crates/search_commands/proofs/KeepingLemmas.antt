-- Lines that are kept, line by line.
use Rattle.std.proofs.Common.{ℕ, ◌≡◌, ◌<◌, ◌+◌, ◌∷◌, ◌++◌, ◌==◌, ◌∙◌, List, [], true, false, inl, inr, length, refl, ap, subst, arith}
use Rattle.std.specs.Prelude.{codes}
use Rattle.std.specs.List.{list_all}
use Rattle.std.proofs.lemmas.List.{append-nil, length-append}
use Rattle.std.specs.Str.{bytes_eq}
use Rattle.std.proofs.lemmas.Slice.Eq.{bytes_eq-Decides}
use Rattle.search_commands.specs.Keeping.{AreAdded, Grows, HasLine, IsAdded, IsCommentOrEnd, IsMark, KeepsLine, KeepsLines, ends_word, first_line, is_spaced, is_spelling, mark, other_lines}
use Rattle.search_commands.specs.Keeping.Grows.{same, put, commented, marked}
use Rattle.search_commands.specs.Keeping.IsMark.{ranges, offsets}
use Rattle.search_commands.specs.Keeping.AreAdded.{none, more}
use Rattle.search_commands.specs.Keeping.KeepsLines.{unchanged, line, last, added}

-- nothing is left of a line but its comment, and the mark comes next
pub ends_marked : (left rest tail : List ℕ) → IsCommentOrEnd left → rest ≡ left ++ tail → IsMark tail → Grows left rest
ends_marked left rest tail (inl empty) e m = rw (e, empty) (marked tail m)
ends_marked left rest tail (inr (comment, is)) e m = rw (e, is) (commented comment tail m)

-- the first of what is left is a slash
pub comment_left : (left others : List ℕ) (first : ℕ) → left ≡ first ∷ others → first ≡ 47 → IsCommentOrEnd left
comment_left left others first e f = let P : ℕ → Type 0 = λ c. left ≡ c ∷ others in inr (others, subst P f e)

-- nothing is left
pub nothing_left : (left : List ℕ) → length left ≡ 0 → IsCommentOrEnd left
nothing_left [] e = inl refl
nothing_left (x ∷ xs) e = absurd (omega (arith, e))

-- no line is left
pub none_added : (text : List ℕ) → length text ≡ 0 → AreAdded text
none_added [] e = none
none_added (x ∷ xs) e = absurd (omega (arith, e))

-- none of the lines that are to be kept is left
pub only_added : (old new : List ℕ) → length old ≡ 0 → AreAdded new → KeepsLines old new
only_added [] new e are = added new are
only_added (x ∷ xs) new e are = absurd (omega (arith, e))

-- a text is unchanged
pub same_text : (old new : List ℕ) → bytes_eq old new ≡ true → KeepsLines old new
same_text old new e = let P : List ℕ → Type 0 = λ t. KeepsLines old t in subst P ((bytes_eq-Decides old new).0 e) (unchanged old)

-- a line is unchanged
pub same_line : (old new : List ℕ) → bytes_eq old new ≡ true → KeepsLine old new
same_line old new e = inl ((bytes_eq-Decides old new).0 e)

-- a word is inserted
pub put_in : (old new others front rest : List ℕ) → new ≡ 32 ∷ others → others ≡ front ++ rest → list_all is_spelling front ≡ true → ends_word old ≡ true → Grows old rest → Grows old new
put_in old new others front rest e f spelled ends h = rw (e, f) (put front old rest spelled ends h)

-- what is left of a line is shorter
pub put_shorter : (new others front rest : List ℕ) → new ≡ 32 ∷ others → others ≡ front ++ rest → length rest < length new
put_shorter new others front rest e f =
    let whole : length new ≡ length {A = ℕ} (32 ∷ others) = ap (λ (t : List ℕ). length t) e in
    let parts : length others ≡ length front + length rest = ap (λ (t : List ℕ). length t) f ∙ length-append front rest in
    omega (arith, whole, parts)

-- a byte is in both lines
pub both_stand : (left others right more : List ℕ) (first byte : ℕ) → left ≡ first ∷ others → right ≡ byte ∷ more → first ≡ byte → (byte == 47) ≡ false → Grows others more → Grows left right
both_stand left others right tail first byte e f same_byte slash h = rw (e, f, same_byte) (same byte others tail slash h)

-- one byte less is left
pub same_shorter : (right more : List ℕ) (byte : ℕ) → right ≡ byte ∷ more → length more < length right
same_shorter right tail byte e = let whole : length right ≡ length {A = ℕ} (byte ∷ tail) = ap (λ (t : List ℕ). length t) e in omega (arith, whole)

-- ranges are named
pub named_ranges : (text front rest : List ℕ) → text ≡ front ++ rest → length rest ≡ 0 → list_all is_spaced front ≡ true → IsMark (mark ++ text)
named_ranges text front [] e empty spaced = rw (e, append-nil front) (ranges front spaced)
named_ranges text front (x ∷ xs) e empty spaced = absurd (omega (arith, empty))

-- ranges and offsets are named
pub named_offsets : (text front rest behind : List ℕ) → text ≡ front ++ rest → rest ≡ codes "returns" ++ behind → list_all is_spaced front ≡ true → list_all is_spaced behind ≡ true → IsMark (mark ++ text)
named_offsets text front rest behind e f spaced others = rw (e, f) (offsets front behind spaced others)

-- a text that is equal to a mark is a mark
pub mark_of : (text named : List ℕ) → text ≡ mark ++ named → IsMark (mark ++ named) → IsMark text
mark_of text named e h = rw e h

-- one more added line
pub one_more_added : (text first rest : List ℕ) → HasLine text → first ≡ first_line text → rest ≡ other_lines text → IsAdded first → AreAdded rest → AreAdded text
one_more_added text first rest has e f is others = more text has (rw e at is) (rw f at others)

-- one more kept line
pub one_more_kept : (old new first rest first_of_new rest_of_new : List ℕ) → HasLine old → first ≡ first_line old → rest ≡ other_lines old
    → HasLine new → first_of_new ≡ first_line new → rest_of_new ≡ other_lines new → KeepsLine first first_of_new → KeepsLines rest rest_of_new → KeepsLines old new
one_more_kept old new a r b s has e f has' e' f' is others = line old new has has' (rw (e, e') at is) (rw (f, f') at others)

-- the last line of a text, which need not end with a line feed
pub last_kept : (old new first rest : List ℕ) → HasLine new → first ≡ first_line new → rest ≡ other_lines new → KeepsLine old first → AreAdded rest
    → KeepsLines old new
last_kept old new b s has e f is others = last old new has (rw e at is) (rw f at others)

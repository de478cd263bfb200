-- What is said of each outcome of a reading follows from what is known of it.
use Rattle.std.proofs.Common.{◌≡◌, ◌∙◌, sym, ap, refl, subst, inl, inr, ◌⊎◌, Result, Ok, Err, List, [], ◌∷◌, ◌++◌, ℕ, length, take, drop, arith}
use Rattle.std.proofs.lemmas.List.{take-append-drop, reverse-append}
use Rattle.std.specs.Prelude.{IfOk, IfErr, MatchResult, reverse}
use Rattle.std.specs.List.{AllByRecursion}
use Rattle.pal_text.specs.declared.tokens.Token.{Token}
use Rattle.pal_text.specs.declared.statement.Statement.{Statement}
use Rattle.pal_text.specs.declared.statement.Ending.{Ending}
use Rattle.pal_text.specs.declared.lines.Line.{Line}
use Rattle.pal_text.specs.declared.fault.TextFault.{TextFault}
use Rattle.pal_text.specs.declared.fault.TextFault.TheVariants.{Illegal, TooLong, NoMemory}
use Rattle.pal_text.specs.Names.{IsWithin, part_tokens}
use Rattle.pal_text.specs.Order.{IsOrdered}
use Rattle.pal_text.specs.Parts.{IsPart, IsIllegal, IsFault}
use Rattle.pal_text.proofs.Unique.{no_fault, one_line}
use Rattle.pal_text.proofs.Rises.{later, all_take, part_tokens_within, part_tokens_ordered}

pub matched : {X : Type 0} (r : Result X TextFault) (P Q : X → Type 0) (F G : TextFault → Type 0) → IfOk r P → IfErr r F → ((x : X) → P x → Q x) → ((e : TextFault) → F e → G e) → MatchResult r Q G
matched (Ok x) P Q F G ok err p f = p x ok
matched (Err e) P Q F G ok err p f = f e err

-- a part with a reading is refused for its length or for want of memory alone
pub silent : (source : List ℕ) (tokens : List Token) (ss : List Statement) (lines : List Line) (end : Ending) → IsPart source tokens ss lines end → (e : TextFault) → IsFault source e → (e ≡ TooLong) ⊎ (e ≡ NoMemory)
silent source tokens ss lines end h (Illegal n) f = absurd (no_fault source tokens ss lines end n h f)
silent source tokens ss lines end h TooLong f = inl refl
silent source tokens ss lines end h NoMemory f = inr refl

-- and one with a fault names no other line
pub tells_only : (source : List ℕ) (line : ℕ) → IsIllegal source line → (e : TextFault) → IsFault source e → (e ≡ Illegal line) ⊎ ((e ≡ TooLong) ⊎ (e ≡ NoMemory))
tells_only source line h (Illegal n) f = inl (ap Illegal (one_line source n line f h))
tells_only source line h TooLong f = inr (inl refl)
tells_only source line h NoMemory f = inr (inr refl)

pub ok_also : {X E : Type 0} (r : Result X E) (P Q : X → Type 0) → IfOk r P → ((x : X) → P x → Q x) → IfOk r Q
ok_also (Ok x) P Q h f = f x h
ok_also (Err e) P Q h f = tt

-- the tokens of a part stand within it and in order
pub within_by : (source : List ℕ) (tokens : List Token) (n : ℕ) → tokens ≡ take n (part_tokens source) → AllByRecursion (IsWithin (length source)) tokens
within_by source tokens n e = let P : List Token → Type 0 = λ ts. AllByRecursion (IsWithin (length source)) ts in subst P (sym e) (all_take (IsWithin (length source)) n (part_tokens source) (part_tokens_within source))

ordered_after : (n : ℕ) (xs ys : List Token) → IsOrdered n (xs ++ ys) → IsOrdered n ys
ordered_after n [] ys h = h
ordered_after n (x ∷ xs) ys h = later ys x.start n (omega (arith, h.0, h.1)) (ordered_after x.start xs ys h.2)

pub ordered_by : (source : List ℕ) (tokens : List Token) (n : ℕ) → tokens ≡ take n (part_tokens source) → IsOrdered (length source) (reverse tokens)
ordered_by source tokens n e =
    let ts : List Token = part_tokens source in
    let split : reverse ts ≡ reverse (drop n ts) ++ reverse (take n ts) = ap reverse (sym (take-append-drop n ts)) ∙ reverse-append (take n ts) (drop n ts) in
    let P : List Token → Type 0 = λ l. IsOrdered (length source) l in
    let Q : List Token → Type 0 = λ l. IsOrdered (length source) (reverse l) in
    subst Q (sym e) (ordered_after (length source) (reverse (drop n ts)) (reverse (take n ts)) (subst P split (part_tokens_ordered source)))

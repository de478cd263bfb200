-- To which cells a memory reference may refer, and what they may hold.
use Rattle.std.specs.Prelude.{ℕ, ◌+◌, Bool, not, ◌&&◌, ◌||◌, if◌then◌else◌, Option, Some, None}
use Rattle.wordset.specs.Words.{Words, all_words, one, some_below, shifted, only}
use Rattle.processor.specs.Machine.{steps_pointer}
use Rattle.declaration.specs.Declaration.{Declaration}
use Rattle.domain.specs.Locations.{Cell, is_routine, tape_word}
use Rattle.domain.specs.Terms.{Term, Holding, Behind}
use Rattle.domain.specs.Facts.{Fact, Place}
use Rattle.domain.specs.Narrowing.{words_known}
use Rattle.domain.specs.Moves.{counted}

-- The words that the running routine's entry may hold: a site, one more, and an offset.
abbrev pub own_words : Fact → Words
own_words f v = some_below 64 (λ o. f.offsets o && shifted f.sites (o + 1) v)

-- The words that a cell may hold in an operand or a pointer, H: a variable's words, the running routine's own return words,
-- any word in another entry, else the tape's word.
unfoldable pub words_in : Place → Fact → ℕ → Words
words_in pl f a =
    if pl.declaration.variable a then words_known pl f (Cell a)
    else (if is_routine pl.routine a then own_words f
    else (if pl.declaration.entry a then all_words
    else tape_word (pl.image a)))

-- The words possible at an address of a body, where no entry is.
unfoldable pub possible : Place → Fact → ℕ → Words
possible pl f a = if pl.declaration.variable a then words_known pl f (Cell a) else tape_word (pl.image a)

-- The fact that the access sees: a stepped pointer is incremented first.
abbrev pub stepped : Place → Bool → ℕ → Fact → Fact
stepped pl indirect c f = if steps_pointer indirect c then counted pl c f else f

-- The targets of a reference: the named cell, or the words that the pointer in it may be.
abbrev pub targets : Place → Bool → ℕ → Fact → Words
targets pl indirect c f =
    if steps_pointer indirect c then (stepped pl indirect c f).set (Cell c)
    else (if indirect then words_in pl f c else one c)

-- The words that the targets may hold.
abbrev pub words_at : Place → Fact → Words → Words
words_at pl f targets v = some_below 4096 (λ a. targets a && words_in pl f a v)

-- A cell that is neither a variable nor an entry: it holds the word of the start in every run.
abbrev pub is_fixed : Declaration → ℕ → Bool
is_fixed d a = not (d.variable a || d.entry a)

-- All targets are fixed.
abbrev pub are_fixed : Declaration → Words → Bool
are_fixed d targets = not (some_below 4096 (λ a. targets a && not (is_fixed d a)))

-- The one target as a term, where there is one and it is a variable.
abbrev pub one_target : Declaration → Option ℕ → Option Term
one_target d (Some y) = if d.variable y then Some (Holding (Cell y)) else None
one_target d None = None

-- The term that has the operand's word, if there is one: the one target; or, through a pointer in a variable, what stands behind
-- the variable, where all targets are fixed and so still hold their words of the start.
abbrev pub operand_term : Declaration → Bool → ℕ → Words → Option Term
operand_term d indirect c targets =
    if indirect && (d.variable c && are_fixed d targets) then Some (Behind c 0) else one_target d (only targets)

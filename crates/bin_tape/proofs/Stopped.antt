-- Where the fronts of tapes end, the frames are stopped, and at that place.
use Rattle.std.proofs.Common.{◌≡◌, refl, subst, ℕ, ◌+◌, ◌%◌, ◌==◌, List, [], ◌∷◌, ◌++◌, length, take, drop, get_or, Bool, true, false, arith, append-nil, inl, inr}
use Rattle.std.specs.Prelude.{nat_lt, if◌then◌else◌, ◌&&◌}
use Rattle.std.proofs.lemmas.List.{take-append-drop}
use Rattle.std.proofs.lemmas.List.Elements.{All-nil}
use Rattle.bin_tape.specs.declared.word.TapeWord.{TapeWord}
use Rattle.bin_tape.specs.declared.word.TapeWord.TheVariants.{Origin, Data}
use Rattle.bin_tape.specs.declared.fault.TapeFault.{TapeFault}
use Rattle.bin_tape.specs.declared.fault.TapeFault.TheVariants.{NoOrigin, BadFrame, WrongField, NoChecksum, Checksum}
use Rattle.bin_tape.specs.Tape.{Part, leader, field, rubout, word, words, checksum, IsTape}
use Rattle.bin_tape.specs.Reading.{Progress, Between, Second, Skipping, Ended, Faulty, word_of, next, begun, low, ended, reads}
use Rattle.bin_tape.specs.Refuses.{Stops}
use Rattle.bin_tape.specs.Viable.{IsByte, IsViable, EndsAt, NamesPlace, EndsAreStops}
use Rattle.bin_tape.proofs.GoesOn.{unfinished_goes_on, image_of, has_image}
use Rattle.bin_tape.proofs.Means.{Means, IsEnded, reads_means, stops_on}
use Rattle.bin_tape.proofs.Parsed.{no_tape}
use Rattle.bin_tape.proofs.Runs.{reads_more}

-- a fault that was read here names this place
record Names (at : ℕ) (p : Progress) : Type 0 where
  named : (fault : TapeFault) → p ≡ Faulty fault → NamesPlace fault at

fault_is : (f g : TapeFault) → Faulty f ≡ Faulty g → f ≡ g
fault_is f g e = cc

faulty : (at : ℕ) (f : TapeFault) → NamesPlace f at → Names at (Faulty f)
faulty at f h = record { named = λ fault e. subst (λ x. NamesPlace x at) (fault_is f fault e) h }

between : (at : ℕ) (parts : List Part) → Names at (Between parts)
between at parts = record { named = λ fault e. cc }

second : (at : ℕ) (parts : List Part) (first : ℕ) → Names at (Second parts first)
second at parts first = record { named = λ fault e. cc }

skipping : (at : ℕ) (parts : List Part) (skipped : List ℕ) → Names at (Skipping parts skipped)
skipping at parts skipped = record { named = λ fault e. cc }

at_end : (at : ℕ) (parts : List Part) → Names at (Ended parts)
at_end at parts = record { named = λ fault e. cc }

if_names : (at : ℕ) (b : Bool) (x y : Progress) → Names at x → Names at y → Names at (if b then x else y)
if_names at true x y n m = n
if_names at false x y n m = m

ended_names : (at : ℕ) (parts : List Part) (ws : List TapeWord) → Names at (ended parts ws)
ended_names at parts [] = between at (leader 128 ∷ parts)
ended_names at parts (Origin v ∷ before) = faulty at NoChecksum tt
ended_names at parts (Data v ∷ before) = if_names at (v == checksum before % 4096) _ _ (at_end at parts) (faulty at (Checksum v (checksum before % 4096)) tt)

low_names : (at : ℕ) (parts : List Part) (ws : List TapeWord) (f : ℕ) → Names at (low parts ws f)
low_names at parts [] f = if_names at (f == 0) _ _ (between at (leader 0 ∷ parts)) (faulty at NoOrigin tt)
low_names at parts (w ∷ before) f = second at parts f

begun_names : (at : ℕ) (parts : List Part) (f : ℕ) → Names at (begun at parts f)
begun_names at parts f =
    if_names at (nat_lt f 64) _ _ (low_names at parts (words parts) f)
    (if_names at (nat_lt f 128) _ _ (second at parts f)
    (if_names at (f == 128) _ _ (ended_names at parts (words parts))
    (if_names at (f == 192) _ _ (between at (field ∷ parts))
    (if_names at (f == 255) _ _ (skipping at parts [])
    (if_names at (nat_lt 199 f && (f % 8 == 0)) _ _ (faulty at (WrongField at) refl) (faulty at (BadFrame at) refl))))))

next_names : (at : ℕ) (p : Progress) (f : ℕ) → ((fault : TapeFault) → p ≡ Faulty fault → ⊥) → Names at (next at p f)
next_names at (Between parts) f going = begun_names at parts f
next_names at (Second parts first) f going = if_names at (nat_lt f 64) _ _ (between at (word (word_of first f) ∷ parts)) (faulty at (BadFrame at) refl)
next_names at (Skipping parts skipped) f going = if_names at (f == 255) _ _ (between at (rubout skipped ∷ parts)) (skipping at parts (skipped ++ f ∷ []))
next_names at (Ended parts) f going = at_end at parts
next_names at (Faulty fault) f going = absurd (going fault refl)

-- what has its trailer is a tape
ended_viable : (fs : List ℕ) (parts : List Part) → IsEnded fs parts → IsViable fs
ended_viable fs parts m =
    let tape : IsTape fs (image_of 4096 m.before) = record { parts = parts; rest = m.rest; read = m.read; others = m.before; spells = m.spells; lawful = m.lawful; last = m.last; sums = m.sums; cells = has_image m.before } in
    ([], image_of 4096 m.before, All-nil IsByte, rw append-nil tape)

by_reading : (fs : List ℕ) (at : ℕ) (p : Progress) → Means (take (at + 1) fs) p → Names at p → (IsViable (take (at + 1) fs) → ⊥) → (fault : TapeFault) × Stops fs fault × NamesPlace fault at
by_reading fs at (Between parts) m n after = absurd (after (unfinished_goes_on (take (at + 1) fs) (inl (parts, m))))
by_reading fs at (Second parts first) m n after = absurd (after (unfinished_goes_on (take (at + 1) fs) (inr (inl (parts, first, m)))))
by_reading fs at (Skipping parts skipped) m n after = absurd (after (unfinished_goes_on (take (at + 1) fs) (inr (inr (parts, skipped, m)))))
by_reading fs at (Ended parts) m n after = absurd (after (ended_viable (take (at + 1) fs) parts m))
by_reading fs at (Faulty fault) m n after = (fault, subst (λ xs. Stops xs fault) (take-append-drop (at + 1) fs) (stops_on (take (at + 1) fs) (drop (at + 1) fs) fault m), n.named fault refl)

pub ends_are_stops : EndsAreStops
ends_are_stops fs at ends =
    let going : (fault : TapeFault) → reads (take at fs) ≡ Faulty fault → ⊥ = λ fault is. no_tape (take at fs) fault (subst (λ p. Means (take at fs) p) is (reads_means (take at fs))) ends.before in
    let names : Names at (reads (take (at + 1) fs)) = rw (reads_more fs at ends.within) (next_names at (reads (take at fs)) (get_or fs at 0) going) in
    by_reading fs at (reads (take (at + 1) fs)) (reads_means (take (at + 1) fs)) names ends.after

-- The words of a tape's image have twelve bits.
use Rattle.std.proofs.Common.{ℕ, ◌≡◌, ◌<◌, Bool, true, false, Option, Some, None, List, [], ◌∷◌, cond, ◌∙◌, refl, sym, subst}
use Rattle.std.specs.Prelude.{◌==◌, nat_lt}
use Rattle.std.proofs.lemmas.Bool.{ltb-true}
use Rattle.std.proofs.lemmas.Option.{same_Some}
use Rattle.bin_tape.specs.Image.{word_at}
use Rattle.bin_tape.specs.Tape.{AreParts, IsTape, Part, leader, field, rubout, word, image_at, location, words}
use Rattle.bin_tape.specs.declared.word.TapeWord.{TapeWord}
use Rattle.bin_tape.specs.declared.word.TapeWord.TheVariants.{Origin, Data}
use Rattle.peripherals.specs.Loading.{image_of}
use Rattle.refuter.specs.Laws.{PutsWords}

-- each data word of these has twelve bits
abbrev AreSmall : List TapeWord → Type 0
AreSmall [] = Unit {0}
AreSmall (Origin v ∷ before) = AreSmall before
AreSmall (Data v ∷ before) = (v < 4096) × AreSmall before

parts_small : (parts : List Part) → AreParts parts → AreSmall (words parts)
parts_small [] h = tt
parts_small (leader f ∷ before) h = parts_small before h.1
parts_small (field ∷ before) h = parts_small before h.1
parts_small (rubout skipped ∷ before) h = parts_small before h.1
parts_small (word (Origin v) ∷ before) h = parts_small before h.1
parts_small (word (Data v) ∷ before) h = (h.0.0, parts_small before h.1)

put_small : (b : Bool) (v w : ℕ) (before : Option ℕ) → v < 4096 → (before ≡ Some w → w < 4096) → cond b (Some v) before ≡ Some w → w < 4096
put_small true v w before small old is = subst (λ (x : ℕ). x < 4096) (same_Some v w is) small
put_small false v w before small old is = old is

at_small : (ws : List TapeWord) → AreSmall ws → (a w : ℕ) → image_at ws a ≡ Some w → w < 4096
at_small [] h a w is = cc
at_small (Origin v ∷ before) h a w is = at_small before h a w is
at_small (Data v ∷ before) h a w is = put_small (location before == a) v w (image_at before a) h.0 (at_small before h.1 a w) is

-- a map that has nothing from 4096 on has there what it has below
within : (b : Bool) (o : Option ℕ) (w : ℕ) → cond b o None ≡ Some w → (b ≡ true) × (o ≡ Some w)
within true o w is = (refl, is)
within false o w is = cc

pub tape_puts_words : (frames : List ℕ) (image : List (Option ℕ)) → IsTape frames image → PutsWords (image_of image)
tape_puts_words frames image tape a w is =
    let whole : AreSmall (Data tape.read ∷ tape.others) = subst AreSmall tape.last (parts_small tape.parts tape.lawful) in
    let found = within (nat_lt a 4096) (word_at image a) w is in
    let inside : a < 4096 = ltb-true a 4096 found.0 in
    at_small tape.others whole.1 a w (sym (tape.cells.cells a inside) ∙ found.1)

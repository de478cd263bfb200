-- What a translation and a program are, as their calls show it.
use Rattle.std.specs.Prelude.{ℕ, List, Option}
use Rattle.pal_text.specs.declared.names.Name.{Name}
use Rattle.pal_acts.specs.declared.act.PlacedWord.{PlacedWord}
use Rattle.pal_acts.specs.declared.assembly.Translation.{Translation}
use Rattle.pal_asm.specs.declared.program.Program.{Program}

-- The own symbols of a translation with their values, in the order of their definition.
abbrev pub symbols_in : {A : Type 0} → Translation A → List (Name × ℕ)
symbols_in t = t.own.entries

-- The image of a translation: for each address a word or none.
abbrev pub image_in : {A : Type 0} → Translation A → List (Option ℕ)
image_in t = t.image

-- The words of a translation, each with its place and its address.
abbrev pub words_in : {A : Type 0} → Translation A → List PlacedWord
words_in t = t.words.items

-- The own symbols of a program.
abbrev pub symbols_of : {A : Type 0} → Program A → List (Name × ℕ)
symbols_of p = symbols_in p.translation

-- The image of a program.
abbrev pub image_of : {A : Type 0} → Program A → List (Option ℕ)
image_of p = image_in p.translation

-- The words of a program.
abbrev pub words_of : {A : Type 0} → Program A → List PlacedWord
words_of p = words_in p.translation

-- The text of its listing.
abbrev pub listing_of : {A : Type 0} → Program A → List ℕ
listing_of p = p.listing.items

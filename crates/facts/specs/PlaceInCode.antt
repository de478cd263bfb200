-- Places as they are kept in code, and what they mean.
use Rattle.std.specs.Prelude.{ℕ}
use Rattle.instruct.specs.Instructions.{Meaning, meaning_of}
use Rattle.peripherals.specs.Loading.{image_of}
use Rattle.declaration.specs.DeclarationInCode.{meaning}
use Rattle.domain.specs.Facts as said
use Rattle.domain.specs.FactInCode.{rules_of}
use Rattle.facts.specs.declared.place.Place.{Place}

-- The place that is meant.
abbrev pub place_in_code : {A : Type 0} → Place A → said.Place
place_in_code p = record {
  image = image_of p.image.now;
  declaration = meaning p.declaration.now;
  routine = p.routine;
  rules = rules_of p.rules;
}

-- What a word means at an address of the place.
abbrev pub meaning_in : said.Place → ℕ → ℕ → Meaning
meaning_in pl at word = meaning_of pl.declaration.profile at word

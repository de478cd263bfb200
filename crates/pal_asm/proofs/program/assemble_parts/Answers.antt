use Rattle.std.proofs.Common.{◌≡◌, ap, refl}
use Rattle.pal_acts.specs.Permanent.{permanent_symbols}
use Rattle.pal_asm.specs.Sources.{texts, Means, HasWords}
use Rattle.pal_asm.specs.Programs.{symbols_in, image_in, words_in, symbols_of, listing_of}
use Rattle.pal_asm.specs.SourceInCode.{lines_of_fronts}
use Rattle.pal_asm.proofs.One.{of_same, silent_refuses, means, has_words, lists_if, refuses}
use Rattle.pal_asm.proofs.program.assemble_parts.Goals as goal

pub returns-in-Ok-translate_acts-clause-meaning : goal.returns-in-Ok-translate_acts-clause-meaning
returns-in-Ok-translate_acts-clause-meaning g c =
    of_same c.program_of.result (λ p. p.translation) c.in-Ok-translate_acts.found c.program_of.ensures.translation (λ t. Means (permanent_symbols c.args.profile) (texts c.args.parts.now) (symbols_in t) (image_in t))
    (means (permanent_symbols c.args.profile) (texts c.args.parts.now) c.in-Ok.reading.acts (lines_of_fronts c.in-Ok.reading.fronts.items) c.requires c.in-Ok.ensures
    (symbols_in c.in-Ok-translate_acts.found) (image_in c.in-Ok-translate_acts.found) c.in-Ok-translate_acts.ensures.found)

pub returns-in-Ok-translate_acts-clause-words : goal.returns-in-Ok-translate_acts-clause-words
returns-in-Ok-translate_acts-clause-words g c =
    of_same c.program_of.result (λ p. p.translation) c.in-Ok-translate_acts.found c.program_of.ensures.translation (λ t. HasWords (permanent_symbols c.args.profile) (texts c.args.parts.now) (symbols_in t) (words_in t))
    (has_words (permanent_symbols c.args.profile) (texts c.args.parts.now) c.in-Ok.reading.acts (lines_of_fronts c.in-Ok.reading.fronts.items) c.requires c.in-Ok.ensures
    (symbols_in c.in-Ok-translate_acts.found) (words_in c.in-Ok-translate_acts.found) c.in-Ok-translate_acts.ensures.words)

pub returns-in-Ok-translate_acts-clause-listed : goal.returns-in-Ok-translate_acts-clause-listed
returns-in-Ok-translate_acts-clause-listed g c =
    lists_if (permanent_symbols c.args.profile) (texts c.args.parts.now) c.in-Ok.reading.acts (lines_of_fronts c.in-Ok.reading.fronts.items) c.requires c.in-Ok.ensures c.program_of.result symbols_of listing_of
    (symbols_in c.in-Ok-translate_acts.found) (words_in c.in-Ok-translate_acts.found) (lines_of_fronts c.deref.result.now) (ap lines_of_fronts c.deref.ensures.value) c.in-Ok-translate_acts.ensures.words
    (of_same c.program_of.result (λ p. p.translation) c.in-Ok-translate_acts.found c.program_of.ensures.translation (λ t. symbols_in t ≡ symbols_in c.in-Ok-translate_acts.found) refl)
    c.program_of.ensures.listing

pub returns-in-Ok-translate_acts-clause-refused : goal.returns-in-Ok-translate_acts-clause-refused
returns-in-Ok-translate_acts-clause-refused g c = silent_refuses c.program_of.result (permanent_symbols c.args.profile) (texts c.args.parts.now) c.program_of.ensures.memory

pub returns-clause-refused : goal.returns-clause-refused
returns-clause-refused g c =
    refuses (permanent_symbols c.args.profile) (texts c.args.parts.now) c.in-Ok.reading.acts (lines_of_fronts c.in-Ok.reading.fronts.items) c.requires c.in-Ok.ensures c.in-Err.fault c.in-Err.ensures.refused

use Rattle.std.proofs.Common.{◌∙◌, ap}
use Rattle.pal_text.proofs.Cuts.{told_on}
use Rattle.pal_acts.specs.Values.{known}
use Rattle.pal_acts.specs.Sources.{all_words}
use Rattle.pal_acts.specs.Faults.{Refuses}
use Rattle.pal_acts.proofs.Worded.{source_of, words_refused, symbols_refused}
use Rattle.pal_acts.proofs.assembly.assemble_with.Goals as goal

pub returns-clause-found : goal.returns-clause-found
returns-clause-found g c =
    source_of c.args.permanent.now.entries c.in_ok-symbols.symbols.permanent.now.entries c.in_ok-symbols.symbols.own.entries c.args.acts.now c.in_ok-symbols.ensures.permanent c.in_ok-symbols.ensures.symbols
    c.in_ok-words.words.items c.deref.result.now c.image_of-image.result c.in_ok-words.ensures.encodes c.in_ok-words.ensures.words c.deref.ensures.value c.image_of-image.ensures

pub returns-clause-words : goal.returns-clause-words
returns-clause-words g c = c.in_ok-words.ensures.words ∙ ap (λ p. all_words (known p c.in_ok-symbols.symbols.own.entries) c.args.acts.now) c.in_ok-symbols.ensures.permanent

pub returns-in_err-words-clause-refused : goal.returns-in_err-words-clause-refused
returns-in_err-words-clause-refused g c =
    told_on c.from_residual-in_err-words.result c.in_err-words.field-0.0 (Refuses c.args.permanent.now.entries 1024 c.args.acts.now) c.from_residual-in_err-words.ensures.1
    (words_refused c.args.permanent.now.entries c.in_ok-symbols.symbols.permanent.now.entries c.in_ok-symbols.symbols.own.entries c.args.acts.now c.in_ok-symbols.ensures.permanent c.in_ok-symbols.ensures.symbols
    c.in_err-words.field-0.0 c.in_err-words.ensures.refused)

pub returns-in_err-symbols-clause-refused : goal.returns-in_err-symbols-clause-refused
returns-in_err-symbols-clause-refused g c =
    told_on c.from_residual.result c.in_err-symbols.field-0.0 (Refuses c.args.permanent.now.entries 1024 c.args.acts.now) c.from_residual.ensures.1
    (symbols_refused c.args.permanent.now.entries c.args.acts.now c.in_err-symbols.field-0.0 c.in_err-symbols.ensures.refused)

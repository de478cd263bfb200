use Rattle.pal_asm.specs.Programs.{image_of, symbols_of, words_of}
use Rattle.pal_asm.specs.Sources.{texts}
use Rattle.labels.specs.Within.{Declared, DeclaredWithin}
use Rattle.labels.proofs.Completes.{all_located, then_so, with_words, without_words}
use Rattle.labels.proofs.within.declaration_within.Goals as goal

pub returns-then-not-lacks_some : goal.returns-then-not-lacks_some
returns-then-not-lacks_some g c =
    all_located (texts c.args.parts.now) c.in_ok-text.text.items c.deref.result.now c.in_ok-text.ensures c.deref.ensures.value c.lacks_some.result c.lacks_some.ensures c.if-not-lacks_some.true

pub returns-in-Ok : goal.returns-in-Ok
returns-in-Ok g c =
    then_so c.lines_with.result (λ text. Declared c.words.result.now 1 (texts c.args.parts.now) text.items) (λ text. DeclaredWithin (texts c.args.parts.now) text.items)
    (λ text h. with_words (texts c.args.parts.now) c.in_ok-text.text.items c.deref-2.result.now c.in_ok-text.ensures c.deref-2.ensures.value c.machine_of.result (symbols_of c.in-Ok.program) (image_of c.in-Ok.program) (words_of c.in-Ok.program)
    c.words.result.now c.machine_of.ensures c.in-Ok.ensures.meaning c.in-Ok.ensures.words c.words.ensures text.items h)
    c.lines_with.ensures

pub returns-in-Err-Source : goal.returns-in-Err-Source
returns-in-Err-Source g c =
    without_words (texts c.args.parts.now) c.in_ok-text.text.items c.deref-2.result.now c.in_ok-text.ensures c.deref-2.ensures.value c.machine_of.result c.in-Err-Source.field-0-0 c.machine_of.ensures
    (rw c.in-Err-Source.field-0-is at c.in-Err-Source.ensures.refused)

use Rattle.std.proofs.Common.{refl}
use Rattle.pal_text.proofs.Cuts.{told_on}
use Rattle.pal_asm.specs.Programs.{symbols_of, image_of}
use Rattle.pal_asm.specs.Sources.{texts}
use Rattle.labels.specs.Programs.{MeansFor, IsNumberingFault}
use Rattle.labels.proofs.Numbers.{means_shown, refused_placing, source_fault, empty_fault}
use Rattle.labels.proofs.program.numbered_of.Goals as goal

pub returns-in-Ok-clause-numbered : goal.returns-in-Ok-clause-numbered
returns-in-Ok-clause-numbered g c = record {
  symbols = c.symbols.result.now.entries;
  image = c.image.result.now;
  source = means_shown (texts c.args.parts.now) c.args.declaration.now (symbols_of c.in_ok-program.program) c.symbols.result.now.entries (image_of c.in_ok-program.program) c.image.result.now c.in_ok-program.ensures.means c.symbols.ensures c.image.ensures;
  has_word = c.in_ok-tape.ensures.has_word;
  tape_is = c.in_ok-tape.ensures.written;
  placed = c.in-Ok.ensures.placed;
}

pub returns-in-Err-clause-refused : goal.returns-in-Err-clause-refused
returns-in-Err-clause-refused g c =
    let source : MeansFor (texts c.args.parts.now) c.args.declaration.now c.symbols.result.now.entries c.image.result.now =
    means_shown (texts c.args.parts.now) c.args.declaration.now (symbols_of c.in_ok-program.program) c.symbols.result.now.entries (image_of c.in_ok-program.program) c.image.result.now c.in_ok-program.ensures.means c.symbols.ensures c.image.ensures in
    rw c.placing_fault.ensures (refused_placing (texts c.args.parts.now) c.args.declaration.now c.symbols.result.now.entries c.image.result.now c.in-Err.fault source c.in_ok-tape.ensures.has_word c.in-Err.ensures.refused)

pub returns-in_err-program-clause-refused : goal.returns-in_err-program-clause-refused
returns-in_err-program-clause-refused g c =
    told_on c.from_residual.result c.in_err-program.field-0.0 (IsNumberingFault (texts c.args.parts.now) c.args.declaration.now) c.from_residual.ensures.1
    (source_fault (texts c.args.parts.now) c.args.declaration.now c.in_err-program.field-0.0 c.in_err-program.ensures.refused)

pub returns-in_err-tape-clause-refused : goal.returns-in_err-tape-clause-refused
returns-in_err-tape-clause-refused g c =
    let source : MeansFor (texts c.args.parts.now) c.args.declaration.now (symbols_of c.in_ok-program.program) c.image.result.now =
    means_shown (texts c.args.parts.now) c.args.declaration.now (symbols_of c.in_ok-program.program) (symbols_of c.in_ok-program.program) (image_of c.in_ok-program.program) c.image.result.now c.in_ok-program.ensures.means refl c.image.ensures in
    told_on c.from_residual-in_err-tape.result c.in_err-tape.field-0.0 (IsNumberingFault (texts c.args.parts.now) c.args.declaration.now) c.from_residual-in_err-tape.ensures.1
    (empty_fault (texts c.args.parts.now) c.args.declaration.now (symbols_of c.in_ok-program.program) c.image.result.now c.in_err-tape.field-0.0 source c.in_err-tape.ensures.refused)

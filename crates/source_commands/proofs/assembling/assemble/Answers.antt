use Rattle.std.proofs.Common.{rules, ◌≡◌, Err, map, refl}
use Rattle.streams.specs.Bytes.{AppendsFront}
use Rattle.bin_tape.specs.Image.{IsEmptyImage}
use Rattle.bin_tape.specs.Tape.{IsTape}
use Rattle.bin_tape.specs.Written.{written_tape}
use Rattle.bin_tape.specs.declared.fault.WriteTapeFault.TheVariants.{EmptyImage, WriteFault}
use Rattle.pal_acts.specs.Permanent.{permanent_symbols}
use Rattle.pal_asm.specs.Programs.{symbols_in, image_in}
use Rattle.pal_asm.specs.Sources.{Means}
use Rattle.source_commands.proofs.AssembleLemmas.{is_empty, not_empty}
use Rattle.source_commands.proofs.LaterLemmas.{parts_read, parts_refused}
use Rattle.source_commands.proofs.assembling.assemble.Goals as goal

pub returns-in-Err-EmptyImage-clause-faults : goal.returns-in-Err-EmptyImage-clause-faults
returns-in-Err-EmptyImage-clause-faults g c =
    let means : Means (permanent_symbols c.args.profile) (map (λ part. part.items) c.in_ok-parts.parts.items) (symbols_in c.in_ok-translation.translation) (image_in c.in_ok-translation.translation) = search rules in
    let refused : c.write_tape.result ≡ Err EmptyImage = search rules in
    record {
      symbols = symbols_in c.in_ok-translation.translation;
      image = image_in c.in_ok-translation.translation;
      assembles = record { parts = map (λ part. part.items) c.in_ok-parts.parts.items; read = c.in_ok-parts.ensures.read; means = means };
      empty = is_empty c.write_tape.result (image_in c.in_ok-translation.translation) c.image-2.result.now c.write_tape.ensures.empty c.image-2.ensures refused;
    }

pub returns-clause-front : goal.returns-clause-front
returns-clause-front g c = λ marked.
    let means : Means (permanent_symbols c.args.profile) (map (λ part. part.items) c.in_ok-parts.parts.items) (symbols_in c.in_ok-translation.translation) (image_in c.in_ok-translation.translation) = search rules in
    let failed : c.write_tape.result ≡ Err WriteFault = search rules in
    let front : AppendsFront (g.W.ByteSink.taken c.args.out.now) (g.W.ByteSink.taken c.write_tape.new.sink) (written_tape (image_in c.in_ok-translation.translation)) = rw c.image-2.ensures at (c.write_tape.ensures.front failed) in
    let has_word : IsEmptyImage (image_in c.in_ok-translation.translation) → ⊥ = not_empty c.write_tape.result (image_in c.in_ok-translation.translation) c.image-2.result.now c.write_tape.ensures.empty c.image-2.ensures failed in
    let back : IsTape (written_tape (image_in c.in_ok-translation.translation)) (image_in c.in_ok-translation.translation) =
    (rw c.image.ensures at c.written_tapes_read_back.ensures) has_word in
    record {
      text = written_tape (image_in c.in_ok-translation.translation);
      is = record {
        symbols = symbols_in c.in_ok-translation.translation;
        image = image_in c.in_ok-translation.translation;
        assembles = record { parts = map (λ part. part.items) c.in_ok-parts.parts.items; read = c.in_ok-parts.ensures.read; means = means };
        has_word = has_word;
        tape_is = refl;
        reads_back = back;
      };
      front = front;
    }

pub returns-in_err-parts-clause-order : goal.returns-in_err-parts-clause-order
returns-in_err-parts-clause-order g c =
    let told : c.from_residual.result ≡ Err c.in_err-parts.field-0.0 = search rules in
    rw told (parts_refused c.in_err-parts.ensures.order)

pub returns-in_err-slices-clause-order : goal.returns-in_err-slices-clause-order
returns-in_err-slices-clause-order g c = parts_read (search rules) c.in_ok-parts.ensures.order

pub returns-in_err-translation-clause-order : goal.returns-in_err-translation-clause-order
returns-in_err-translation-clause-order g c = parts_read (search rules) c.in_ok-parts.ensures.order

pub returns-in-Ok-clause-order : goal.returns-in-Ok-clause-order
returns-in-Ok-clause-order g c = parts_read (search rules) c.in_ok-parts.ensures.order

pub returns-in-Err-EmptyImage-clause-order : goal.returns-in-Err-EmptyImage-clause-order
returns-in-Err-EmptyImage-clause-order g c = parts_read (search rules) c.in_ok-parts.ensures.order

pub returns-clause-order : goal.returns-clause-order
returns-clause-order g c = parts_read (search rules) c.in_ok-parts.ensures.order

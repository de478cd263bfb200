use Rattle.std.proofs.Common.{rules, Err, ◌≡◌, ◌∙◌, ap, false, length, map}
use Rattle.std.proofs.lemmas.List.{length-map}
use Rattle.pal_acts.specs.Permanent.{permanent_symbols}
use Rattle.pal_asm.specs.Listings.{Lists}
use Rattle.pal_asm.specs.Programs.{image_of, listing_of, symbols_of}
use Rattle.pal_asm.specs.Sources.{Means}
use Rattle.command_parts.specs.declared.status.Fault.TheVariants as fault
use Rattle.source_commands.specs.SourceTexts.{is_bad_number}
use Rattle.source_commands.proofs.AssembleLemmas.{listed_as}
use Rattle.source_commands.proofs.LaterLemmas.{parts_read, parts_refused}
use Rattle.source_commands.proofs.assembling.list.Goals as goal

pub returns-in_err-text-clause-faults : goal.returns-in_err-text-clause-faults
returns-in_err-text-clause-faults g c =
    let number : is_bad_number (length (map g.R.ByteSource.remaining c.args.sources.now)) ≡ false = ap is_bad_number (length-map c.args.sources.now g.R.ByteSource.remaining) ∙ c.in_ok-parts.ensures.number in
    let told : c.from_residual-in_err-text.result ≡ Err fault.NoMemory = search rules in
    rw told number

pub returns-in_err-parts-clause-order : goal.returns-in_err-parts-clause-order
returns-in_err-parts-clause-order g c =
    let told : c.from_residual.result ≡ Err c.in_err-parts.field-0.0 = search rules in
    rw told (parts_refused c.in_err-parts.ensures.order)

pub returns-in_err-slices-clause-order : goal.returns-in_err-slices-clause-order
returns-in_err-slices-clause-order g c = parts_read (search rules) c.in_ok-parts.ensures.order

pub returns-in_err-program-clause-order : goal.returns-in_err-program-clause-order
returns-in_err-program-clause-order g c = parts_read (search rules) c.in_ok-parts.ensures.order

pub returns-in_err-text-clause-order : goal.returns-in_err-text-clause-order
returns-in_err-text-clause-order g c = parts_read (search rules) c.in_ok-parts.ensures.order

pub returns-in-Ok-clause-order : goal.returns-in-Ok-clause-order
returns-in-Ok-clause-order g c = parts_read (search rules) c.in_ok-parts.ensures.order

pub returns-clause-order : goal.returns-clause-order
returns-clause-order g c = parts_read (search rules) c.in_ok-parts.ensures.order

pub returns-in-Ok-clause-listing : goal.returns-in-Ok-clause-listing
returns-in-Ok-clause-listing g c =
    let means : Means (permanent_symbols c.args.profile) (map (λ part. part.items) c.in_ok-parts.parts.items) (symbols_of c.in_ok-program.program) (image_of c.in_ok-program.program) = search rules in
    let lists : Lists (permanent_symbols c.args.profile) (map (λ part. part.items) c.in_ok-parts.parts.items) (symbols_of c.in_ok-program.program) (listing_of c.in_ok-program.program) = search rules in
    record { text = c.in_ok-text.text.items; is = listed_as c.args.crossed _ _ _ _ _ _ _ c.in_ok-parts.ensures.read means lists c.in_ok-text.ensures.plain c.in_ok-text.ensures.crossed; written = search rules }

pub returns-clause-front : goal.returns-clause-front
returns-clause-front g c = λ marked.
    let means : Means (permanent_symbols c.args.profile) (map (λ part. part.items) c.in_ok-parts.parts.items) (symbols_of c.in_ok-program.program) (image_of c.in_ok-program.program) = search rules in
    let lists : Lists (permanent_symbols c.args.profile) (map (λ part. part.items) c.in_ok-parts.parts.items) (symbols_of c.in_ok-program.program) (listing_of c.in_ok-program.program) = search rules in
    record { text = c.in_ok-text.text.items; is = listed_as c.args.crossed _ _ _ _ _ _ _ c.in_ok-parts.ensures.read means lists c.in_ok-text.ensures.plain c.in_ok-text.ensures.crossed; front = search rules }

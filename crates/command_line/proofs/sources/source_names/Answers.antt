use Rattle.std.proofs.Common.{◌≡◌, Err, inl, rules}
use Rattle.command_line.proofs.sources.source_names.Goals as goal

pub returns-in_err-names-clause-refused : goal.returns-in_err-names-clause-refused
returns-in_err-names-clause-refused c =
    let told : c.from_residual.result ≡ Err c.in_err-names.field-0.0 = search rules in
    rw told (record {
      assemble = inl c.in_err-names.ensures.refused;
      listing = inl c.in_err-names.ensures.refused;
      place = inl c.in_err-names.ensures.refused;
    })

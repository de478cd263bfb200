use Rattle.std.proofs.Common.{◌≡◌, rules, refl, Err}
use Rattle.command_parts.specs.declared.status.Fault.TheVariants.{Device}
use Rattle.command_parts.specs.declared.status.DeviceFault.TheVariants.{Write}
use Rattle.command_parts.proofs.AnswerLemmas.{front_written, text_written}
use Rattle.command_parts.proofs.outcome.write_text.Goals as goal

pub returns-clause-writes : goal.returns-clause-writes
returns-clause-writes g c = text_written _ c.args.text.now refl (search rules) (search rules)

pub returns-in_err-put-clause-writes : goal.returns-in_err-put-clause-writes
returns-in_err-put-clause-writes g c =
    let told : c.from_residual.result ≡ Err (Device Write) = search rules in
    rw told (front_written tt c.args.text.now refl (search rules) (search rules))

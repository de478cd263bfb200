use Rattle.std.proofs.Common.{◌≡◌, ◌∙◌, count_by, rules}
use Rattle.command_line.specs.Outputs.{is_standard_input}
use Rattle.command_line.proofs.InputLemmas.{counted}
use Rattle.command_line.proofs.values.standard_inputs.Goals as goal

pub returns : goal.returns
returns c =
    let told : c.count.result ≡ count_by (λ name. is_standard_input name.now) c.args.names.now = search rules in
    told ∙ counted is_standard_input c.args.names.now

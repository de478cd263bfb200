use Rattle.std.proofs.Common.{◌∙◌, rules}
use Rattle.clap.proofs.WalkLemmas.{list_any-map}
use Rattle.command_line.specs.Outputs.{is_same_file}
use Rattle.command_line.proofs.outputs.is_taken.Goals as goal

pub returns : goal.returns
returns c =
    let told = c.is_one_of.ensures ∙ list_any-map (λ other. is_same_file other c.args.name.now) (λ it. it.now) c.args.others.now in
    search (rules, told)

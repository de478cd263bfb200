use Rattle.std.proofs.Common.{◌∙◌, ap, map}
use Rattle.std.specs.List.{list_any}
use Rattle.clap.proofs.WalkLemmas.{list_any-map}
use Rattle.command_line.specs.Outputs.{is_saved_as}
use Rattle.command_line.proofs.outputs.SaveOptions.takes.Goals as goal

pub returns : goal.returns
returns c =
    c.takes_any.ensures
    ∙ ap (λ test. list_any test c.endings.result.now) (λ i ending. list_any-map (is_saved_as c.args.self.now.name.now ending.now) (λ input. input.now) c.args.inputs.now i)
    ∙ list_any-map (λ ending. list_any (is_saved_as c.args.self.now.name.now ending) (map (λ input. input.now) c.args.inputs.now)) (λ it. it.now) c.endings.result.now
    ∙ ap (list_any (λ ending. list_any (is_saved_as c.args.self.now.name.now ending) (map (λ input. input.now) c.args.inputs.now))) c.endings.ensures

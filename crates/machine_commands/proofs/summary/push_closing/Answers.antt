use Rattle.std.proofs.Common.{ℕ, ◌≡◌, ◌∙◌, ◌++◌, List, ap, append_assoc, subst}
use Rattle.std.specs.Prelude.{OnOk}
use Rattle.wordset.specs.Lanes.{words}
use Rattle.peripherals.specs.World.{view}
use Rattle.machine_commands.specs.Summary.{cells_text, summary_as}
use Rattle.machine_commands.proofs.summary.push_closing.Goals as goal

pub returns : goal.returns
returns g c =
    let w = view c.args.world.now in
    let cells : List ℕ = cells_text (words c.args.show.now) w in
    let text : List ℕ = summary_as c.args.form.now c.args.outcome.now.end w c.args.outcome.now.steps in
    let first : c.push_summary.new.text.items ≡ c.args.text.now.items ++ text = c.in_ok-push_summary.ensures in
    subst (λ (l : List ℕ). OnOk c.push_shown.result (c.push_shown.new.text.items ≡ l)) (ap (λ (l : List ℕ). l ++ cells) first ∙ append_assoc c.args.text.now.items text cells) c.push_shown.ensures

use Rattle.std.proofs.Common.{ℕ, List, ◌++◌, ap, ◌∙◌}
use Rattle.std.specs.Prelude.{codes}
use Rattle.std.proofs.lemmas.Result.{on_ok_weaker}
use Rattle.wordset.specs.Lanes.{words}
use Rattle.wordset.specs.Words.{Words}
use Rattle.declaration.specs.DeclarationInCode.{meaning}
use Rattle.diagnostics.specs.CheckText.{counted, in_bodies, is_halt}
use Rattle.diagnostics.proofs.CheckLemmas.{count_pushed}
use Rattle.diagnostics.proofs.verdicts.verdict.push_counts.Goals as goal

pub returns : goal.returns
returns g c =
    let d = meaning c.args.declaration.now in
    on_ok_weaker c.push_count-4.result
    (λ is. count_pushed c.push_count-3.new.text.items c.push_count-4.new.text.items (words c.halts_of.result) (is_halt d) (codes " halts") c.halts_of.ensures is
    ∙ ap (λ (t : List ℕ). t ++ counted (is_halt d) (codes " halts"))
    (count_pushed c.push_count-2.new.text.items c.push_count-3.new.text.items (words c.entries.result) d.entry (codes " entries, ") c.entries.ensures c.in_ok-push_count-3.ensures
    ∙ ap (λ (t : List ℕ). t ++ counted d.entry (codes " entries, "))
    ((c.in_ok-push_count-2.ensures ∙ ap (λ (s : Words). c.push_count.new.text.items ++ counted s (codes " variable cells, ")) c.variables.ensures)
    ∙ ap (λ (t : List ℕ). t ++ counted d.variable (codes " variable cells, "))
    (count_pushed c.args.text.now.items c.push_count.new.text.items (words c.cells_of_bodies.result) (in_bodies d) (codes " body cells, ") c.cells_of_bodies.ensures c.in_ok-push_count.ensures))))
    c.push_count-4.ensures

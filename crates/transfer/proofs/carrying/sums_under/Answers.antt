use Rattle.std.proofs.Common.{ap, ◌∙◌}
use Rattle.std.specs.Prelude.{◌&&◌, ◌||◌}
use Rattle.std.proofs.Math.Path.{fun_ext}
use Rattle.wordset.specs.Words.{Words}
use Rattle.wordset.specs.Links.{links_of}
use Rattle.wordset.specs.Lanes.{words}
use Rattle.transfer.specs.Additions.{sums_carrying}
use Rattle.transfer.proofs.carrying.sums_under.Goals as goal

pub returns : goal.returns
returns c = fun_ext (λ v.
    ap (λ (s : Words). s v) c.union.ensures
    ∙ ap (λ b. b || words c.with_carry_if.result v) (c.without_carry_if-same.ensures v ∙ ap (λ b. b && sums_carrying 0 (words c.args.a.now) (words c.args.b.now) v) c.contains.ensures)
    ∙ ap (λ b. (links_of c.args.links c.args.link && sums_carrying 0 (words c.args.a.now) (words c.args.b.now) v) || b)
    (c.with_carry_if.ensures v ∙ ap (λ b. b && sums_carrying 1 (words c.args.a.now) (words c.args.b.now) v) (c.contains-2.ensures ∙ ap (λ k. links_of c.args.links k) c.complement.ensures)))

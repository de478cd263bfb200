use Rattle.std.proofs.Common.{ap, ◌∙◌}
use Rattle.std.specs.Prelude.{◌&&◌, ◌||◌}
use Rattle.std.proofs.Math.Path.{fun_ext}
use Rattle.wordset.specs.Words.{Words}
use Rattle.wordset.specs.Links.{links_of}
use Rattle.wordset.specs.Lanes.{words}
use Rattle.transfer.specs.Shaped.{images_from}
use Rattle.transfer.proofs.RowsLemmas.{under_both}
use Rattle.transfer.proofs.operations.images_under.Goals as goal

pub returns : goal.returns
returns c = fun_ext (λ v.
    ap (λ (s : Words). s v) c.union.ensures
    ∙ ap (λ b. b || words c.images_if.result v) (c.images_if-high.ensures v ∙ ap (λ b. b && images_from c.args.word c.args.link (words c.args.set.now) 1 v) c.contains.ensures)
    ∙ ap (λ b. (links_of c.args.links 1 && images_from c.args.word c.args.link (words c.args.set.now) 1 v) || b)
    (c.images_if.ensures v ∙ ap (λ b. b && images_from c.args.word c.args.link (words c.args.set.now) 0 v) c.contains-2.ensures)
    ∙ under_both c.args.word c.args.link (words c.args.set.now) (links_of c.args.links) v)

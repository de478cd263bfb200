use Rattle.std.proofs.Common.{sym, ◌∙◌}
use Rattle.wordset.specs.Lanes.{words}
use Rattle.transfer.proofs.RowsLemmas.{image_put, image_left}
use Rattle.transfer.proofs.operations.add_image.Goals as goal

pub returns-then-eq : goal.returns-then-eq
returns-then-eq c = image_put c.args.word c.args.ac c.args.before c.args.link c.operate1-image.result (words c.args.found.now) (words c.insert.new.self) c.operate1-image.ensures (sym c.eq.ensures ∙ c.if-eq.true) c.insert.ensures

pub returns-else-eq : goal.returns-else-eq
returns-else-eq c = image_left c.args.word c.args.ac c.args.before c.args.link c.operate1-image.result (words c.args.found.now) c.operate1-image.ensures (sym c.eq.ensures ∙ c.if-eq.false)

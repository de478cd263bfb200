use Rattle.std.proofs.Common.{ap, sym, ◌∙◌}
use Rattle.wordset.specs.Words.{Words}
use Rattle.wordset.specs.Lanes.{words}
use Rattle.transfer.specs.Shaped.{images_from}
use Rattle.transfer.proofs.RowsLemmas.{one_is_enough, some_there}
use Rattle.transfer.proofs.operations.images_by.Goals as goal

pub returns-then-not-is_empty : goal.returns-then-not-is_empty
returns-then-not-is_empty c =
    c.images_from.ensures ∙ ap (λ (s : Words). images_from c.args.word c.args.link s c.args.before) c.one.ensures
    ∙ one_is_enough c.args.word c.args.link c.args.before (words c.args.set.now) (sym c.clears.ensures ∙ c.if-clears.true)
    (some_there (words c.args.set.now) c.is_empty.result c.is_empty.ensures c.if-not-is_empty.true)

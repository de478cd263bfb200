use Rattle.std.proofs.Common.{refl, sym, ◌∙◌}
use Rattle.wordset.specs.Lanes.{words}
use Rattle.transfer.proofs.RowsLemmas.{all_there, not_all_there}
use Rattle.transfer.proofs.stores.add_besides.Goals as goal

pub returns-then-not-names-clause-fact : goal.returns-then-not-names-clause-fact
returns-then-not-names-clause-fact g c = rw (sym c.names.ensures ∙ c.if-not-names.true) c.add.ensures.fact

pub returns-then-is_all-clause-fact : goal.returns-then-is_all-clause-fact
returns-then-is_all-clause-fact g c = rw (sym c.names.ensures ∙ c.if-not-names.false, all_there (words c.args.by.now) (c.is_all.ensures.0 c.if-is_all.true)) refl

pub returns-clause-fact : goal.returns-clause-fact
returns-clause-fact g c =
    rw (sym c.names.ensures ∙ c.if-not-names.false, not_all_there c.args.by.now c.is_all.result c.if-is_all.false c.is_all.ensures) c.add_moved.ensures.fact

use Rattle.domain.specs.RelationsInCode.{relation_of}
use Rattle.transfer.proofs.RowsLemmas.{turned_gone, turned_on}
use Rattle.transfer.proofs.operations.turn.Goals as goal

pub returns-then-not-complement_if : goal.returns-then-not-complement_if
returns-then-not-complement_if c = turned_gone c.args.word (relation_of c.args.relation.now) (relation_of c.complement_if.new.relation) c.complement_if.result c.if-not-complement_if.true c.complement_if.ensures

pub returns : goal.returns
returns c =
    turned_on c.args.word (relation_of c.args.relation.now) (relation_of c.complement_if.new.relation) (relation_of c.increment_if.new.relation) c.complement_if.result c.increment_if.result
    c.if-not-complement_if.false c.complement_if.ensures c.increment_if.ensures

use Rattle.wordset.specs.Lanes.{words}
use Rattle.domain.specs.FactInCode.{fact_in_code}
use Rattle.facts.proofs.MovedLemmas.{is_moved}
use Rattle.facts.proofs.memory.put_moved.Goals as goal

pub returns : goal.returns
returns g c =
    is_moved (fact_in_code c.args.fact.now) (fact_in_code c.take_for_accumulator.new.self) (fact_in_code c.set_offsets.new.self) (words c.one.result) (words c.args.held.now) _ _ _
    c.take_for_accumulator.ensures c.one.ensures c.set_offsets.ensures.fact c.between.ensures c.put.ensures c.sites.ensures

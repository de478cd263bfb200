use Rattle.domain.proofs.GivenLemmas.{met_in_common}
use Rattle.domain.proofs.narrowing.met_links.Goals as goal

pub returns : goal.returns
returns c = λ l. met_in_common c.args.one c.args.other c.are_both-clear.result c.are_both-set.result l c.are_both-clear.ensures c.are_both-set.ensures

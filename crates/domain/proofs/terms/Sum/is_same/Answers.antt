use Rattle.std.proofs.Common.{sym, ◌∙◌}
use Rattle.domain.specs.InCode.{sum_of}
use Rattle.domain.proofs.TermLemmas.{apart_lengths}
use Rattle.domain.proofs.terms.Sum.is_same.Goals as goal

pub returns-then-len : goal.returns-then-len
returns-then-len c = apart_lengths (sum_of c.args.self.now) (sum_of c.args.other.now) (λ e. c.if-len.true (c.len.ensures.count ∙ e ∙ sym c.len-2.ensures.count))

use Rattle.std.proofs.Common.{ap, ◌∙◌, arith}
use Rattle.wordset.specs.Words.{Words}
use Rattle.peripherals.specs.Loading.{image_of}
use Rattle.domain.specs.InCode.{sum_of}
use Rattle.facts.proofs.ShowingLemmas.{said_given}
use Rattle.facts.proofs.place.Place.tells_within.Goals as goal

pub returns : goal.returns
returns g c = λ t v lt h. c.has_all.ensures.0 t v lt (ap (λ (s : Words). s v) c.put_set_of_sum.ensures ∙ (said_given (image_of c.args.self.now.image.now) (g.K.KnownFact.known c.args.fact.now) (sum_of c.args.relation.now.sum) (omega (arith, c.if-len-lt2.false, c.len.ensures.count)) v h))

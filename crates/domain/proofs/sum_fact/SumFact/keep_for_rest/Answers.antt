use Rattle.std.proofs.Common.{◌∙◌, ap, sym}
use Rattle.wordset.specs.Words.{Words}
use Rattle.wordset.specs.Lanes.{words}
use Rattle.peripherals.specs.Loading.{image_of}
use Rattle.domain.specs.LocationsInCode.{location_of}
use Rattle.domain.specs.Facts.{OfSums}
use Rattle.domain.specs.Adding.{adding_all, differences}
use Rattle.domain.specs.Knowing.{said_of}
use Rattle.domain.specs.Narrowing.{of_part}
use Rattle.domain.specs.Brief.{brief_words}
use Rattle.domain.specs.InCode.{sum_of}
use Rattle.domain.specs.FactInCode.{fact_in_code}
use Rattle.domain.proofs.sum_fact.SumFact.keep_for_rest.Goals as goal

pub returns-then-is_idle : goal.returns-then-is_idle
returns-then-is_idle g c = λ f h. h ∙ sym (c.is_idle.ensures (image_of c.args.image.now)
    (differences (brief_words c.args.set.now) (said_of (image_of c.args.image.now) (fact_in_code c.args.self.now) (sum_of c.args.rest.now))) f c.if-is_idle.true)

pub returns : goal.returns
returns g c = λ f h. c.keep_for_part.ensures f h
    ∙ ap (λ (s : Words). (adding_all OfSums (of_part (image_of c.args.image.now) (sum_of c.args.part.now) s) f).set (location_of c.args.name.now))
    (c.differences.ensures ∙ ap (λ (s : Words). differences s (words c.put_said_of.new.place)) c.put.ensures
    ∙ ap (λ (s : Words). differences (brief_words c.args.set.now) s) c.put_said_of.ensures)

use Rattle.std.proofs.Common.{sym, ap, ◌∙◌}
use Rattle.wordset.specs.Words.{Words, meet}
use Rattle.wordset.specs.Lanes.{words}
use Rattle.wordset.specs.Links.{links_of}
use Rattle.peripherals.specs.Loading.{image_of}
use Rattle.domain.specs.LocationsInCode.{location_of}
use Rattle.domain.specs.FactInCode.{fact_in_code}
use Rattle.facts.specs.PlaceInCode.{place_in_code}
use Rattle.facts.specs.StartInCode.{start_in_code}
use Rattle.facts.specs.Starts.{words_at_start}
use Rattle.facts.proofs.StartLemmas.{tape_words}
use Rattle.transfer.proofs.RowsLemmas.{some_there, none_there}
use Rattle.facts.proofs.BeginningLemmas.{unlinked_taken, empty_taken, entailed_taken, not_linked, linked}
use Rattle.facts.proofs.starts.StartPartFactPart.is_taken.Goals as goal

pub returns-then-is_empty-clause-taken : goal.returns-then-is_empty-clause-taken
returns-then-is_empty-clause-taken g c =
    unlinked_taken (place_in_code c.args.place.now) (image_of c.args.self.now.image.now) (location_of c.args.name.now) (links_of c.args.self.now.links) (fact_in_code c.args.other.now)
    (not_linked (links_of c.args.self.now.links) (sym c.is_empty.ensures ∙ c.if-is_empty.true))

pub returns-then-is_empty-2-clause-taken : goal.returns-then-is_empty-2-clause-taken
returns-then-is_empty-2-clause-taken g c =
    empty_taken (place_in_code c.args.place.now) (image_of c.args.self.now.image.now) (location_of c.args.name.now) (links_of c.args.self.now.links) (fact_in_code c.args.other.now) (words c.meet-both.result)
    c.look_at.ensures
    (c.meet-both.ensures ∙ ap (λ (s : Words). meet s (words c.put_set_of.new.place)) c.put_words_at_start.ensures ∙ ap (λ (s : Words). meet (words_at_start (image_of c.args.self.now.image.now) (location_of c.args.name.now)) s) c.put_set_of.ensures)
    (none_there (words c.meet-both.result) c.is_empty-2.result c.is_empty-2.ensures c.if-is_empty-2.true)

pub returns-clause-taken : goal.returns-clause-taken
returns-clause-taken g c =
    entailed_taken (place_in_code c.args.place.now) (image_of c.args.self.now.image.now) (location_of c.args.name.now) (links_of c.args.self.now.links) (fact_in_code c.args.other.now)
    c.entails.result (words c.meet-both.result) (start_in_code c.with_name.result) (tape_words c.args.self.now.image.now c.look_into.ensures)
    (linked (links_of c.args.self.now.links) (sym c.is_empty.ensures ∙ c.if-is_empty.false))
    (c.meet-both.ensures ∙ ap (λ (s : Words). meet s (words c.put_set_of.new.place)) c.put_words_at_start.ensures ∙ ap (λ (s : Words). meet (words_at_start (image_of c.args.self.now.image.now) (location_of c.args.name.now)) s) c.put_set_of.ensures)
    (some_there (words c.meet-both.result) c.is_empty-2.result c.is_empty-2.ensures c.if-is_empty-2.false)
    c.with_name.ensures c.entails.ensures

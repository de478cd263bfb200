use Rattle.std.proofs.Common.{sym, ap, ◌∙◌}
use Rattle.wordset.specs.Links.{links_of}
use Rattle.peripherals.specs.Loading.{image_of}
use Rattle.domain.specs.Adding.{is_void}
use Rattle.facts.specs.PlaceInCode.{place_in_code}
use Rattle.facts.specs.StartInCode.{start_in_code}
use Rattle.facts.proofs.StartLemmas.{tape_words}
use Rattle.facts.proofs.SplitLemmas.{void_whole, some_whole}
use Rattle.facts.proofs.BeginningLemmas.{begun, begun_void_is, whole_begun}
use Rattle.facts.proofs.starts.StartPartFactPart.is_taken_whole.Goals as goal

pub returns-then-is_empty-clause-taken : goal.returns-then-is_empty-clause-taken
returns-then-is_empty-clause-taken g c =
    let image = image_of c.args.self.now.image.now in
    let links = links_of c.args.self.now.links in
    void_whole (place_in_code c.args.place.now) (begun image links) (begun image links) (g.F.FactSource.facts c.args.among.now) c.has_facts.result
    (sym (whole_begun (place_in_code c.args.place.now) image links))
    (begun_void_is image (tape_words c.args.self.now.image.now c.look_into.ensures) links ∙ sym c.is_empty.ensures ∙ c.if-is_empty.true) c.has_facts.ensures

pub returns-clause-taken : goal.returns-clause-taken
returns-clause-taken g c =
    let image = image_of c.args.self.now.image.now in
    let links = links_of c.args.self.now.links in
    some_whole (place_in_code c.args.place.now) (begun image links) (start_in_code c.new.result) (g.F.FactSource.facts c.args.among.now) c.entails_one.result
    (c.new.ensures ∙ sym (whole_begun (place_in_code c.args.place.now) image links))
    (ap is_void c.new.ensures ∙ begun_void_is image (tape_words c.args.self.now.image.now c.look_into.ensures) links ∙ sym c.is_empty.ensures ∙ c.if-is_empty.false) c.entails_one.ensures

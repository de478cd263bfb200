use Rattle.std.proofs.Common.{sym, ◌∙◌}
use Rattle.wordset.specs.Links.{links_of}
use Rattle.peripherals.specs.Loading.{image_of}
use Rattle.facts.proofs.StartLemmas.{tape_words}
use Rattle.facts.proofs.BeginningLemmas.{begun_void_is}
use Rattle.facts.proofs.starts.StartPartFactPart.is_none.Goals as goal

pub returns : goal.returns
returns c = c.is_empty.ensures ∙ sym (begun_void_is (image_of c.args.self.now.image.now) (tape_words c.args.self.now.image.now c.look_into.ensures) (links_of c.args.self.now.links))

use Rattle.wordset.specs.Words.{some_below}
use Rattle.wordset.specs.Links.{links_of}
use Rattle.domain.specs.Offsets.{offsets_in}
use Rattle.certificate_lines.specs.FieldsLeft.{left}
use Rattle.certificate_lines.proofs.DigitLemmas.{no_links, links_read, not_true}
use Rattle.certificate_lines.proofs.fields.Fields.links.Goals as goal

pub returns-then-is_empty-clause-only : goal.returns-then-is_empty-clause-only
returns-then-is_empty-clause-only c = λ s rest some ends e.
    no_links (left c.args.self.now) (left c.digits.new.self) (offsets_in c.digits.result) (links_of c.links_among-links.result)
    (record { read = c.digits.ensures.read; only = c.digits.ensures.only }) c.links_among-links.ensures
    (not_true (some_below 2 (links_of c.links_among-links.result)) c.if-is_empty.ensures) s rest some ends e

pub returns-else-is_empty-clause-read : goal.returns-else-is_empty-clause-read
returns-else-is_empty-clause-read c =
    links_read (left c.args.self.now) (left c.digits.new.self) (offsets_in c.digits.result) (links_of c.links_among-links.result)
    (record { read = c.digits.ensures.read; only = c.digits.ensures.only }) c.links_among-links.ensures

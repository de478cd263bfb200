use Rattle.std.proofs.Common.{◌∙◌, sym}
use Rattle.facts.proofs.AskingLemmas.{no_entry}
use Rattle.facts.proofs.place.Place.keeps_entry.Goals as goal

pub returns-then-not-is_entry : goal.returns-then-not-is_entry
returns-then-not-is_entry g c = no_entry _ c.is_entry.ensures c.if-not-is_entry.true

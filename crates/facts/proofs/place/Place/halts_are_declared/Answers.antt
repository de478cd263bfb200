use Rattle.facts.specs.PlaceInCode.{place_in_code}
use Rattle.std.proofs.Common.{◌∙◌, sym}
use Rattle.facts.proofs.AskedLemmas.{no_reference, halts_nowhere, halts_not, halts_at}
use Rattle.wordset.proofs.Tests.{or_left}
use Rattle.facts.proofs.PlaceLemmas.{or_both}
use Rattle.facts.proofs.place.Place.halts_are_declared.Goals as goal

pub returns-then-not-is_group_2 : goal.returns-then-not-is_group_2
returns-then-not-is_group_2 g c = halts_nowhere (place_in_code c.args.self.now) c.args.at c.args.word (no_reference c.if-not-is_group_2.true (c.is_group_2.ensures c.args.at))

pub returns-then-not-halts : goal.returns-then-not-halts
returns-then-not-halts g c = halts_not _ (place_in_code c.args.self.now) c.args.at c.args.word ((c.is_group_2.ensures c.args.at).0 c.if-not-is_group_2.false) c.halts.ensures c.if-not-halts.true

pub returns-then-is_stop : goal.returns-then-is_stop
returns-then-is_stop g c = halts_at _ _ (place_in_code c.args.self.now) c.args.at c.args.word ((c.is_group_2.ensures c.args.at).0 c.if-not-is_group_2.false) c.halts.ensures c.if-not-halts.false
    (c.if-is_stop.true ∙ sym (or_left _ _ (sym c.is_stop.ensures ∙ c.if-is_stop.true)))

pub returns-else-is_stop : goal.returns-else-is_stop
returns-else-is_stop g c = halts_at _ _ (place_in_code c.args.self.now) c.args.at c.args.word ((c.is_group_2.ensures c.args.at).0 c.if-not-is_group_2.false) c.halts.ensures c.if-not-halts.false
    (or_both (sym c.if-is_stop.false ∙ c.is_stop.ensures) c.is_pause.ensures)

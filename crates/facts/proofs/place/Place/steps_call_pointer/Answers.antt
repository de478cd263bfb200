use Rattle.std.proofs.Common.{◌∙◌, sym, ap}
use Rattle.facts.specs.Instructions.{calls_through_index}
use Rattle.facts.specs.PlaceInCode.{place_in_code}
use Rattle.facts.proofs.AskedLemmas.{calls_none, call_meaning}
use Rattle.facts.proofs.place.Place.steps_call_pointer.Goals as goal

pub returns-then-not-is_call : goal.returns-then-not-is_call
returns-then-not-is_call g c = calls_none _ (sym (c.is_call.ensures c.args.at) ∙ c.if-not-is_call.true)

pub returns : goal.returns
returns g c = c.steps_pointer.ensures ∙ ap calls_through_index
    (call_meaning (place_in_code c.args.self.now) c.args.at c.args.word _ _ c.refers_indirectly.ensures c.target.ensures (sym (c.is_call.ensures c.args.at) ∙ c.if-not-is_call.false))

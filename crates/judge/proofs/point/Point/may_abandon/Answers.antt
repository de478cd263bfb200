use Rattle.std.proofs.Common.{◌∙◌, sym, ap, not}
use Rattle.std.specs.Prelude.{is_some}
use Rattle.wordset.specs.Words.{Words, has_some}
use Rattle.judge.specs.Points.{case_of}
use Rattle.judge.proofs.PointLemmas.{main_abandons_none, only_jumps_abandon, returns_abandon_none, jumps_abandon, abandons_if}
use Rattle.judge.proofs.point.Point.may_abandon.Goals as goal

pub returns-then-is_none : goal.returns-then-is_none
returns-then-is_none g c = λ a lt. main_abandons_none (case_of g.C.Claims.claims c.args.self.now).declaration c.args.self.now.place.routine _ (c.is_none.ensures ∙ ap not c.if-is_none.true) a

pub returns-then-not-is_jump : goal.returns-then-not-is_jump
returns-then-not-is_jump g c = λ a lt. only_jumps_abandon (case_of g.C.Claims.claims c.args.self.now).declaration c.args.self.now.place.routine _ (sym (c.is_jump.ensures c.args.self.now.at) ∙ c.if-not-is_jump.true) a

pub returns-then-is_some : goal.returns-then-is_some
returns-then-is_some g c = λ a lt. returns_abandon_none (case_of g.C.Claims.claims c.args.self.now).declaration c.args.self.now.place.routine _ (ap is_some (sym c.returned_entry.ensures) ∙ (sym c.is_some.ensures ∙ c.if-is_some.true)) a

pub returns : goal.returns
returns g c =
    abandons_if (case_of g.C.Claims.claims c.args.self.now) c.args.self.now.place.routine _ c.is_empty.result
    (jumps_abandon (case_of g.C.Claims.claims c.args.self.now).declaration c.args.self.now.place.routine _ (c.is_none.ensures ∙ ap not c.if-is_none.false) (sym (c.is_jump.ensures c.args.self.now.at) ∙ c.if-not-is_jump.false) (ap is_some (sym c.returned_entry.ensures) ∙ (sym c.is_some.ensures ∙ c.if-is_some.false)))
    (c.is_empty.ensures ∙ ap (λ (w : Words). not (has_some w)) c.abandons.ensures)

use Rattle.std.proofs.Common.{◌∙◌, None, ap, subst}
use Rattle.std.specs.Prelude.{IsTrue, ◌↔◌, ◌≡◌, ℕ, ◌<◌, true}
use Rattle.wordset.specs.Words.{Words, difference, meet}
use Rattle.wordset.specs.Lanes.{words}
use Rattle.domain.specs.Brief.{brief_words}
use Rattle.domain.specs.Facts.{Fact}
use Rattle.domain.specs.FactInCode.{fact_in_code}
use Rattle.transfer.proofs.EntailLemmas.{not_both}
use Rattle.judge.specs.Landing.{LandsAt}
use Rattle.judge.specs.Points.{case_of}
use Rattle.judge.proofs.PointLemmas.{lands_split, lands_not_here, is_as_main}
use Rattle.judge.proofs.point.Point.lands_beyond.Goals as goal

pub returns-then-not-lands_at_each : goal.returns-then-not-lands_at_each
returns-then-not-lands_at_each g c =
    lands_not_here (case_of g.C.Claims.claims c.args.self.now) c.args.self.now.place.routine (fact_in_code c.args.known.now) (brief_words c.args.targets.now) (words c.minus.result)
    (c.minus.ensures ∙ (ap (λ (w : Words). difference w (words c.abandons-abandons.result.now)) c.put.ensures ∙ ap (λ (w : Words). difference (brief_words c.args.targets.now) w) c.abandons-abandons.ensures))
    (not_both _ c.if-not-lands_at_each.true c.lands_at_each.ensures.lands.1)

pub returns : goal.returns
returns g c =
    lands_split (case_of g.C.Claims.claims c.args.self.now) c.args.self.now.place.routine (fact_in_code c.args.known.now) (brief_words c.args.targets.now) (words c.minus.result) (words c.meet.result) _
    (c.minus.ensures ∙ (ap (λ (w : Words). difference w (words c.abandons-abandons.result.now)) c.put.ensures ∙ ap (λ (w : Words). difference (brief_words c.args.targets.now) w) c.abandons-abandons.ensures))
    (c.meet.ensures ∙ (ap (λ (w : Words). meet w (words c.abandons-abandons.result.now)) c.put.ensures ∙ ap (λ (w : Words). meet (brief_words c.args.targets.now) w) c.abandons-abandons.ensures))
    (c.lands_at_each.ensures.lands.0 c.if-not-lands_at_each.false)
    (subst (λ (f : Fact). IsTrue c.lands_in_main.result ↔ ((a : ℕ) → a < 4096 → words c.meet.result a ≡ true → LandsAt (case_of g.C.Claims.claims c.args.self.now) None a f))
    (is_as_main (fact_in_code c.args.known.now) _ _ _ _ _ c.lands_at_each.ensures.kept c.set_sites.ensures.fact c.empty.ensures c.set_offsets.ensures.fact c.none.ensures) c.lands_in_main.ensures)

use Rattle.std.proofs.Common.{ℕ, Some, subst}
use Rattle.std.specs.Prelude.{IsTrue, ◌↔◌}
use Rattle.domain.specs.FactInCode.{fact_in_code, rules_of}
use Rattle.facts.specs.Conditions.{EachIsHeldBy}
use Rattle.facts.specs.PlaceInCode.{place_in_code}
use Rattle.judge.specs.Judged.{case_kept}
use Rattle.judge.proofs.LineLemmas.{place_made}
use Rattle.judge.proofs.CaseLemmas.{held_if_asked, held_unasked}
use Rattle.judge.proofs.case.Case.exit_is_held.Goals as goal

pub returns-then-not-put_asked : goal.returns-then-not-put_asked
returns-then-not-put_asked g c =
    held_unasked (case_kept g.C.Claims.claims c.args.self.now) c.args.entry c.args.offset (rules_of c.rules-rules.result) (fact_in_code c.args.claimed.now) (fact_in_code c.put_asked.new.fact) c.put_asked.result
    c.rules-rules.ensures c.put_asked.ensures.asked c.if-not-put_asked.true

pub returns : goal.returns
returns g c =
    held_if_asked (case_kept g.C.Claims.claims c.args.self.now) c.args.entry c.args.offset (rules_of c.rules-rules.result) (place_in_code c.place_of.result) (fact_in_code c.args.claimed.now) (fact_in_code c.put_asked.new.fact) c.put_asked.result c.returns_as_declared.result
    c.rules-rules.ensures
    (place_made g.C.Claims.claims c.args.self.now c.place_of.result (Some c.args.entry) c.rules-rules.result c.place_of.ensures.image c.place_of.ensures.declaration c.place_of.ensures.routine c.place_of.ensures.rules c.rules-rules.ensures)
    c.put_asked.ensures.asked c.if-not-put_asked.false
    (subst (λ (o : ℕ). IsTrue c.returns_as_declared.result ↔ EachIsHeldBy (place_in_code c.place_of.result) (fact_in_code c.put_asked.new.fact) c.args.entry o (place_in_code c.place_of.result).declaration.returns) c.from_index.ensures c.returns_as_declared.ensures)

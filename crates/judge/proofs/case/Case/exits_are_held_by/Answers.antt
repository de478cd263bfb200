use Rattle.std.proofs.Common.{true, false, arith}
use Rattle.wordset.specs.Lanes.{words}
use Rattle.domain.specs.FactInCode.{fact_in_code}
use Rattle.transfer.proofs.EntailLemmas.{not_both}
use Rattle.judge.specs.Judged.{case_kept}
use Rattle.judge.specs.Landing.{sited}
use Rattle.judge.proofs.SourceLemmas.{counted}
use Rattle.judge.proofs.CaseLemmas.{one_is_held, one_is_not, all_are_held, by_sites}
use Rattle.judge.proofs.case.Case.exits_are_held_by.Goals as goal

pub loop-index-init : goal.loop-index-init
loop-index-init g c = (λ k. k, λ k. k)

pub loop-index-preserved : goal.loop-index-preserved
loop-index-preserved g c =
    one_is_held (case_kept g.C.Claims.claims c.args.self.now) c.args.entry c.args.offset (sited (case_kept g.C.Claims.claims c.args.self.now).certificate.rules (words c.sites_of-sites.result) ((case_kept g.C.Claims.claims c.args.self.now).certificate.exits c.args.entry c.args.offset)) c.loop-index.index
    (fact_in_code c.put_exit.new.claimed) (omega (arith, c.loop-index-test.true, counted (case_kept g.C.Claims.claims c.args.self.now).certificate.rules (words c.sites_of-sites.result) ((case_kept g.C.Claims.claims c.args.self.now).certificate.exits c.args.entry c.args.offset) _ c.count_exits-index-end.ensures)) c.put_exit.ensures.fact (c.exit_is_held.ensures.0 c.if-not-exit_is_held.false) c.loop-index.invariant

pub returns-then-not-exit_is_held : goal.returns-then-not-exit_is_held
returns-then-not-exit_is_held g c =
    by_sites (case_kept g.C.Claims.claims c.args.self.now) c.args.entry c.args.offset (words c.sites_of-sites.result) false c.sites_of-sites.ensures
    (one_is_not (case_kept g.C.Claims.claims c.args.self.now) c.args.entry c.args.offset (sited (case_kept g.C.Claims.claims c.args.self.now).certificate.rules (words c.sites_of-sites.result) ((case_kept g.C.Claims.claims c.args.self.now).certificate.exits c.args.entry c.args.offset)) c.loop-index.index
    (fact_in_code c.put_exit.new.claimed) (omega (arith, c.loop-index-test.true, counted (case_kept g.C.Claims.claims c.args.self.now).certificate.rules (words c.sites_of-sites.result) ((case_kept g.C.Claims.claims c.args.self.now).certificate.exits c.args.entry c.args.offset) _ c.count_exits-index-end.ensures)) c.put_exit.ensures.fact (not_both _ c.if-not-exit_is_held.true c.exit_is_held.ensures.1) c.loop-index.invariant)

pub returns : goal.returns
returns g c =
    by_sites (case_kept g.C.Claims.claims c.args.self.now) c.args.entry c.args.offset (words c.sites_of-sites.result) true c.sites_of-sites.ensures
    (all_are_held (case_kept g.C.Claims.claims c.args.self.now) c.args.entry c.args.offset (sited (case_kept g.C.Claims.claims c.args.self.now).certificate.rules (words c.sites_of-sites.result) ((case_kept g.C.Claims.claims c.args.self.now).certificate.exits c.args.entry c.args.offset)) c.loop-index.index
    (omega (arith, c.loop-index-test.false, counted (case_kept g.C.Claims.claims c.args.self.now).certificate.rules (words c.sites_of-sites.result) ((case_kept g.C.Claims.claims c.args.self.now).certificate.exits c.args.entry c.args.offset) _ c.count_exits-index-end.ensures)) c.loop-index.invariant)

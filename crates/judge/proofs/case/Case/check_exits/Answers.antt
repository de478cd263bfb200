use Rattle.std.proofs.Common.{sym, ◌∙◌}
use Rattle.judge.specs.Judged.{case_kept}
use Rattle.judge.proofs.LineLemmas.{no_facts, exits_fail}
use Rattle.judge.proofs.CaseLemmas.{empty_returns}
use Rattle.judge.proofs.TrueLemmas.{unreturned_is_held}
use Rattle.transfer.proofs.EntailLemmas.{not_both}
use Rattle.judge.proofs.case.Case.check_exits.Goals as goal

pub returns-then-is_empty : goal.returns-then-is_empty
returns-then-is_empty g c =
    no_facts (case_kept g.C.Claims.claims c.args.self.now) c.args.at c.requires.placed c.requires.none
    (unreturned_is_held (case_kept g.C.Claims.claims c.args.self.now) c.args.at (empty_returns _ _ c.returns.ensures (sym c.is_empty.ensures ∙ c.if-is_empty.true)))

pub returns-then-exits_are_held : goal.returns-then-exits_are_held
returns-then-exits_are_held g c = no_facts (case_kept g.C.Claims.claims c.args.self.now) c.args.at c.requires.placed c.requires.none (c.exits_are_held.ensures.0 c.if-exits_are_held.true)

pub returns-else-exits_are_held : goal.returns-else-exits_are_held
returns-else-exits_are_held g c = exits_fail (case_kept g.C.Claims.claims c.args.self.now) c.args.at c.requires.placed c.requires.none (not_both _ c.if-exits_are_held.false c.exits_are_held.ensures.1)

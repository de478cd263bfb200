use Rattle.declaration.specs.DeclarationInCode.{meaning}
use Rattle.declaration.specs.Drafts.{gathered}
use Rattle.declaration.proofs.DraftLemmas.{is_declared, kept, same_declaration, whole_declares, whole_fails}
use Rattle.declaration.proofs.RuleLemmas.{no_fault_first}
use Rattle.declaration.proofs.drafts.Draft.finish.Goals as goal

pub returns-in-Err-clause-broken : goal.returns-in-Err-clause-broken
returns-in-Err-clause-broken g c = whole_fails (gathered c.args.self) c.in-Some.start c.in-Err.fault c.in-Some.is c.in-Err.ensures.broken

pub returns-clause-found : goal.returns-clause-found
returns-clause-found g c =
    whole_declares (gathered c.args.self) c.in-Some.start (meaning (kept c.args.self c.in-Some.start c.unwrap_or.result)) c.in-Some.is
    (no_fault_first (gathered c.args.self) c.in-Some.start c.in_default-keeps_rules.ensures.kept)
    (same_declaration c.args.self c.in-Some.start c.unwrap_or.result c.unwrap_or.ensures)

pub invariant_of-result : goal.invariant_of-result
invariant_of-result g c =
    is_declared c.args.self c.in-Some.start c.unwrap_or.result c.unwrap_or.ensures c.in_default-keeps_rules.ensures.kept c.in_default-keeps_rules.ensures.fit

pub returns-clause-declared : goal.returns-clause-declared
returns-clause-declared g c =
    is_declared c.args.self c.in-Some.start c.unwrap_or.result c.unwrap_or.ensures c.in_default-keeps_rules.ensures.kept c.in_default-keeps_rules.ensures.fit

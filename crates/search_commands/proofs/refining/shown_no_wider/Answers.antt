use Rattle.declaration.specs.DeclarationInCode.{meaning}
use Rattle.search_commands.proofs.RefiningLemmas.{shown_change}
use Rattle.search_commands.proofs.refining.shown_no_wider.Goals as goal

pub returns-in-Ok-2-clause-refined : goal.returns-in-Ok-2-clause-refined
returns-in-Ok-2-clause-refined g c =
    shown_change c.args.image.now c.args.text.now c.args.written.now (meaning c.args.given.now) (meaning c.in-Ok.less) c.requires c.in-Ok.ensures.found
    (c.is_no_wider.ensures.0 c.if-not-is_no_wider.false) (c.keeps_assertions.ensures.0 c.if-not-keeps_assertions.false) (rw c.in-Ok-2.is at c.in_ok-_certificate-in-Ok.ensures.shown)

use Rattle.std.proofs.Common.{rules, ◌≡◌, subst}
use Rattle.declaration.specs.DeclarationInCode.{meaning}
use Rattle.peripherals.specs.Loading.{image_of, loaded}
use Rattle.policy.specs.declared.watcher.Watched.TheVariants.{Broken}
use Rattle.policy.specs.Watching.{BreaksAt}
use Rattle.refuter.specs.Witnesses.{begun_from_zero}
use Rattle.refuter.proofs.read_again.Goals as goal

pub returns-then-eq-clause-broken : goal.returns-then-eq-clause-broken
returns-then-eq-clause-broken g c =
    let image = image_of c.args.image.now in
    let d = meaning c.args.declaration.now in
    let begins : loaded image d.start c.zero.result ≡ begun_from_zero image d = search rules in
    let is : c.in-Ok-Broken.field-0 ≡ Broken c.in-Ok-Broken.event c.in-Ok-Broken.rule = search rules in
    subst (λ w. BreaksAt image d c.in-Ok.events.items w c.in-Ok-Broken.event c.in-Ok-Broken.rule) begins
    ((rw c.deref-2.ensures.value at c.in-Ok-Broken.ensures.broken) c.in-Ok-Broken.event c.in-Ok-Broken.rule is)

use Rattle.std.proofs.Common.{◌≡◌}
use Rattle.pal_asm.specs.Sources.{texts}
use Rattle.labels.specs.declared.program.NumberingFault.TheVariants.{NoMemory}
use Rattle.labels.specs.Programs.{IsNumbered, IsNumberingFault}
use Rattle.labels.proofs.OneNumber.{matched, no_fault, numbers_one}
use Rattle.labels.proofs.program.number.Goals as goal

pub returns-clause-meant : goal.returns-clause-meant
returns-clause-meant g c tape numbers h =
    matched c.numbered_of.result (λ n. IsNumbered (texts c.args.parts.now) c.args.declaration.now n.tape.items n.declaration.items) (λ n. (n.tape.items ≡ tape) × (n.declaration.items ≡ numbers))
    (IsNumberingFault (texts c.args.parts.now) c.args.declaration.now) (λ e. e ≡ NoMemory)
    c.numbered_of.ensures.numbered c.numbered_of.ensures.refused
    (λ n k. numbers_one (texts c.args.parts.now) c.args.declaration.now n.tape.items n.declaration.items tape numbers k h)
    (no_fault (texts c.args.parts.now) c.args.declaration.now tape numbers h)

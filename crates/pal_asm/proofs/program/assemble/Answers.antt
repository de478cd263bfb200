use Rattle.std.proofs.Common.{◌≡◌, ◌⊎◌}
use Rattle.pal_asm.specs.declared.fault.AssembleFault.TheVariants.{Source, NoMemory}
use Rattle.pal_acts.specs.Permanent.{permanent_symbols}
use Rattle.pal_asm.specs.Sources.{texts, Means, Refuses}
use Rattle.pal_asm.specs.Programs.{symbols_of, image_of}
use Rattle.pal_asm.proofs.One.{matched, silent, tells_only, means_one, means_sound}
use Rattle.pal_asm.proofs.program.assemble.Goals as goal

pub returns-clause-meant : goal.returns-clause-meant
returns-clause-meant g c own image h =
    matched c.assemble_for.result (λ p. Means (permanent_symbols c.args.profile) (texts c.args.parts.now) (symbols_of p) (image_of p))
    (λ p. (symbols_of p ≡ own) × (image_of p ≡ image)) (Refuses (permanent_symbols c.args.profile) (texts c.args.parts.now)) (λ e. e ≡ NoMemory)
    c.assemble_for.ensures.meaning c.assemble_for.ensures.refused
    (λ p k. means_one (permanent_symbols c.args.profile) (texts c.args.parts.now) (symbols_of p) own (image_of p) image k h)
    (silent (permanent_symbols c.args.profile) (texts c.args.parts.now) own image h)

pub returns-clause-faulty : goal.returns-clause-faulty
returns-clause-faulty g c fault h =
    matched c.assemble_for.result (λ p. Means (permanent_symbols c.args.profile) (texts c.args.parts.now) (symbols_of p) (image_of p))
    (λ p. ⊥) (Refuses (permanent_symbols c.args.profile) (texts c.args.parts.now)) (λ e. (e ≡ Source fault) ⊎ (e ≡ NoMemory))
    c.assemble_for.ensures.meaning c.assemble_for.ensures.refused
    (λ p k. means_sound (permanent_symbols c.args.profile) (texts c.args.parts.now) (symbols_of p) (image_of p) fault k h)
    (tells_only (permanent_symbols c.args.profile) (texts c.args.parts.now) fault h)

use Rattle.pal_asm.specs.Programs.{symbols_in, image_in}
use Rattle.source_writer.proofs.Chosen.{read_so}
use Rattle.source_writer.proofs.choice.means.Goals as goal

pub returns-in-Ok : goal.returns-in-Ok
returns-in-Ok g c =
    read_so c.args.profile c.args.text.now (symbols_in c.in-Ok.translation) (image_in c.in-Ok.translation) c.image.result.now c.args.image.now c.eq.result c.eq.ensures c.image.ensures c.in-Ok.ensures.meaning

use Rattle.pal_acts.specs.Permanent.{permanent_symbols}
use Rattle.pal_asm.specs.Sources.{texts}
use Rattle.pal_asm.specs.Programs.{symbols_in, image_in}
use Rattle.pal_asm.specs.SourceInCode.{lines_of_fronts}
use Rattle.pal_asm.proofs.One.{means_if, refuses_if}
use Rattle.pal_asm.proofs.translation.translate_parts.Goals as goal

pub returns-clause-meaning : goal.returns-clause-meaning
returns-clause-meaning g c =
    means_if (permanent_symbols c.args.profile) (texts c.args.parts.now) c.in-Ok.reading.acts (lines_of_fronts c.in-Ok.reading.fronts.items) c.requires c.in-Ok.ensures c.translate_acts.result symbols_in image_in c.translate_acts.ensures.found

pub returns-clause-refused : goal.returns-clause-refused
returns-clause-refused g c =
    refuses_if (permanent_symbols c.args.profile) (texts c.args.parts.now) c.in-Ok.reading.acts (lines_of_fronts c.in-Ok.reading.fronts.items) c.requires c.in-Ok.ensures c.translate_acts.result c.translate_acts.ensures.refused

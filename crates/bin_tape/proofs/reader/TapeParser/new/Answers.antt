use Rattle.std.proofs.Common.{rules, refl}
use Rattle.bin_tape.proofs.Images.{blank_image}
use Rattle.bin_tape.proofs.reader.TapeParser.new.Goals as goal

pub returns : goal.returns
returns c = (refl, (refl, record { image = rw c.empty.ensures.cells blank_image; location_is = search rules; sum_is = search rules }))

use Rattle.std.proofs.Common.{◌≤◌, [], ◌∷◌, length, length-append, arith}
use Rattle.certificate_lines.specs.Spelling.{line_text}
use Rattle.certificate_lines.specs.Packed.{said_of}
use Rattle.certificate.proofs.SumLengthLemmas.{line_short}
use Rattle.certificate.proofs.SpelledLemmas.{joined, whole}
use Rattle.certificate.proofs.line_text.LineText.put_told.Goals as goal

pub returns : goal.returns
returns c =
    let short : length (line_text c.args.version (said_of c.args.lent.now)) ≤ 49152 = line_short c.args.version (said_of c.args.lent.now) c.requires.form.0 in
    whole _ _ _ c.clear.ensures (joined _ _ _ _ _ c.told_line.ensures c.push.ensures.adds) c.push.ensures.fits
    (omega (arith, short, length-append (line_text c.args.version (said_of c.args.lent.now)) (10 ∷ [])))

use Rattle.std.proofs.Common.{◌+◌, drop, refl}
use Rattle.certificate_lines.specs.Packed.{said_of, said_lines}
use Rattle.certificate_lines.proofs.SumDetailLemmas.{room_under, said_with}
use Rattle.certificate_lines.proofs.lines.first_said.Goals as goal

pub add_details-requires-clause-room : goal.add_details-requires-clause-room
add_details-requires-clause-room g c =
    room_under c.begin_said.new.fact (said_of c.line.result) (drop (c.args.start + 1) (said_lines c.args.lines.now)) (c.if-not-begin_said.ensures.says refl)
    (c.if-not-begin_said.ensures.cells refl) c.requires.fit

pub returns-clause-there : goal.returns-clause-there
returns-clause-there g c = rw c.line.ensures.there c.if-not-begin_said.ensures.there

pub returns-clause-says : goal.returns-clause-says
returns-clause-says g c =
    said_with c.begin_said.new.fact c.add_details.new.fact (said_of c.line.result) (drop c.args.start (said_lines c.args.lines.now)) (drop (c.args.start + 1) (said_lines c.args.lines.now))
    c.line.ensures.there (c.if-not-begin_said.ensures.says refl) (c.if-not-begin_said.ensures.cells refl) c.add_details.ensures.says

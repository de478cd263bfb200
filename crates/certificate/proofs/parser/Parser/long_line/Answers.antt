use Rattle.std.proofs.Common.{refl}
use Rattle.certificate.proofs.SumParserLemmas.{long_first, long_refused}
use Rattle.certificate.proofs.parser.Parser.long_line.Goals as goal

pub returns-in-Some : goal.returns-in-Some
returns-in-Some g c = λ bytes h small.
    long_refused c.args.self.now.kept h.text bytes c.args.self.now.progress c.in-Some.progress c.in-Some.is small c.args.self.now.line.items
    c.args.self.now.is_long c.in-Some.progress.number c.requires.long h.parts refl

pub returns-in-None : goal.returns-in-None
returns-in-None g c = λ bytes h small.
    long_first c.args.self.now.kept h.text c.args.self.now.line.items bytes c.args.self.now.progress c.args.self.now.is_long c.in-None.is c.requires.long h.parts small

use Rattle.std.proofs.lemmas.Bool.Decides.{Decides-eqb}
use Rattle.std.proofs.lemmas.Slice.Eq.{strip_prefix_is}
use Rattle.std.specs.Prelude.{Some, None}
use Rattle.certificate_lines.proofs.LineLemmas.{skipped, not_there}
use Rattle.certificate_lines.proofs.fields.Fields.skip.Goals as goal

pub returns-in-Some-clause-read : goal.returns-in-Some-clause-read
returns-in-Some-clause-read c =
    skipped c.args.self.now.reads c.args.self.now.rest.now c.args.text.now c.in-Some.rest.now
    (strip_prefix_is Decides-eqb c.args.self.now.rest.now c.args.text.now (Some c.in-Some.rest) c.in-Some.ensures.cases)

pub returns-in-None-clause-only : goal.returns-in-None-clause-only
returns-in-None-clause-only c = λ rest e.
    not_there c.args.self.now.reads c.args.self.now.rest.now c.args.text.now rest
    (strip_prefix_is Decides-eqb c.args.self.now.rest.now c.args.text.now None c.in-None.ensures.cases) e

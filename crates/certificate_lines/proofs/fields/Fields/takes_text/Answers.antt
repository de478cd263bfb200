use Rattle.std.specs.Prelude.{Some, None}
use Rattle.std.proofs.lemmas.Bool.Decides.{Decides-eqb}
use Rattle.std.proofs.lemmas.Slice.Eq.{strip_prefix_is}
use Rattle.certificate_lines.proofs.LineLemmas.{not_there, taken_there}
use Rattle.certificate_lines.proofs.fields.Fields.takes_text.Goals as goal

pub returns-in-Some-clause-taken : goal.returns-in-Some-clause-taken
returns-in-Some-clause-taken c = λ done.
    taken_there c.args.self.now.reads c.args.self.now.rest.now c.args.text.now c.in-Some.rest.now c.if-not-self.false
    (strip_prefix_is Decides-eqb c.args.self.now.rest.now c.args.text.now (Some c.in-Some.rest) c.in-Some.ensures.cases)

pub returns-in-None-clause-only : goal.returns-in-None-clause-only
returns-in-None-clause-only c = λ rest e.
    not_there c.args.self.now.reads c.args.self.now.rest.now c.args.text.now rest
    (strip_prefix_is Decides-eqb c.args.self.now.rest.now c.args.text.now None c.in-None.ensures.cases) e

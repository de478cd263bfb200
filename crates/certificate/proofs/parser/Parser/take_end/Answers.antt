use Rattle.std.proofs.Common.{[], ◌∷◌, ◌++◌, ◌∙◌, refl}
use Rattle.certificate.proofs.ServedLemmas.{piece_length}
use Rattle.certificate.proofs.SumServedLemmas.{refused_on}
use Rattle.certificate.proofs.parser.Parser.take_end.Goals as goal

pub returns-in-Err-clause-seen : goal.returns-in-Err-clause-seen
returns-in-Err-clause-seen g c = λ before h e.
    refused_on (before ++ c.args.rest.now) (10 ∷ []) (before ++ c.args.rest.now ++ 10 ∷ []) c.in-Err.fault refl (c.in-Err.ensures.seen before h e)

pub returns-clause-seen : goal.returns-clause-seen
returns-clause-seen g c = λ before h e.
    c.end.ensures.seen (before ++ c.args.rest.now) (c.in_default.ensures.seen before h e)
    (c.in_default.ensures.count ∙ piece_length before c.args.rest.now c.args.self.now.count e)

use Rattle.std.proofs.Common.{[], Err, subst}
use Rattle.certificate.proofs.SumParserLemmas.{Answers, taken_all, of_refused, of_finished, answers_read, answers_refused, was_read}
use Rattle.certificate.proofs.Certificate.parse.Goals as goal

pub finish-requires-clause-read : goal.finish-requires-clause-read
finish-requires-clause-read g c = was_read c.take_all.new.self c.args.bytes.now (c.in_default.ensures.seen [] c.new-parser.ensures.seen c.new-parser.ensures.count)

pub returns-in-Err : goal.returns-in-Err
returns-in-Err g c =
    let bytes = c.args.bytes.now in
    let h = of_refused bytes c.in-Err.fault (c.in-Err.ensures.seen [] c.new-parser.ensures.seen c.new-parser.ensures.count) in
    record { read = tt; refused = answers_refused bytes (Err c.in-Err.fault) h; memory = λ e. subst (Answers bytes) e h }

pub returns : goal.returns
returns g c =
    let bytes = c.args.bytes.now in
    let h = of_finished bytes c.finish.result (c.finish.ensures bytes (c.in_default.ensures.seen [] c.new-parser.ensures.seen c.new-parser.ensures.count)
    (taken_all bytes c.new-parser.result.count c.take_all.new.self.count c.new-parser.ensures.count c.in_default.ensures.count)) in
    record { read = answers_read bytes c.finish.result h; refused = answers_refused bytes c.finish.result h; memory = λ e. subst (Answers bytes) e h }

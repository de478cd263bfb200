use Rattle.std.proofs.Common.{◌<◌, ◌+◌, ◌++◌, [], ◌∷◌, ◌∙◌, arith, List, ℕ, length, take, drop, ap}
use Rattle.certificate.proofs.ServedLemmas.{piece_rest, with_feed}
use Rattle.certificate.proofs.SumServedLemmas.{refused_on}
use Rattle.certificate.proofs.parser.Parser.take.Goals as goal

pub returns-in-Err-clause-seen : goal.returns-in-Err-clause-seen
returns-in-Err-clause-seen g c = λ before h e.
    let bytes = c.args.bytes.now in
    let end = c.line_len-end.result in
    let within : end < length bytes = (let z = c.if-end-bytes.true in omega (arith, z)) in
    refused_on (before ++ take end bytes ++ 10 ∷ []) (drop (end + 1) bytes) (before ++ bytes) c.in-Err.fault
    (ap (λ (x : List ℕ). x ++ drop (end + 1) bytes) (with_feed before bytes end within (c.line_len-end.ensures.feed within)) ∙ piece_rest before bytes (end + 1))
    (c.in-Err.ensures.seen before h e)

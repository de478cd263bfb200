use Rattle.std.proofs.Common.{sym, ◌∙◌}
use Rattle.bin_tape.proofs.FromSource.{serves_tape, serves_only, serves_written, serves_refused, serves_exact, serves_unanswered, serves_limit, serves_prompt}
use Rattle.bin_tape.proofs.read.read_from.Goals as goal

pub returns : goal.returns
returns g c =
    let served = c.read_source.ensures.serves in
    let marked = c.read_source.ensures.marks in
    record {
      tape = serves_tape _ _ c.read_source.result served;
      only = serves_only _ _ c.read_source.result _ marked served;
      written = serves_written _ _ c.read_source.result _ marked served;
      refused = λ unmarked. serves_refused _ _ c.read_source.result served (sym marked ∙ unmarked);
      exact = serves_exact _ _ c.read_source.result _ marked served;
      failed = marked;
      unanswered = serves_unanswered _ _ c.read_source.result served;
      limit = serves_limit _ _ c.read_source.result served;
      prompt = serves_prompt _ _ c.read_source.result served;
    }

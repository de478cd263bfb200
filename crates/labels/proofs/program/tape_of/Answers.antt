use Rattle.std.proofs.Common.{rules, ◌≡◌, Ok}
use Rattle.labels.proofs.Numbers.{has_word}
use Rattle.labels.proofs.program.tape_of.Goals as goal

pub returns-in-Ok-clause-has_word : goal.returns-in-Ok-clause-has_word
returns-in-Ok-clause-has_word g c =
    let done : c.write_tape.result ≡ Ok tt = search rules in
    has_word c.write_tape.result c.args.image.now c.write_tape.ensures.empty done

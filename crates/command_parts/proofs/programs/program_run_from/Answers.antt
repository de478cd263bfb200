use Rattle.std.proofs.Common.{◌≡◌, rules, refl, Err, Ok}
use Rattle.command_parts.proofs.AnswerLemmas.{goes_on, read_alone, refused_so}
use Rattle.command_parts.proofs.programs.program_run_from.Goals as goal

pub returns-in_err-program-clause-reads : goal.returns-in_err-program-clause-reads
returns-in_err-program-clause-reads g c =
    let told : c.from_residual.result ≡ Err c.in_err-program.field-0.0 = search rules in
    rw told (refused_so (λ same. (same, refl)) (λ rest. refused_so (λ none. refl) (λ never. absurd never) rest) c.in_err-program.ensures.reads)

pub returns-in_err-events-clause-reads : goal.returns-in_err-events-clause-reads
returns-in_err-events-clause-reads g c =
    let told : c.from_residual-in_err-events.result ≡ Err c.in_err-events.field-0.0 = search rules in
    rw told (goes_on (Err _) (λ rest. goes_on (Err _) (λ none. read_alone (Err _) c.in_err-events.ensures.faults tt (search rules) c.in_err-events.ensures.takes tt) rest) c.in_ok-program.ensures.reads)

pub returns-clause-reads : goal.returns-clause-reads
returns-clause-reads g c =
    goes_on (Ok _) (λ rest. goes_on (Ok _) (λ none.
    read_alone (Ok _) tt (record { events = c.in_ok-events.events.items; spelled = c.in_ok-events.ensures.spells }, tt) c.in_ok-events.ensures.marks c.in_ok-events.ensures.takes tt) rest)
    c.in_ok-program.ensures.reads

use Rattle.std.proofs.Common.{rules, ◌≡◌, ◌∙◌, ap, sym}
use Rattle.instruct.specs.declared.Profile.{Profile}
use Rattle.processor.specs.Fetch.{fetched}
use Rattle.processor.specs.Machine.{State}
use Rattle.processor.specs.Steps.{state_of}
use Rattle.processor.specs.declared.fetch.DecodedInstruction.TheVariants as fetch
use Rattle.peripherals.specs.World.{profile_of, view}
use Rattle.proposer.proofs.obstacles.is_unsupported.Goals as goal

pub returns-in-Unsupported : goal.returns-in-Unsupported
returns-in-Unsupported g c = λ is.
    let machine = profile_of c.args.world.now in
    let cpu = c.cpu-cpu.result.now in
    let stands : (view c.args.world.now).state.pc ≡ c.args.at = search rules in
    let by_state : fetched machine (view c.args.world.now).state ≡ fetched machine (state_of cpu) = ap (λ (s : State). fetched machine s) (sym c.cpu-cpu.ensures.state) in
    let by_machine : fetched machine (state_of cpu) ≡ fetched cpu.profile (state_of cpu) = ap (λ (p : Profile). fetched p (state_of cpu)) (sym c.cpu-cpu.ensures.profile) in
    record { stands = stands; word = c.in-Unsupported.field-0; fetches = by_state ∙ (by_machine ∙ (sym c.fetch.ensures ∙ c.in-Unsupported.is)) }

use Rattle.std.proofs.Common.{◌≡◌, ◌++◌, ◌∙◌, List, ℕ, ap, rules}
use Rattle.declaration.specs.DeclarationInCode.{meaning}
use Rattle.search_commands.specs.VerifyText.{proposed_text}
use Rattle.search_commands.proofs.messages.verify_proposed_message.Goals as goal

pub returns-clause-told : goal.returns-clause-told
returns-clause-told g c =
    let settled = c.in_ok-last.ensures.settled in
    let reason = c.in_ok-reason.reason.items in
    let first = c.in_ok-line.ensures ∙ ap (proposed_text c.in_ok-told.told.answer) (c.deref.ensures.value ∙ c.in_ok-told.ensures.told.line_is) in
    let added : c.extend_from_slice.new.self.items ≡ c.in_ok-line.line.items ++ reason = search rules in
    record {
      declaration = meaning c.in_ok-last.last.declaration;
      declares = settled.text;
      start_is = settled.start_is ∙ c.in_ok-proposal.ensures.fits.start;
      profile_is = settled.profile_is ∙ c.in_ok-proposal.ensures.fits.profile;
      answers = c.in_ok-told.ensures.told.answers;
      reason = rw c.in_ok-told.ensures.same settled.reason;
      told = reason;
      untold = c.in_ok-reason.ensures;
      line_is = added ∙ ap (λ (t : List ℕ). t ++ reason) first;
    }

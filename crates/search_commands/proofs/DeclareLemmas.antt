-- What `declare` writes.
use Rattle.std.proofs.Common.{ℕ, ◌≡◌, true, false, List, Option, None, refl, inl, inr}
use Rattle.declaration.specs.DeclarationInCode.{meaning}
use Rattle.certificate.specs.declared.Certificate.{Certificate}
use Rattle.proposer.specs.Proposals.{Fits, IsListed, IsShown}
use Rattle.proposer.specs.declared.Proposal.{Proposal}
use Rattle.proposer.specs.declared.Verdict.TheVariants.{Safe}
use Rattle.search_commands.specs.DeclareText.{IsBare, IsProposalOf}
use Rattle.command_parts.specs.declared.options.DeclareOptions.{DeclareOptions}
use Rattle.command_parts.specs.declared.status.Status.TheVariants.{Done, Refused}

done_not_refused : {A : Type 0} → Done ≡ Refused → A
done_not_refused is = cc

pub refused_not_done : {A : Type 0} → Refused ≡ Done → A
refused_not_done is = cc

-- with a certificate
pub shown_proposal : {A : Type 0} → (options : DeclareOptions) (image : List (Option ℕ)) (p : Proposal A) (c : Certificate A) →
    Fits options.start options.profile p → IsShown image p.declaration p.verdict → (options.reads ≡ true → IsListed p.declaration p.verdict) →
    (options.reads ≡ false → (meaning p.declaration).reads ≡ None) → p.verdict ≡ Safe c → IsProposalOf options image Done p.text.items
shown_proposal {A = A} options image p c fits shown listed unlisted is =
    let kept : IsShown {A = A} image p.declaration (Safe c) = rw is at shown in
    record {
      is = record { declaration = meaning p.declaration; declares = fits.text; start_is = fits.start; profile_is = fits.profile };
      ends = inl refl;
      unlisted = unlisted;
      bare = λ refused. done_not_refused refused;
      safe = λ done. kept.0;
      listed = λ done asked. let lists : IsListed {A = A} p.declaration (Safe c) = rw is at listed asked in lists;
    }

-- without one
pub remarked_proposal : (options : DeclareOptions) (image : List (Option ℕ)) (text : List ℕ) →
    IsBare options text → IsProposalOf options image Refused text
remarked_proposal options image text is = record {
  is = is.0;
  ends = inr refl;
  unlisted = λ asked. is.1;
  bare = λ refused. is.1;
  safe = λ done. refused_not_done done;
  listed = λ done asked. refused_not_done done;
}

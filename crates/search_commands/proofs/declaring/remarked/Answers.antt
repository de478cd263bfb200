use Rattle.std.proofs.Common.{◌≡◌, ◌∙◌}
use Rattle.declaration.specs.DeclarationInCode.{meaning}
use Rattle.search_commands.specs.DeclareText.{IsBare}
use Rattle.search_commands.proofs.declaring.remarked.Goals as goal

pub returns-then-branch-clause-declares : goal.returns-then-branch-clause-declares
returns-then-branch-clause-declares g c =
    let is : IsBare c.args.options.now c.in_ok-text.text.items = rw c.deref.ensures.value at (c.in_ok-declares_for.ensures.declares c.if-branch.true) in is

pub returns-clause-declares : goal.returns-clause-declares
returns-clause-declares g c =
    let copied : c.in_ok-copy_of.field-0.items ≡ c.args.proposal.now.text.items = c.in_ok-copy_of.ensures ∙ c.deref-2.ensures.value in
    rw copied (
      record {
        declaration = meaning c.args.proposal.now.declaration;
        declares = c.requires.text;
        start_is = c.requires.start;
        profile_is = c.requires.profile;
      },
      c.requires.unlisted,
    )

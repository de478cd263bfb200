use Rattle.std.proofs.Common.{◌≡◌, rules}
use Rattle.std.specs.Prelude.{None}
use Rattle.declaration.specs.DeclarationInCode.{meaning}
use Rattle.proposer.proofs.width.is_as_wide.Goals as goal

pub returns : goal.returns
returns g c =
    let unlisted : (meaning c.args.more.now).reads ≡ None = search rules in
    λ yes. record {
      start_is = c.is_alike.ensures.start c.if-not-is_alike.false;
      profile_is = c.is_alike.ensures.profile c.if-not-is_alike.false;
      cells = c.keeps_cells.ensures yes;
      variables = c.keeps_sets.ensures.variables c.if-not-keeps_sets.false;
      stops = c.keeps_sets.ensures.stops c.if-not-keeps_sets.false;
      pauses = c.keeps_sets.ensures.pauses c.if-not-keeps_sets.false;
      moves = c.keeps_permissions.ensures.moves c.if-not-keeps_permissions.false;
      abandon = c.keeps_permissions.ensures.abandon c.if-not-keeps_permissions.false;
      reads = unlisted;
    }

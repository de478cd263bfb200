use Rattle.std.proofs.Common.{rules}
use Rattle.search_commands.proofs.adding.is_no_wider.Goals as goal

pub returns : goal.returns
returns g c = (
  λ yes. record {
    start_is = search rules;
    profile_is = search rules;
    adds = c.adds_only.ensures.0 yes;
    listed = search rules;
  },
  λ k. c.adds_only.ensures.1 k.adds,
)

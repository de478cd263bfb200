use Rattle.std.proofs.Common.{rules}
use Rattle.declaration.specs.DeclarationInCode.{meaning}
use Rattle.proposer.specs.Widths.{IsAsWide}
use Rattle.proposer.proofs.widening.proposed_after.Goals as goal

pub returns-clause-wider : goal.returns-clause-wider
returns-clause-wider g c =
    let wide : IsAsWide (meaning c.args.given.now.declaration) (meaning c.args.drafted.declaration) = search rules in
    record {
      fits = record {
        start = wide.start_is;
        profile = wide.profile_is;
        declared = c.is_declared.ensures;
        text = c.requires.drafted.text;
        routines = c.requires.drafted.routines;
      };
      wide = wide;
      shown = c.in_ok-verdict.ensures.shown;
    }

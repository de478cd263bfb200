use Rattle.std.proofs.Common.{rules}
use Rattle.reports.proofs.drafting.draft_page.Goals as goal

pub below_lines-requires : goal.below_lines-requires
below_lines-requires g c = rw c.in_ok-report.ensures.finding tt

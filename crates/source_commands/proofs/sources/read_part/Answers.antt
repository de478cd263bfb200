use Rattle.std.proofs.Common.{rules, ◌<◌, ◌≤◌, length, refl}
use Rattle.source_commands.proofs.PartLemmas.{at_end, long_text, whole}
use Rattle.source_commands.proofs.sources.read_part.Goals as goal

pub returns-then-len-ge-MOST_PART-clause-faults : goal.returns-then-len-ge-MOST_PART-clause-faults
returns-then-len-ge-MOST_PART-clause-faults g c =
    let long : 65536 < length c.in_ok-part.part.items = search rules in
    rw c.too_long.ensures (refl, long_text (g.R.ByteSource.remaining c.args.source.now) c.in_ok-part.part.items c.in_ok-part.ensures.text long)

pub returns-clause-read : goal.returns-clause-read
returns-clause-read g c =
    let short : length c.in_ok-part.part.items ≤ 65536 = search rules in
    whole (g.R.ByteSource.remaining c.args.source.now) c.in_ok-part.part.items 65536 c.in_ok-part.ensures.text short

pub returns-clause-ended : goal.returns-clause-ended
returns-clause-ended g c =
    let short : length c.in_ok-part.part.items ≤ 65536 = search rules in
    at_end (g.R.ByteSource.remaining c.args.source.now) _ c.in_ok-part.part.items 65536 c.in_ok-part.ensures.text c.in_ok-part.ensures.taken short

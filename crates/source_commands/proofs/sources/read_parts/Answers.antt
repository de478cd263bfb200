use Rattle.std.proofs.Common.{rules, refl, sym, ap, ◌≡◌, ◌+◌, ◌<◌, ◌≤◌, [], ◌∷◌, ◌++◌, map, length, ◌∙◌, false, Vec, Err, ℕ}
use Rattle.command_parts.specs.Faults.{fails_to_read}
use Rattle.std.specs.List.{AllByRecursion, list_any}
use Rattle.std.proofs.lemmas.Bool.{true≢false}
use Rattle.std.proofs.lemmas.List.{map-append, take_all}
use Rattle.source_commands.specs.SourceTexts.{IsShort}
use Rattle.source_commands.proofs.PartLemmas.{all_push, none_marked, one_tells, none_more, bad_number, parts_fault}
use Rattle.source_commands.proofs.LaterLemmas.{unread_long, unread_failed, unread_left, read_whole, marked_whole, left_whole}
use Rattle.source_commands.proofs.SourceLemmas.{reads_next, unmarked_next, same_next, none_taken, takes_next, ended_next}
use Rattle.source_commands.proofs.sources.read_parts.Goals as goal

pub returns-then-is_bad_number-clause-faults : goal.returns-then-is_bad_number-clause-faults
returns-then-is_bad_number-clause-faults g c =
    rw c.too_long.ensures (bad_number g.R.ByteSource.remaining (map g.R.ByteSource.mark c.args.sources.now) (map g.R.ByteSource.remaining c.args.sources.now) c.args.sources.now (search rules))

pub returns-then-is_bad_number-clause-order : goal.returns-then-is_bad_number-clause-order
returns-then-is_bad_number-clause-order g c =
    rw c.too_long.ensures (
    record {
      marks = none_marked g.R.ByteSource.mark c.args.sources.now c.requires;
      number = λ bad. (refl, refl);
      unread = λ at long. refl;
      unread_after_failure = λ at there. refl;
      unread_after = λ at has. refl;
      takes = none_taken 65537 (map g.R.ByteSource.remaining c.args.sources.now);
    }
    )

pub returns-then-is_err-clause-order : goal.returns-then-is_err-clause-order
returns-then-is_err-clause-order g c =
    let inv = c.loop-source.invariant in
    let within : c.loop-source.source-index < length c.loop-source.sources = search rules in
    let short : c.loop-source.source-index < length c.args.sources.now = search rules in
    let told : g.R.ByteSource.mark c.read_part.new.source ≡ false = search rules in
    record {
      marks = one_tells g.R.ByteSource.mark c.loop-source.sources c.loop-source.source-index c.read_part.new.source within inv.2 inv.3 ∙ told;
      number = λ bad. absurd (true≢false (sym bad ∙ inv.5));
      unread = λ at long. unread_long g.R.ByteSource.remaining (λ part. part.items) c.loop-source.sources c.args.sources.now c.loop-source.source-index c.read_part.new.source c.loop-source.parts.items at inv.0 inv.1 inv.4 long;
      unread_after_failure = λ at there. unread_failed g.R.ByteSource.mark c.loop-source.sources c.args.sources.now c.loop-source.source-index c.read_part.new.source at within inv.2 inv.4 there;
      unread_after = λ at has. unread_left g.R.ByteSource.remaining c.loop-source.sources c.args.sources.now c.loop-source.source-index c.read_part.new.source at inv.7 inv.4 has;
      takes = takes_next 65537 g.R.ByteSource.remaining c.loop-source.sources c.args.sources.now c.loop-source.source-index c.source-item.result c.read_part.new.source within short inv.4 inv.6 c.in-Ok.ensures.takes;
    }

pub returns-in-Err-clause-faults : goal.returns-in-Err-clause-faults
returns-in-Err-clause-faults g c =
    let inv = c.loop-source.invariant in
    let number : length c.loop-source.parts.items + 1 ≡ c.len.result + 1 = search rules in
    parts_fault (Vec ℕ g.row.A.Denot) g.R.ByteSource.mark g.R.ByteSource.remaining (λ part. part.items) c.loop-source.sources c.args.sources.now c.loop-source.source-index c.source-item.result c.read_part.new.source c.loop-source.parts.items c.in-Err.fault
    (search rules) (search rules) inv.4 inv.5 inv.0 inv.1 c.in-Err.ensures.marks (rw number c.in-Err.ensures.faults)

pub returns-in-Err-clause-order : goal.returns-in-Err-clause-order
returns-in-Err-clause-order g c =
    let inv = c.loop-source.invariant in
    let within : c.loop-source.source-index < length c.loop-source.sources = search rules in
    let short : c.loop-source.source-index < length c.args.sources.now = search rules in
    let told : g.R.ByteSource.mark c.read_part.new.source ≡ fails_to_read {T = Vec (Vec ℕ g.row.A.Denot) g.row.A.Denot} (Err c.in-Err.fault) = search rules in
    record {
      marks = one_tells g.R.ByteSource.mark c.loop-source.sources c.loop-source.source-index c.read_part.new.source within inv.2 inv.3 ∙ told;
      number = λ bad. absurd (true≢false (sym bad ∙ inv.5));
      unread = λ at long. unread_long g.R.ByteSource.remaining (λ part. part.items) c.loop-source.sources c.args.sources.now c.loop-source.source-index c.read_part.new.source c.loop-source.parts.items at inv.0 inv.1 inv.4 long;
      unread_after_failure = λ at there. unread_failed g.R.ByteSource.mark c.loop-source.sources c.args.sources.now c.loop-source.source-index c.read_part.new.source at within inv.2 inv.4 there;
      unread_after = λ at has. unread_left g.R.ByteSource.remaining c.loop-source.sources c.args.sources.now c.loop-source.source-index c.read_part.new.source at inv.7 inv.4 has;
      takes = takes_next 65537 g.R.ByteSource.remaining c.loop-source.sources c.args.sources.now c.loop-source.source-index c.source-item.result c.read_part.new.source within short inv.4 inv.6 c.in-Err.ensures.takes;
    }

pub loop-source-preserved : goal.loop-source-preserved
loop-source-preserved g c =
    let inv = c.loop-source.invariant in
    let within : c.loop-source.source-index < length c.loop-source.sources = search rules in
    let short : c.loop-source.source-index < length c.args.sources.now = search rules in
    let pushed : c.push.new.self.items ≡ c.loop-source.parts.items ++ c.in-Ok.part ∷ [] = search rules in
    let reads = reads_next g.R.ByteSource.remaining (λ part. part.items) c.loop-source.sources c.args.sources.now c.loop-source.source-index _ c.loop-source.parts.items c.in-Ok.part
    within short inv.4 inv.0 c.in-Ok.ensures.read in
    let fit : AllByRecursion IsShort (map (λ part. part.items) (c.loop-source.parts.items ++ c.in-Ok.part ∷ [])) =
    rw (map-append (λ part. part.items) c.loop-source.parts.items (c.in-Ok.part ∷ [])) (all_push IsShort (map (λ part. part.items) c.loop-source.parts.items) c.in-Ok.part.items inv.1 c.in-Ok.ensures.fits) in
    let none = none_more g.R.ByteSource.mark c.loop-source.sources c.loop-source.source-index c.read_part.new.source within inv.2 (search rules) in (
      rw pushed reads,
      rw pushed fit,
      none,
      search (rules, unmarked_next),
      same_next c.loop-source.sources c.args.sources.now c.loop-source.source-index c.read_part.new.source within short inv.4,
      inv.5,
      takes_next 65537 g.R.ByteSource.remaining c.loop-source.sources c.args.sources.now c.loop-source.source-index c.source-item.result c.read_part.new.source within short inv.4 inv.6 c.in-Ok.ensures.takes,
      ended_next g.R.ByteSource.remaining c.loop-source.sources c.args.sources.now c.loop-source.source-index c.source-item.result c.read_part.new.source within short inv.4 inv.7 c.in-Ok.ensures.ended,
    )

pub returns-clause-order : goal.returns-clause-order
returns-clause-order g c =
    let inv = c.loop-source.invariant in
    let past : length c.args.sources.now ≤ c.loop-source.source-index = search rules in
    let done : length c.loop-source.sources ≤ c.loop-source.source-index = search rules in
    record {
      marks = ap (list_any g.R.ByteSource.mark) (sym (take_all c.loop-source.source-index c.loop-source.sources done)) ∙ inv.2;
      number = λ bad. absurd (true≢false (sym bad ∙ inv.5));
      unread = λ at long. read_whole g.R.ByteSource.remaining (λ part. part.items) c.loop-source.sources c.args.sources.now c.loop-source.source-index c.loop-source.parts.items at past inv.0 inv.1 long;
      unread_after_failure = λ at there. marked_whole g.R.ByteSource.mark c.loop-source.sources c.args.sources.now c.loop-source.source-index at done inv.2 there;
      unread_after = λ at has. left_whole g.R.ByteSource.remaining c.loop-source.sources c.args.sources.now c.loop-source.source-index at past inv.7 has;
      takes = inv.6;
    }

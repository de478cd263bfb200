use Rattle.std.proofs.Common.{◌≡◌, ◌+◌, ◌≤◌, refl, ap, ◌∙◌, List, ℕ, [], Some, length, arith}
use Rattle.std.specs.Prelude.{codes, ◌++◌, nat_lt}
use Rattle.std.proofs.lemmas.Bool.{and_parts, and_from, ltb-true, lt-ltb}
use Rattle.word12.specs.Words.{octal_text}
use Rattle.certificate_lines.specs.FieldsLeft.{left}
use Rattle.certificate_lines.proofs.PackedLemmas.{from_none}
use Rattle.certificate_lines.proofs.LineLemmas.{both, whole, routine_fields}
use Rattle.certificate_lines.specs.FieldSpelling.{set_text, rank_text}
use Rattle.certificate_lines.specs.Runs.{added}
use Rattle.certificate_lines.proofs.SumReadLemmas.{added_ends}
use Rattle.certificate_lines.proofs.line.read_routine.Goals as goal

pub returns-then-is_done-clause-read : goal.returns-then-is_done-clause-read
returns-then-is_done-clause-read c = λ version steps.
    let l = from_none c.args.runs.now.items c.set-one.new.runs.items c.set-other.new.runs.items c.set-one.result c.set-other.result c.requires.runs c.set-one.ensures.front c.set-other.ensures.front
    c.set-one.ensures.count c.set-other.ensures.count in
    let f0 = left c.of-fields.result in let f1 = left c.skip.new.self in let f2 = left c.word-entry.new.self in let f3 = left c.skip-2.new.self in
    let f4 = left c.rank-rank.new.self in let f5 = left c.skip-3.new.self in let f6 = left c.set-one.new.self in let f7 = left c.skip-4.new.self in
    let f8 = left c.set-other.new.self in
    let sites = added c.args.runs.now.items c.set-one.new.runs.items in
    let writes = added c.set-one.new.runs.items c.set-other.new.runs.items in
    rw (l.one_is, l.other_is) (record {
      form = and_from (nat_lt c.word-entry.result 4096) _ (lt-ltb _ 4096 (omega arith)) (lt-ltb _ 64 c.rank-rank.ensures.small);
      fits = (added_ends c.args.runs.now.items c.set-one.new.runs.items, added_ends c.set-one.new.runs.items c.set-other.new.runs.items);
      text = whole c.args.line.now (codes "routine " ++ octal_text c.word-entry.result ++ codes " rank " ++ rank_text c.rank-rank.result ++ codes " sites " ++ set_text sites ++ codes " writes " ++ set_text writes) f0 f8 c.of-fields.ensures (c.if-is_done.ensures.0 refl)
          (both f0 f7 f8 (codes "routine " ++ octal_text c.word-entry.result ++ codes " rank " ++ rank_text c.rank-rank.result ++ codes " sites " ++ set_text sites ++ codes " writes ") (set_text writes)
          (both f0 f6 f7 (codes "routine " ++ octal_text c.word-entry.result ++ codes " rank " ++ rank_text c.rank-rank.result ++ codes " sites " ++ set_text sites) (codes " writes ")
          (both f0 f5 f6 (codes "routine " ++ octal_text c.word-entry.result ++ codes " rank " ++ rank_text c.rank-rank.result ++ codes " sites ") (set_text sites)
          (both f0 f4 f5 (codes "routine " ++ octal_text c.word-entry.result ++ codes " rank " ++ rank_text c.rank-rank.result) (codes " sites ")
          (both f0 f3 f4 (codes "routine " ++ octal_text c.word-entry.result ++ codes " rank ") (rank_text c.rank-rank.result)
          (both f0 f2 f3 (codes "routine " ++ octal_text c.word-entry.result) (codes " rank ")
          (both f0 f1 f2 (codes "routine ") (octal_text c.word-entry.result)
          c.skip.ensures.read c.word-entry.ensures.read) c.skip-2.ensures.read) c.rank-rank.ensures.read) c.skip-3.ensures.read) c.set-one.ensures.read) c.skip-4.ensures.read) c.set-other.ensures.read);
    })

pub returns-else-is_done-clause-only : goal.returns-else-is_done-clause-only
returns-else-is_done-clause-only c = λ version r form e.
    let none : length c.args.runs.now.items ≡ 0 = ap length c.requires.runs in
    let h = and_parts (nat_lt r.entry 4096) _ form in
    let entry = c.word-entry.ensures.only r.entry _ (ltb-true r.entry 4096 h.0)
    (c.skip.ensures.only _ (c.of-fields.ensures ∙ ap (λ (x : List ℕ). Some x) (e ∙ routine_fields r))) in
    let rank = c.rank-rank.ensures.only r.rank _ (ltb-true r.rank 64 h.1) (c.skip-2.ensures.only _ entry.1) in
    let sites = c.set-one.ensures.only r.sites _ (omega (arith, none)) refl (c.skip-3.ensures.only _ rank.1) in
    let few : length c.set-one.new.runs.items ≤ length c.args.runs.now.items + 2048 = sites.1 in
    let writes = c.set-other.ensures.only r.writes [] (omega (arith, few, none)) tt (c.skip-4.ensures.only _ sites.0) in
    c.if-is_done.ensures.1 writes.0

use Rattle.std.proofs.Common.{◌≡◌, ◌+◌, ◌≤◌, ◌++◌, true, drop, refl, ap, ◌∙◌, List, ℕ, [], Some, length, arith}
use Rattle.std.specs.Prelude.{codes, IfSome, nat_lt}
use Rattle.std.proofs.lemmas.List.{length-drop}
use Rattle.word12.specs.Words.{octal_text}
use Rattle.wordset.specs.Words.{Words}
use Rattle.certificate_lines.specs.FieldSpelling.{Registers}
use Rattle.certificate_lines.specs.FieldsLeft.{left}
use Rattle.certificate_lines.specs.Runs.{added, registers_at}
use Rattle.certificate_lines.specs.Spelling.{sites_text, words_text, offsets_line}
use Rattle.domain.specs.Offsets.{offsets_in}
use Rattle.certificate_lines.specs.LineOf.{has_registers}
use Rattle.certificate_lines.specs.Laws.{SitesFit, RegistersFit}
use Rattle.certificate_lines.proofs.DigitLemmas.{at_some}
use Rattle.certificate_lines.proofs.LineLemmas.{both, earlier, whole}
use Rattle.certificate_lines.proofs.SumPackedLemmas.{AreSited, are_sited}
use Rattle.std.proofs.lemmas.Bool.{and_parts, ltb-true}
use Rattle.certificate_lines.proofs.SumReadLemmas.{fact_fields, fact_spelled, sited_whole}
use Rattle.certificate_lines.proofs.line.read_fact.Goals as goal

pub returns-else-is_done-clause-only : goal.returns-else-is_done-clause-only
returns-else-is_done-clause-only c = λ a s r o form fits e.
    let none : length c.args.runs.now.items ≡ 0 = ap length c.requires.runs in
    let h = and_parts (nat_lt a 4096) _ form in
    let address = c.word-address.ensures.only a _ (ltb-true a 4096 h.0)
    (c.skip.ensures.only _ (c.of-fields.ensures ∙ ap (λ (x : List ℕ). Some x) (e ∙ fact_fields c.args.version a s r o))) in
    let sites = c.read_sites-sites.ensures.only s _ (omega (arith, none)) refl address.1 in
    let few : length c.read_sites-sites.new.runs.items ≤ length c.args.runs.now.items + 2048 = sites.1 in
    let registers = c.read_registers-registers.ensures.only r _ (omega (arith, few, none)) h.1 refl sites.0 in
    c.if-is_done.ensures.1 (c.read_offsets-offsets.ensures.only o [] fits.2 tt (c.skip-2.ensures.only _ registers))

pub returns-then-is_done-clause-read : goal.returns-then-is_done-clause-read
returns-then-is_done-clause-read c = λ steps.
    let v = c.args.version in
    let old = c.args.runs.now.items in
    let mid = c.read_sites-sites.new.runs.items in
    let new = c.read_registers-registers.new.runs.items in
    let s : Words = added old mid in
    let r : Registers = registers_at (drop (length mid) new) c.read_registers-registers.result in
    let o : Words = offsets_in c.read_offsets-offsets.result in
    let l : AreSited (drop (length old) new) c.read_sites-sites.result c.read_registers-registers.result s r =
    are_sited old mid new c.read_sites-sites.result c.read_registers-registers.result s r c.read_sites-sites.ensures.front c.read_registers-registers.ensures.front c.read_sites-sites.ensures.count refl
    (record { inside = omega (arith, length-drop (length mid) new, c.read_registers-registers.ensures.within) }) refl in
    let k : AreSited new c.read_sites-sites.result c.read_registers-registers.result s r = sited_whole old new c.read_sites-sites.result c.read_registers-registers.result s r c.requires.runs l in
    let f0 = left c.of-fields.result in let f1 = left c.skip.new.self in let f2 = left c.word-address.new.self in let f3 = left c.read_sites-sites.new.fields in
    let f4 = left c.read_registers-registers.new.fields in let f5 = left c.skip-2.new.self in let f6 = left c.read_offsets-offsets.new.fields in
    let done = c.if-is_done.ensures.0 refl in
    let last : (P : Type 0) → IfSome f4 (λ x. P) → P = λ P h.
    at_some (λ x. P) f6 [] (earlier P f5 f6 (offsets_line v o) (earlier P f4 f5 (codes " offsets ") h c.skip-2.ensures.read) c.read_offsets-offsets.ensures.read) done in
    rw (k.sites_are, k.registers_are)
    (fact_spelled v c.word-address.result s r o c.args.line.now (omega arith)
    (last (SitesFit v s) (earlier (SitesFit v s) f3 f4 (words_text v r) c.read_sites-sites.ensures.fits c.read_registers-registers.ensures.read))
    (last (has_registers v r ≡ true) c.read_registers-registers.ensures.form) (last (RegistersFit v r) c.read_registers-registers.ensures.fits) c.read_offsets-offsets.ensures.ends
    (whole c.args.line.now (codes "fact " ++ octal_text c.word-address.result ++ sites_text v s ++ words_text v r ++ codes " offsets " ++ offsets_line v o) f0 f6 c.of-fields.ensures done
    (both f0 f5 f6 (codes "fact " ++ octal_text c.word-address.result ++ sites_text v s ++ words_text v r ++ codes " offsets ") (offsets_line v o)
    (both f0 f4 f5 (codes "fact " ++ octal_text c.word-address.result ++ sites_text v s ++ words_text v r) (codes " offsets ")
    (both f0 f3 f4 (codes "fact " ++ octal_text c.word-address.result ++ sites_text v s) (words_text v r)
    (both f0 f2 f3 (codes "fact " ++ octal_text c.word-address.result) (sites_text v s)
    (both f0 f1 f2 (codes "fact ") (octal_text c.word-address.result) c.skip.ensures.read c.word-address.ensures.read) c.read_sites-sites.ensures.read) c.read_registers-registers.ensures.read)
    c.skip-2.ensures.read) c.read_offsets-offsets.ensures.read)))

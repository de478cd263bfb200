use Rattle.std.proofs.Common.{◌≡◌, ◌+◌, ◌≤◌, ◌++◌, true, drop, refl, ap, ◌∙◌, List, ℕ, [], Some, length, arith}
use Rattle.std.specs.Prelude.{codes, IfSome, nat_lt}
use Rattle.std.proofs.lemmas.List.{length-drop}
use Rattle.word12.specs.Words.{octal_text}
use Rattle.wordset.specs.Words.{Words}
use Rattle.certificate_lines.specs.FieldSpelling.{Registers}
use Rattle.certificate_lines.specs.FieldsLeft.{left}
use Rattle.certificate_lines.specs.Runs.{added, registers_at}
use Rattle.certificate_lines.specs.Spelling.{sites_text, words_text, offset_text}
use Rattle.certificate_lines.specs.Laws.{SitesFit, RegistersFit}
use Rattle.certificate_lines.proofs.DigitLemmas.{at_some}
use Rattle.certificate_lines.proofs.LineLemmas.{both, earlier, whole}
use Rattle.certificate_lines.proofs.SumPackedLemmas.{AreSited, are_sited}
use Rattle.std.proofs.lemmas.Bool.{and_parts, ltb-true}
use Rattle.certificate_lines.specs.LineOf.{has_registers, most_offsets}
use Rattle.certificate_lines.proofs.SumReadLemmas.{exit_fields, exit_spelled, sited_whole}
use Rattle.certificate_lines.proofs.line.read_exit.Goals as goal

pub returns-else-is_done-clause-only : goal.returns-else-is_done-clause-only
returns-else-is_done-clause-only c = λ x o s r form fits e.
    let none : length c.args.runs.now.items ≡ 0 = ap length c.requires.runs in
    let h = and_parts (nat_lt x 4096) _ form in
    let k = and_parts (nat_lt o (most_offsets c.args.version)) _ h.1 in
    let entry = c.word-entry.ensures.only x _ (ltb-true x 4096 h.0)
    (c.skip.ensures.only _ (c.of-fields.ensures ∙ ap (λ (y : List ℕ). Some y) (e ∙ exit_fields c.args.version x o s r))) in
    let offset = c.read_offset-offset.ensures.only o _ (ltb-true o (most_offsets c.args.version) k.0) (c.skip-2.ensures.only _ entry.1) in
    let sites = c.read_sites-sites.ensures.only s _ (omega (arith, none)) refl offset.1 in
    let few : length c.read_sites-sites.new.runs.items ≤ length c.args.runs.now.items + 2048 = sites.1 in
    let registers = c.read_registers-registers.ensures.only r [] (omega (arith, few, none)) k.1 tt sites.0 in
    c.if-is_done.ensures.1 registers

pub returns-then-is_done-clause-read : goal.returns-then-is_done-clause-read
returns-then-is_done-clause-read c = λ steps.
    let v = c.args.version in
    let old = c.args.runs.now.items in
    let mid = c.read_sites-sites.new.runs.items in
    let new = c.read_registers-registers.new.runs.items in
    let s : Words = added old mid in
    let r : Registers = registers_at (drop (length mid) new) c.read_registers-registers.result in
    let x = c.word-entry.result in
    let o = c.read_offset-offset.result in
    let l : AreSited (drop (length old) new) c.read_sites-sites.result c.read_registers-registers.result s r =
    are_sited old mid new c.read_sites-sites.result c.read_registers-registers.result s r c.read_sites-sites.ensures.front c.read_registers-registers.ensures.front c.read_sites-sites.ensures.count refl
    (record { inside = omega (arith, length-drop (length mid) new, c.read_registers-registers.ensures.within) }) refl in
    let k : AreSited new c.read_sites-sites.result c.read_registers-registers.result s r = sited_whole old new c.read_sites-sites.result c.read_registers-registers.result s r c.requires.runs l in
    let f0 = left c.of-fields.result in let f1 = left c.skip.new.self in let f2 = left c.word-entry.new.self in let f3 = left c.skip-2.new.self in
    let f4 = left c.read_offset-offset.new.fields in let f5 = left c.read_sites-sites.new.fields in let f6 = left c.read_registers-registers.new.fields in
    let done = c.if-is_done.ensures.0 refl in
    let last : (P : Type 0) → IfSome f6 (λ x. P) → P = λ P h. at_some (λ x. P) f6 [] h done in
    rw (k.sites_are, k.registers_are)
    (exit_spelled v x o s r c.args.line.now (omega arith) c.read_offset-offset.ensures.small
    (last (SitesFit v s) (earlier (SitesFit v s) f5 f6 (words_text v r) c.read_sites-sites.ensures.fits c.read_registers-registers.ensures.read))
    (last (has_registers v r ≡ true) c.read_registers-registers.ensures.form) (last (RegistersFit v r) c.read_registers-registers.ensures.fits)
    (whole c.args.line.now (codes "exit " ++ octal_text x ++ codes " " ++ offset_text v o ++ sites_text v s ++ words_text v r) f0 f6 c.of-fields.ensures done
    (both f0 f5 f6 (codes "exit " ++ octal_text x ++ codes " " ++ offset_text v o ++ sites_text v s) (words_text v r)
    (both f0 f4 f5 (codes "exit " ++ octal_text x ++ codes " " ++ offset_text v o) (sites_text v s)
    (both f0 f3 f4 (codes "exit " ++ octal_text x ++ codes " ") (offset_text v o)
    (both f0 f2 f3 (codes "exit " ++ octal_text x) (codes " ")
    (both f0 f1 f2 (codes "exit ") (octal_text x) c.skip.ensures.read c.word-entry.ensures.read) c.skip-2.ensures.read) c.read_offset-offset.ensures.read) c.read_sites-sites.ensures.read)
    c.read_registers-registers.ensures.read)))

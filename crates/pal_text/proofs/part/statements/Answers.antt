use Rattle.std.proofs.Common.{◌≡◌, ◌⊎◌}
use Rattle.std.specs.Prelude.{length, reverse, take}
use Rattle.pal_text.specs.declared.fault.TextFault.TheVariants.{Illegal, TooLong, NoMemory}
use Rattle.pal_text.specs.Lines.{all_lines}
use Rattle.pal_text.specs.ReadParts.{tokens_in}
use Rattle.std.specs.List.{AllByRecursion}
use Rattle.pal_text.specs.Names.{IsWithin, part_tokens}
use Rattle.pal_text.specs.Order.{IsOrdered, IsLineWithin}
use Rattle.pal_text.proofs.Placed.{lines_within_by}
use Rattle.pal_text.specs.Parts.{past, IsPart, IsFault}
use Rattle.pal_text.proofs.Unique.{agrees, no_fault}
use Rattle.pal_text.proofs.Told.{matched, ok_also, silent, tells_only, within_by, ordered_by}
use Rattle.pal_text.proofs.part.statements.Goals as goal

pub returns-clause-in_order : goal.returns-clause-in_order
returns-clause-in_order g c =
    ok_also c.read_part.result (λ part. part.tokens.items ≡ take (past 0 part.statements.items) (part_tokens c.args.source.now)) (λ part. IsOrdered (length c.args.source.now) (reverse part.tokens.items))
    c.read_part.ensures.tokens (λ part h. ordered_by c.args.source.now part.tokens.items (past 0 part.statements.items) h)

pub returns-clause-within : goal.returns-clause-within
returns-clause-within g c =
    ok_also c.read_part.result (λ part. part.tokens.items ≡ take (past 0 part.statements.items) (part_tokens c.args.source.now)) (λ part. AllByRecursion (IsWithin (length c.args.source.now)) part.tokens.items)
    c.read_part.ensures.tokens (λ part h. within_by c.args.source.now part.tokens.items (past 0 part.statements.items) h)

pub returns-clause-part_told : goal.returns-clause-part_told
returns-clause-part_told g c tokens told lines end k =
    matched c.read_part.result (λ part. IsPart c.args.source.now (tokens_in part) part.statements.items part.lines.items part.ending)
    (λ part. (tokens_in part ≡ tokens) × (part.statements.items ≡ told) × (part.lines.items ≡ lines) × (part.ending ≡ end)) (IsFault c.args.source.now) (λ e. (e ≡ TooLong) ⊎ (e ≡ NoMemory))
    c.read_part.ensures.part c.read_part.ensures.fault (λ part h. agrees c.args.source.now (tokens_in part) tokens part.statements.items told part.lines.items lines part.ending end h k)
    (silent c.args.source.now tokens told lines end k)

pub returns-clause-illegal_told : goal.returns-clause-illegal_told
returns-clause-illegal_told g c line k =
    matched c.read_part.result (λ part. IsPart c.args.source.now (tokens_in part) part.statements.items part.lines.items part.ending)
    (λ part. ⊥) (IsFault c.args.source.now) (λ e. (e ≡ Illegal line) ⊎ ((e ≡ TooLong) ⊎ (e ≡ NoMemory)))
    c.read_part.ensures.part c.read_part.ensures.fault (λ part h. no_fault c.args.source.now (tokens_in part) part.statements.items part.lines.items part.ending line h k)
    (tells_only c.args.source.now line k)

pub returns-clause-lines_within : goal.returns-clause-lines_within
returns-clause-lines_within g c =
    ok_also c.read_part.result (λ part. part.lines.items ≡ all_lines (take part.stop c.args.source.now)) (λ part. AllByRecursion (IsLineWithin (length c.args.source.now)) part.lines.items)
    c.read_part.ensures.lines (λ part h. lines_within_by c.args.source.now part.stop part.lines.items h)

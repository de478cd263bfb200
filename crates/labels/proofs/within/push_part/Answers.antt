use Rattle.std.proofs.Common.{sym, subst, List, length}
use Rattle.std.specs.List.{AllByRecursion}
use Rattle.pal_text.specs.declared.lines.Line.{Line}
use Rattle.pal_text.specs.Order.{IsLineWithin}
use Rattle.pal_text.specs.ReadParts.{tokens_in}
use Rattle.labels.proofs.Withins.{read_adds, refused_adds, short_part}
use Rattle.labels.proofs.within.push_part.Goals as goal

pub push_lines-requires : goal.push_lines-requires
push_lines-requires g c =
    let P : List Line → Type 0 = λ ls. AllByRecursion (IsLineWithin (length c.args.part.now.source.now)) ls in
    subst P (sym c.deref.ensures.value) c.in-Ok.ensures.lines_within

pub returns-in_ok-push_lines-in-Ok : goal.returns-in_ok-push_lines-in-Ok
returns-in_ok-push_lines-in-Ok g c =
    read_adds c.args.words.now c.args.part.now.number c.args.part.now.source.now (tokens_in c.in-Ok.found) c.in-Ok.found.statements.items c.in-Ok.found.lines.items c.deref.result.now c.in-Ok.found.ending c.reads_on.result c.args.text.now.items c.push_lines.new.text.items
    (short_part c.statements.result c.in-Ok.found c.args.part.now.source.now c.in-Ok.is c.statements.ensures.too_long) c.in-Ok.ensures.part c.deref.ensures.value c.reads_on.ensures c.in_ok-push_lines-in-Ok.ensures

pub returns-in-Err : goal.returns-in-Err
returns-in-Err g c =
    refused_adds c.args.words.now c.args.part.now.number c.statements.result c.in-Err.fault c.reads_on_after.result c.args.part.now.source.now c.args.text.now.items c.in-Err.is c.reads_on_after.ensures c.statements.ensures.too_long c.statements.ensures.illegal

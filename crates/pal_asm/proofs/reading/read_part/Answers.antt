use Rattle.std.proofs.Common.{◌∙◌, sym, subst, refl, take}
use Rattle.std.proofs.lemmas.List.{length-take-le}
use Rattle.pal_text.specs.declared.fault.StatementFault.{StatementFault}
use Rattle.pal_asm.specs.SourceInCode.{StopsPart, lines_of_fronts}
use Rattle.pal_asm.proofs.Fronted.{stop_inside, front_lines}
use Rattle.pal_asm.proofs.Turned.{read_last, read_on, refused}
use Rattle.pal_asm.proofs.reading.read_part.Goals as goal

pub slice_bounds-push-end : goal.slice_bounds-push-end
slice_bounds-push-end g c =
    sym (length-take-le c.in-Ok.reached.close.stop c.args.part.now.source.now
    (stop_inside c.args.part.now c.args.radix c.args.acts.now c.keep_statements.new.acts c.in-Ok.reached c.in-Ok.ensures.read))

pub returns-in-Dollar : goal.returns-in-Dollar
returns-in-Dollar g c =
    read_last c.args.part.now c.args.radix c.args.acts.now c.keep_statements.new.acts c.in-Ok.reached (lines_of_fronts c.args.fronts.now.items) (lines_of_fronts c.push.new.self.items) c.in-Ok.ensures.read
    (front_lines c.args.part.now.number c.args.part.now.source.now c.in-Ok.reached.close c.args.fronts.now.items c.push.new.self.items _ c.in_ok-push-in-Ok.ensures.items refl refl) c.in-Dollar.is

pub returns-in-Pause : goal.returns-in-Pause
returns-in-Pause g c =
    read_on c.args.part.now c.args.radix c.args.acts.now c.keep_statements.new.acts c.in-Ok.reached (lines_of_fronts c.args.fronts.now.items) (lines_of_fronts c.push.new.self.items) c.in-Ok.ensures.read
    (front_lines c.args.part.now.number c.args.part.now.source.now c.in-Ok.reached.close c.args.fronts.now.items c.push.new.self.items _ c.in_ok-push-in-Ok.ensures.items refl refl) c.in-Pause.is

pub returns-in_ok-keep-in-Err-Illegal : goal.returns-in_ok-keep-in-Err-Illegal
returns-in_ok-keep-in-Err-Illegal g c =
    let P : StatementFault → Type 0 = λ f. StopsPart c.args.part.now.source.now c.args.acts.now c.keep_statements.new.acts f in
    let stops = subst P c.in-Err-Illegal.field-0-is c.in-Err-Illegal.ensures.stops in
    refused c.args.part.now.number c.args.radix c.args.part.now.last c.args.part.now.source.now c.in-Err-Illegal.line c.args.acts.now stops.1.0 c.truncate.new.self c.keep.new.self (lines_of_fronts c.args.fronts.now.items)
    stops.0 (c.truncate.ensures ∙ (λ i. take (c.len-count.ensures i) (stops.1.1 i))) c.in_ok-keep-in-Err-Illegal.ensures.kept

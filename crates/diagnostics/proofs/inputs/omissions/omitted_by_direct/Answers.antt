use Rattle.std.proofs.Common.{◌∙◌, sym, inl, inr}
use Rattle.declaration.specs.DeclarationInCode.{routine_of}
use Rattle.diagnostics.proofs.OmissionLemmas.{meant_as}
use Rattle.diagnostics.proofs.inputs.omissions.omitted_by_direct.Goals as goal
use Rattle.diagnostics.proofs.inputs.omissions.omitted_by_direct.Goals.{in-Dca+else-is_own, in-Isz+else-is_own-2}

pub returns-in-Dca : goal.returns-in-Dca
returns-in-Dca g c = λ image means.
    c.omitted_by_move.ensures image (routine_of c.args.owner) c.args.at (meant_as _ _ _ _ _ _ c.in-Dca.is means) (sym c.in_body-is_own.ensures ∙ c.if-is_own.true)

pub returns-in-Jms : goal.returns-in-Jms
returns-in-Jms g c = λ image means. c.omitted_by_call.ensures image (routine_of c.args.owner) c.args.at (meant_as _ _ _ _ _ _ c.in-Jms.is means)

pub returns-in-Jmp : goal.returns-in-Jmp
returns-in-Jmp g c = λ image means. c.omitted_by_jump.ensures image c.args.at (meant_as _ _ _ _ _ _ c.in-Jmp.is means)

pub returns-in-Dca-2 : goal.returns-in-Dca-2
returns-in-Dca-2 g c = λ image means.
    elim c.in-Dca-2-1.branch [
      | in-Dca+else-is_own w ↦ c.omitted_by_store.ensures image (routine_of c.args.owner) c.args.at (inl (meant_as _ _ _ _ _ _ w.in-Dca.is means)) (sym c.in_body-is_own.ensures ∙ w.if-is_own.false)
      | in-Isz+else-is_own-2 w ↦ c.omitted_by_store.ensures image (routine_of c.args.owner) c.args.at (inr (meant_as _ _ _ _ _ _ w.in-Isz.is means)) (sym c.in_body-is_own.ensures ∙ w.if-is_own-2.false)
    ]

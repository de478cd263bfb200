use Rattle.std.proofs.Common.{◌∙◌, sym, ap, refl}
use Rattle.instruct.specs.Instructions.{instruction_of, kind_of, meaning_of}
use Rattle.declaration.specs.DeclarationInCode.{meaning, routine_of}
use Rattle.diagnostics.proofs.inputs.omissions.omitted_by_word.Goals as goal

pub returns-in-Memory : goal.returns-in-Memory
returns-in-Memory g c = λ image is.
    c.omitted_by_reference.ensures image is (ap (λ p. kind_of (meaning_of p c.args.at c.args.word)) (sym c.profile.ensures) ∙ sym (c.decode.ensures.meaning c.args.at) ∙ c.in-Memory.is)

pub returns-in-Unsupported : goal.returns-in-Unsupported
returns-in-Unsupported g c = λ image is.
    c.unsupported.ensures image (meaning c.args.declaration.now) (routine_of c.args.owner) c.args.at is
    (ap (λ p. instruction_of p c.args.word) (sym c.profile.ensures) ∙ sym c.decode.ensures.kind ∙ c.in-Unsupported.is)

pub returns-in-Operate2 : goal.returns-in-Operate2
returns-in-Operate2 g c = λ image is.
    c.omitted_by_halt.ensures image (record {
      word = c.args.word;
      is = is;
      kind = ap (λ p. instruction_of p c.args.word) (sym c.profile.ensures) ∙ sym c.decode.ensures.kind ∙ c.in-Operate2.is;
      halts = sym c.halts.ensures ∙ c.if-halts.true;
    }) refl

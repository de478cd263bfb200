use Rattle.std.proofs.Common.{◌∙◌, sym, ap}
use Rattle.std.specs.Prelude.{false}
use Rattle.instruct.specs.Bits.{named_cell}
use Rattle.instruct.specs.Instructions.{reference}
use Rattle.declaration.specs.DeclarationInCode.{routine_of}
use Rattle.diagnostics.proofs.inputs.omissions.omitted_by_reference.Goals as goal

pub returns-then-refers_indirectly : goal.returns-then-refers_indirectly
returns-then-refers_indirectly g c = λ image is kind.
    c.omitted_by_pointer.ensures image (routine_of c.args.owner) is kind (sym c.refers_indirectly.ensures ∙ c.if-refers_indirectly.true)

pub returns : goal.returns
returns g c = λ image is kind.
    c.omitted_by_direct.ensures image (record {
      word = c.args.word;
      is = is;
      meaning =
          c.of.ensures.meaning _ _ kind
          ∙ ap (λ i. reference c.of.result i (named_cell c.args.word c.args.at)) (sym c.refers_indirectly.ensures ∙ c.if-refers_indirectly.false)
          ∙ ap (λ n. reference c.of.result false n) (sym c.target.ensures);
    })

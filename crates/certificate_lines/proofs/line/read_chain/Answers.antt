use Rattle.std.proofs.Common.{ap, ◌∙◌, List, ℕ, Some}
use Rattle.std.specs.Prelude.{nat_lt}
use Rattle.std.proofs.lemmas.Bool.{and_parts, ltb-true}
use Rattle.wordset.specs.Words.{some_below}
use Rattle.certificate_lines.proofs.SumReadLemmas.{chain_fields, steps_formed, spaced_steps}
use Rattle.certificate_lines.proofs.line.read_chain.Goals as goal

pub returns-else-is_done-clause-only : goal.returns-else-is_done-clause-only
returns-else-is_done-clause-only c = λ h form e.
    let p = and_parts (nat_lt h.cell 4096) _ form in
    let q = and_parts (nat_lt h.more 4096) _ p.1 in
    let r = and_parts (some_below 2 h.link) _ q.1 in
    let cell = c.word-cell.ensures.only h.cell _ (ltb-true h.cell 4096 p.0)
    (c.skip.ensures.only _ (c.of-fields.ensures ∙ ap (λ (x : List ℕ). Some x) (e ∙ chain_fields h))) in
    let more = c.word-more.ensures.only h.more _ (ltb-true h.more 4096 q.0) (c.skip-2.ensures.only _ cell.1) in
    let link = c.links-link.ensures.only h.link _ r.0 (spaced_steps h.steps) (c.skip-3.ensures.only _ more.1) in
    c.if-is_done.ensures.1 (c.steps-count.ensures.only h.steps (steps_formed h.steps r.1) link)

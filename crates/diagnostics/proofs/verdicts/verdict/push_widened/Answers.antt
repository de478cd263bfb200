use Rattle.std.proofs.Common.{ℕ, Bool, List, ◌++◌, ◌&&◌, ap, ◌∙◌, append_assoc}
use Rattle.std.specs.Prelude.{nat_lt, codes}
use Rattle.std.proofs.lemmas.Result.{on_ok_weaker}
use Rattle.wordset.specs.Lanes.{words}
use Rattle.wordset.specs.Words.{Words, how_many, some_below}
use Rattle.wordset.proofs.Counts.{how_many_same}
use Rattle.declaration.specs.DeclarationInCode.{meaning}
use Rattle.diagnostics.specs.CheckText.{is_skipping, more_text}
use Rattle.diagnostics.proofs.verdicts.verdict.push_widened.Goals as goal

pub returns : goal.returns
returns g c =
    let d = meaning c.args.declaration.now in
    let places : List ℕ = more_text (how_many 4096 d.abandon) (codes " abandon place") (codes " abandon places") in
    let moved : List ℕ = more_text (how_many 4096 d.moves) (codes " moved return") (codes " moved returns") in
    let skips : List ℕ = more_text (how_many 4096 (is_skipping d)) (codes " skip") (codes " skips") in
    on_ok_weaker c.push_more-3.result
    (λ is. is ∙ ap (λ (n : ℕ). c.push_more-2.new.text.items ++ more_text n (codes " skip") (codes " skips"))
    (c.count-skips.ensures ∙ how_many_same 4096 (words c.skipping.result) (is_skipping d)
    (λ v small. ap (λ (s : Words). s v) c.skipping.ensures
    ∙ ap (λ (b : Bool). b && some_below 64 (λ o. nat_lt 7 o && d.offset v o)) (c.entries-entries.ensures v small)))
    ∙ ap (λ (t : List ℕ). t ++ skips)
    (c.in_ok-push_more-2.ensures ∙ ap (λ (n : ℕ). c.push_more.new.text.items ++ more_text n (codes " moved return") (codes " moved returns"))
    (c.count-moves.ensures ∙ ap (how_many 4096) c.moves.ensures)
    ∙ ap (λ (t : List ℕ). t ++ moved)
    (c.in_ok-push_more.ensures ∙ ap (λ (n : ℕ). c.args.text.now.items ++ more_text n (codes " abandon place") (codes " abandon places"))
    (c.count-abandons.ensures ∙ ap (how_many 4096) c.abandons.ensures)))
    ∙ ap (λ (t : List ℕ). t ++ skips) (append_assoc c.args.text.now.items places moved)
    ∙ append_assoc c.args.text.now.items (places ++ moved) skips)
    c.push_more-3.ensures

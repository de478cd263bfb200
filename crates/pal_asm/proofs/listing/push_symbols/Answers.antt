use Rattle.std.proofs.Common.{◌≡◌, ◌∙◌, sym, ap, ◌++◌, ◌+◌, append_assoc, arith, drop, List, ℕ, Some}
use Rattle.std.specs.Prelude.{slice_get}
use Rattle.std.proofs.lemmas.Bool.{false≢true}
use Rattle.pal_asm.specs.Listings.{symbols_text, symbol_text}
use Rattle.pal_asm.proofs.Fronts.{symbol_off}
use Rattle.pal_asm.proofs.listing.push_symbols.Goals.{in-Some+in_ok-push_symbol, in_default}
use Rattle.pal_asm.proofs.listing.push_symbols.Goals as goal

pub loop-at-preserved : goal.loop-at-preserved
loop-at-preserved g c = elim c.match-get_index.branch [
  | in-Some+in_ok-push_symbol w ↦
      let rest : List ℕ = symbols_text (drop (c.loop-at.at + 1) c.args.own.now.entries) in
      let there : slice_get c.args.own.now.entries c.loop-at.at ≡ Some (w.in-Some.name.now, w.in-Some.value.now) = sym w.in-Some.ensures.entry in
      ap (λ t. t.items ++ rest) w.text-is ∙ ap (λ l. l ++ rest) w.in_ok-push_symbol.ensures
      ∙ append_assoc c.loop-at.text.items (symbol_text w.in-Some.name.now w.in-Some.value.now) rest
      ∙ ap (λ l. c.loop-at.text.items ++ l) (sym (symbol_off c.args.own.now.entries c.loop-at.at w.in-Some.name.now w.in-Some.value.now there)) ∙ c.loop-at.invariant
  | in_default w ↦ absurd (false≢true (w.in_default.ensures.found.1 (omega arith)))
]

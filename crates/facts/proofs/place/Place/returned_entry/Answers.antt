use Rattle.std.proofs.Common.{◌≡◌, ◌∙◌, sym, true, false, refl}
use Rattle.instruct.specs.Bits.{is_indirect, named_cell}
use Rattle.facts.specs.PlaceInCode.{place_in_code}
use Rattle.facts.proofs.AskedLemmas.{no_reference}
use Rattle.facts.proofs.AskedLemmas.{returned_none, returns_if}
use Rattle.facts.proofs.place.Place.returned_entry.Goals as goal

pub returns-then-not-is_reference : goal.returns-then-not-is_reference
returns-then-not-is_reference g c = returned_none (place_in_code c.args.self.now).declaration _ (no_reference c.if-not-is_reference.true (c.is_reference.ensures c.args.at))

pub returns-then-not-is_jmp : goal.returns-then-not-is_jmp
returns-then-not-is_jmp g c =
    returns_if _ (place_in_code c.args.self.now) c.args.at c.args.word (named_cell c.args.word c.args.at) (is_indirect c.args.word) c.is_jmp.result ((c.is_reference.ensures c.args.at).0 c.if-not-is_reference.false)
    c.is_jmp.ensures refl refl (rw c.if-not-is_jmp.true refl)

pub returns-then-not-refers_indirectly : goal.returns-then-not-refers_indirectly
returns-then-not-refers_indirectly g c =
    returns_if _ (place_in_code c.args.self.now) c.args.at c.args.word c.target-named.result c.refers_indirectly.result c.is_jmp.result ((c.is_reference.ensures c.args.at).0 c.if-not-is_reference.false)
    c.is_jmp.ensures c.refers_indirectly.ensures c.target-named.ensures (rw (c.if-not-is_jmp.false, c.if-not-refers_indirectly.true) refl)

pub returns-then-is_entry : goal.returns-then-is_entry
returns-then-is_entry g c =
    let e : (place_in_code c.args.self.now).declaration.entry c.target-named.result ≡ true = sym c.is_entry.ensures ∙ c.if-is_entry.true in
    returns_if _ (place_in_code c.args.self.now) c.args.at c.args.word c.target-named.result c.refers_indirectly.result c.is_jmp.result ((c.is_reference.ensures c.args.at).0 c.if-not-is_reference.false)
    c.is_jmp.ensures c.refers_indirectly.ensures c.target-named.ensures (rw (c.if-not-is_jmp.false, c.if-not-refers_indirectly.false, e) refl)

pub returns-else-is_entry : goal.returns-else-is_entry
returns-else-is_entry g c =
    let e : (place_in_code c.args.self.now).declaration.entry c.target-named.result ≡ false = sym c.is_entry.ensures ∙ c.if-is_entry.false in
    returns_if _ (place_in_code c.args.self.now) c.args.at c.args.word c.target-named.result c.refers_indirectly.result c.is_jmp.result ((c.is_reference.ensures c.args.at).0 c.if-not-is_reference.false)
    c.is_jmp.ensures c.refers_indirectly.ensures c.target-named.ensures (rw (c.if-not-is_jmp.false, c.if-not-refers_indirectly.false, e) refl)

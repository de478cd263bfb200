-- A source has one listing.
use Rattle.std.proofs.Common.{◌≡◌, ◌∙◌, sym, ℕ, List}
use Rattle.pal_text.specs.declared.names.Name.{Name}
use Rattle.pal_acts.specs.Values.{known}
use Rattle.pal_asm.specs.declared.number.Radix.TheVariants.{Octal}
use Rattle.pal_acts.specs.Sources.{all_words}
use Rattle.pal_asm.specs.Listings.{listing, Lists}
use Rattle.pal_asm.proofs.One.{reads_one}

pub lists_one : (perm : List (Name × ℕ)) (parts : List (List ℕ)) (own : List (Name × ℕ)) (text other : List ℕ) → Lists perm parts own text → Lists perm parts own other → text ≡ other
lists_one perm parts own text other h k =
    let same : (h.acts ≡ k.acts) × (h.lines ≡ k.lines) = reads_one 1 Octal parts h.acts k.acts h.lines k.lines h.reads k.reads in
    h.so ∙ (λ i. listing (same.1 i) (all_words (known perm own) (same.0 i)) own) ∙ sym k.so

-- Images as lists.
use Rattle.std.proofs.Common.{◌≡◌, ◌∙◌, sym, ℕ, ◌<◌, List, [], Option, None, length, get_or, replicate}
use Rattle.std.proofs.lemmas.List.{length-replicate, get_or-replicate, same_lists, get_or_default}
use Rattle.std.proofs.lemmas.Option.{unwrap_or-slice_get}
use Rattle.bin_tape.specs.Image.{word_at}
use Rattle.pal_acts.specs.declared.act.PlacedWord.{PlacedWord}
use Rattle.pal_acts.specs.Sources.{IsImage, last_at}

abbrev pub none_yet : Option ℕ
none_yet = None

-- no word anywhere
blank : (n a : ℕ) → a < n → word_at (replicate n none_yet) a ≡ None
blank n a h = unwrap_or-slice_get (replicate n none_yet) a None ∙ get_or-replicate n a None None h

pub blank_image : IsImage [] (replicate 4096 none_yet)
blank_image = record { size = length-replicate 4096 none_yet; cells = λ a h. blank 4096 a h }

cell : (ws : List PlacedWord) (image : List (Option ℕ)) (a : ℕ) (d : Option ℕ) → IsImage ws image → a < 4096 → get_or image a d ≡ last_at a ws
cell ws image a d h lt =
    let within : a < length image = rw h.size lt in
    get_or_default image a d None within ∙ sym (unwrap_or-slice_get image a None) ∙ h.cells a lt

-- words have one image
pub one_image : (ws : List PlacedWord) (a b : List (Option ℕ)) → IsImage ws a → IsImage ws b → a ≡ b
one_image ws a b h k = same_lists a b (h.size ∙ sym k.size) (λ i d lt. let small : i < 4096 = rw h.size at lt in cell ws a i d h small ∙ sym (cell ws b i d k small))

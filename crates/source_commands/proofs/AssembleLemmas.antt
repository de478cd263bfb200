-- The image of a tape that was or was not written, and the listing of a source.
use Rattle.std.proofs.Common.{ℕ, ◌≡◌, List, refl}
use Rattle.std.specs.Prelude.{◌↔◌, Bool, true, false, Option, Result, Err}
use Rattle.bin_tape.specs.Image.{IsEmptyImage}
use Rattle.bin_tape.specs.declared.fault.WriteTapeFault.{WriteTapeFault}
use Rattle.bin_tape.specs.declared.fault.WriteTapeFault.TheVariants.{EmptyImage, WriteFault}
use Rattle.instruct.specs.declared.Profile.{Profile}
use Rattle.pal_text.specs.declared.names.Name.{Name}
use Rattle.pal_acts.specs.Permanent.{permanent_symbols}
use Rattle.pal_asm.specs.Listings.{Lists}
use Rattle.pal_asm.specs.Sources.{Means}
use Rattle.source_commands.specs.AssembleText.{HasTable, IsListed}
use Rattle.source_commands.specs.SourceTexts.{AreRead}

-- an image whose write failed is not empty
pub not_empty : (r : Result Unit WriteTapeFault) (image now : List (Option ℕ)) → ((r ≡ Err EmptyImage) ↔ IsEmptyImage now) → now ≡ image → r ≡ Err WriteFault → IsEmptyImage image → ⊥
not_empty r image now told same failed empty =
    let is : r ≡ Err EmptyImage = told.1 (rw same empty) in
    cc

-- an image that was refused as empty is empty
pub is_empty : (r : Result Unit WriteTapeFault) (image now : List (Option ℕ)) → ((r ≡ Err EmptyImage) ↔ IsEmptyImage now) → now ≡ image → r ≡ Err EmptyImage → IsEmptyImage image
is_empty r image now told same is = rw same at (told.0 is)

-- what is written for the listing of the parts
pub listed_as : (crossed : Bool) (profile : Profile) (sources : List (Option (List ℕ))) (parts : List (List ℕ)) (symbols : List (Name × ℕ)) (image : List (Option ℕ)) (listing text : List ℕ) →
    AreRead sources parts → Means (permanent_symbols profile) parts symbols image → Lists (permanent_symbols profile) parts symbols listing →
    (crossed ≡ false → text ≡ listing) → (crossed ≡ true → HasTable listing text) → IsListed crossed profile sources text
listed_as false profile sources parts symbols image listing text read means lists plain table =
    record { symbols = symbols; image = image; parts = parts; read = read; means = means; lists = rw (plain refl) lists }
listed_as true profile sources parts symbols image listing text read means lists plain table =
    record { listing = listing; is = record { symbols = symbols; image = image; parts = parts; read = read; means = means; lists = lists }; crossed = table refl }

-- Which texts are sources of an image.
use Rattle.std.specs.Prelude.{ℕ, List, [], ◌∷◌, Option}
use Rattle.instruct.specs.declared.Profile.{Profile}
use Rattle.pal_text.specs.declared.names.Name.{Name}
use Rattle.pal_acts.specs.Permanent.{permanent_symbols}
use Rattle.pal_asm.specs.Sources.{Means}

-- The text is a source of one part, which means exactly this image on this machine. Its own symbols may be any.
pub record IsSourceOf (profile : Profile) (image : List (Option ℕ)) (text : List ℕ) : Type 0 where
  pub symbols : List (Name × ℕ)
  pub means : Means (permanent_symbols profile) (text ∷ []) symbols image

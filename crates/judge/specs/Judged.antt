-- What is judged, from what the code is given.
use Rattle.std.specs.Prelude.{List, Option, ℕ}
use Rattle.peripherals.specs.Loading.{image_of}
use Rattle.declaration.specs.DeclarationInCode.{Kept, meaning}
use Rattle.certificate_lines.specs.Certificate.{Certificate}
use Rattle.judge.specs.Landing.{Case}
use Rattle.judge.specs.declared.case.Case.{Case as KeptCase}

-- The case of a tape's words, a declaration as it is kept, and what is claimed.
abbrev pub judged : List (Option ℕ) → Kept → Certificate → Case
judged image declaration certificate = record {
  image = image_of image;
  declaration = meaning declaration;
  certificate = certificate;
}

-- The case that the code keeps.
abbrev pub case_kept : {A C : Type 0} → (C → Certificate) → KeptCase A C → Case
case_kept claims c = judged c.image.now c.declaration.now (claims c.claims.now)

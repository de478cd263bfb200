-- The versions of certificates.
use Rattle.std.specs.Prelude.{◌≡◌, ◌⊎◌}
use Rattle.instruct.specs.declared.Profile.{Profile}
use Rattle.instruct.specs.declared.Profile.TheVariants.{Pdp8I, Pdp8E}
use Rattle.certificate_lines.specs.declared.Version.{Version}
use Rattle.certificate_lines.specs.declared.Version.TheVariants.{One, Two, Three}

-- The first search makes certificates of version 1 for a PDP-8/I, and of version 2 for a PDP-8/E.
abbrev pub version_of : Profile → Version
version_of Pdp8I = One
version_of Pdp8E = Two

-- What is found is of the version of the machine, or of version 3.
abbrev pub IsVersionFor : Profile → Version → Type 0
IsVersionFor p v = (v ≡ version_of p) ⊎ (v ≡ Three)

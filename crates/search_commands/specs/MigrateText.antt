-- What `migrate` writes.
use Rattle.std.specs.Prelude.{ℕ, ◌≡◌, List, Option, if◌then◌else◌}
use Rattle.declaration.specs.Declaration.{Declaration}
use Rattle.certificate_lines.specs.Laws.{bytes_of}
use Rattle.certificate_lines.specs.Lines.{is_of_sums}
use Rattle.certificate_lines.specs.Made.{migrated, with_sites}
use Rattle.certificate_lines.specs.Reading.{Text}
use Rattle.command_parts.specs.Inputs.{HasDeclaration}
use Rattle.diagnostics.specs.CertificateInputs.{HasCertificate}

-- The bytes are those of a certificate, and this is the text of that certificate in version 2, or in version 3 if it is
-- of that version.
pub record IsMigrated (certificate : Option (List ℕ)) (text : List ℕ) : Type 0 where
  pub lines : Text
  pub claims : HasCertificate certificate lines
  pub text_is : text ≡ bytes_of (migrated lines)

-- The certificate in version 3: with the sites that the declaration gives, unless it is of that version already.
abbrev pub in_version_3 : Declaration → Text → Text
in_version_3 d t = if is_of_sums t.version then t else with_sites d t

-- The bytes are those of a declaration and of a certificate, and this is the text of that certificate in version 3.
pub record IsSited (declaration certificate : Option (List ℕ)) (text : List ℕ) : Type 0 where
  pub declared : Declaration
  pub declares : HasDeclaration declaration declared
  pub lines : Text
  pub claims : HasCertificate certificate lines
  pub text_is : text ≡ bytes_of (in_version_3 declared lines)

-- What a command read of a certificate, as far as a source tells its bytes.
use Rattle.std.specs.Prelude.{ℕ, ◌≡◌, ◌≤◌, true, IfSome, List, Option, length}
use Rattle.streams.specs.Bytes.{Gave}
use Rattle.certificate_lines.specs.Pieces.{most_bytes}
use Rattle.certificate.specs.Exact.{AreLines}
use Rattle.certificate_lines.specs.Laws.{bytes_of}
use Rattle.certificate_lines.specs.Reading.{Text}
use Rattle.certificate_lines.specs.Serving.{IsUnanswered}
use Rattle.certificate_lines.specs.Serving as serving
use Rattle.declaration.specs.Declaration.{Declaration}
use Rattle.command_parts.specs.Inputs.{HasDeclaration, HasImage, Input, TakesAtMost}

-- The bytes are the text of a certificate with these lines, and not too many.
pub record IsTextOf (bytes : List ℕ) (lines : Text) : Type 0 where
  pub lines_are : AreLines lines
  pub text_is : bytes ≡ bytes_of lines
  pub few : length bytes ≤ most_bytes

-- The text is that of a certificate with these lines.
abbrev pub HasCertificate : Option (List ℕ) → Text → Type 0
HasCertificate certificate lines = IfSome certificate (λ bytes. IsTextOf bytes lines)

-- The text is that of a certificate.
pub record IsGoodCertificate (certificate : Option (List ℕ)) : Type 0 where
  pub lines : Text
  pub claims : HasCertificate certificate lines

-- A read of a certificate failed, and the bytes given before it bring no answer.
pub record FailsInCertificate (certificate : Input) : Type 0 where
  pub failed : certificate.failed ≡ true
  pub unanswered : Gave certificate.had certificate.left IsUnanswered

-- Of a certificate as many as it may have and one, and at most 511 past the one that brings the answer.
pub record TakesCertificate (had left : Option (List ℕ)) : Type 0 where
  pub limit : TakesAtMost 1048577 had left
  pub prompt : Gave had left (serving.IsPrompt 511)

-- The frames are a tape, the texts a declaration and a certificate; by what they hold the answer and what is written are right.
pub record OfCertified {T : Type 0} (frames text certificate : Option (List ℕ)) (IsRight : List (Option ℕ) → Declaration → Text → T → List ℕ → Type 0) (answer : T) (written : List ℕ) : Type 0 where
  pub image : List (Option ℕ)
  pub tape : HasImage frames image
  pub declaration : Declaration
  pub declares : HasDeclaration text declaration
  pub lines : Text
  pub claims : HasCertificate certificate lines
  pub is : IsRight image declaration lines answer written

-- What a search came to.
use Rattle.std.specs.Prelude.{◌≡◌, ◌<◌, ◌||◌, ℕ, ⊤, Bool, true, false, List, Option}
use Rattle.declaration.specs.Declaration.{Declaration, Routine}
use Rattle.declaration.specs.DeclarationInCode as declared
use Rattle.certificate_lines.specs.Certificate.{Certificate, has_any, has_exits}
use Rattle.certificate_lines.specs.CertificateInCode.{Kept, claims, meaning}
use Rattle.instruct.specs.declared.Profile.{Profile}
use Rattle.analyser.specs.Accepted.{IsAccepted}
use Rattle.certificate_lines.specs.declared.Version.{Version}
use Rattle.analyser.specs.Versions.{IsVersionFor}
use Rattle.analyser.specs.declared.Attempt.{Attempt}
use Rattle.analyser.specs.declared.Attempt.TheVariants.{Found, Stuck}

-- The certificate that was found, or the draft of one.
abbrev pub claimed_by : {A : Type 0} → Attempt A → Kept
claimed_by (Found c) = c
claimed_by (Stuck at c) = c

-- The judge accepts what was found; nothing is said of a draft.
abbrev pub IsAcceptedIfFound : {A : Type 0} → List (Option ℕ) → declared.Kept → Attempt A → Type 0
IsAcceptedIfFound image d (Found c) = IsAccepted image d c
IsAcceptedIfFound image d (Stuck at c) = ⊤

-- Some body has the address.
abbrev pub IsInSomeBody : Declaration → ℕ → Type 0
IsInSomeBody d a = (r : Routine) × (d.body r a ≡ true)

-- The lines of an address are where they may be: those of facts in some body, a routine's and its exits' at an entry.
pub record StandsRight (d : Declaration) (c : Certificate) (a : ℕ) : Type 0 where
  pub facts : has_any (c.facts a) ≡ true → IsInSomeBody d a
  pub routine : c.listed a ≡ true → d.entry a ≡ true
  pub exits : has_exits c a ≡ true → d.entry a ≡ true

-- A draft's lines are where they may be. Where it is stuck it has a fact, or an exit of the routine of this
-- entry.
pub record IsDraft (d : Declaration) (at : ℕ) (c : Certificate) : Type 0 where
  pub stands : (a : ℕ) → a < 4096 → StandsRight d c a
  pub there : (has_any (c.facts at) || has_exits c at) ≡ true

-- This is promised of a draft; nothing is said here of what was found.
abbrev pub IsDraftIfStuck : {A : Type 0} → Declaration → Attempt A → Type 0
IsDraftIfStuck d (Found c) = ⊤
IsDraftIfStuck d (Stuck at c) = IsDraft d at (claims c)

-- What was found is of the version of the machine or of version 3, and so is a draft.
abbrev pub HasVersionFor : {A : Type 0} → Profile → Attempt A → Type 0
HasVersionFor p attempt = IsVersionFor p (meaning (claimed_by attempt)).version

-- What a search for one version found is of that version, and so is a draft, whatever the machine.
abbrev pub HasVersion : {A : Type 0} → Profile → Version → Attempt A → Type 0
HasVersion p v attempt = (meaning (claimed_by attempt)).version ≡ v

-- A certificate is found.
abbrev pub is_found : {A : Type 0} → Attempt A → Bool
is_found (Found c) = true
is_found (Stuck at c) = false

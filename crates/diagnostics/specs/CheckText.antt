-- What `check` writes.
use Rattle.std.specs.Prelude.{ℕ, ◌≡◌, ◌+◌, ◌==◌, nat_lt, ◌&&◌, ◌||◌, ◌++◌, if◌then◌else◌, codes, decimal, length, List, [], Option, Some, None, Result, Ok, Err}
use Rattle.word12.specs.Words.{octal_text}
use Rattle.wordset.specs.Words.{Words, some_below, how_many}
use Rattle.peripherals.specs.Loading.{image_of}
use Rattle.declaration.specs.Declaration.{Declaration}
use Rattle.policy.specs.Runs.{IsSafe}
use Rattle.facts.specs.declared.Condition.{Condition}
use Rattle.facts.specs.declared.Condition.TheVariants as condition
use Rattle.certificate_lines.specs.Reading.{Text, certificate_of}
use Rattle.judge.specs.Landing.{Case}
use Rattle.judge.specs.Conditions.{IsValid, IsFirst}
use Rattle.judge.specs.declared.judging.Refusal.{Refusal}
use Rattle.command_parts.specs.declared.status.Status.{Status}
use Rattle.command_parts.specs.declared.status.Status.TheVariants.{Done, Refused}
use Rattle.diagnostics.specs.CertificateInputs.{OfCertified}

-- The name of a condition.
abbrev pub condition_text : Condition → List ℕ
condition_text condition.V1 = codes "V1"
condition_text condition.V2 = codes "V2"
condition_text condition.V3 = codes "V3"
condition_text condition.V4 = codes "V4"
condition_text condition.V5 = codes "V5"
condition_text condition.V6 = codes "V6"
condition_text condition.V7 = codes "V7"
condition_text condition.V8 = codes "V8"
condition_text condition.V9 = codes "V9"
condition_text condition.V10 = codes "V10"
condition_text condition.V11 = codes "V11"
condition_text condition.V12 = codes "V12"
condition_text condition.V13 = codes "V13"
condition_text condition.V14 = codes "V14"
condition_text condition.V15 = codes "V15"
condition_text condition.V16 = codes "V16"

-- Some body has the cell, main's or a routine's.
abbrev pub in_bodies : Declaration → Words
in_bodies d a = d.body None a || some_below 4096 (λ e. d.body (Some e) a)

-- The cell is a declared halt.
abbrev pub is_halt : Declaration → Words
is_halt d a = d.stop a || d.pause a

-- How many cells a set has, in decimal digits, and what they are.
abbrev pub counted : Words → List ℕ → List ℕ
counted cells name = decimal (how_many 4096 cells) ++ name

-- Where reads are listed, how many cells are on the list.
abbrev pub reads_text : Option Words → List ℕ
reads_text None = []
reads_text (Some cells) = codes ", " ++ counted cells (codes " read cells")

-- How many there are of something, after a comma, with its name for one and for more; nothing if there are none.
abbrev pub more_text : ℕ → List ℕ → List ℕ → List ℕ
more_text n one more = if n == 0 then [] else codes ", " ++ decimal n ++ (if n == 1 then one else more)

-- The routine of this entry may return by an offset above 7, which no `sub` line declares.
abbrev pub is_skipping : Declaration → Words
is_skipping d e = d.entry e && some_below 64 (λ o. nat_lt 7 o && d.offset e o)

-- What a declaration allows that takes lines of its own: for how many addresses calls may be abandoned, how many routines may
-- store their return word, and how many may return by an offset above 7.
abbrev pub widened_text : Declaration → List ℕ
widened_text d =
    more_text (how_many 4096 d.abandon) (codes " abandon place") (codes " abandon places") ++
    more_text (how_many 4096 d.moves) (codes " moved return") (codes " moved returns") ++
    more_text (how_many 4096 (is_skipping d)) (codes " skip") (codes " skips")

-- The line of a program that is safe.
abbrev pub yes_text : Declaration → List ℕ
yes_text d =
    codes "yes: " ++ counted (in_bodies d) (codes " body cells, ") ++ counted d.variable (codes " variable cells, ") ++
    counted d.entry (codes " entries, ") ++ counted (is_halt d) (codes " halts") ++ reads_text d.reads ++
    more_text (length d.holds + length d.returns) (codes " assertions") (codes " assertions") ++ widened_text d ++ codes "\n"

-- The line of a condition that fails at an address.
abbrev pub no_text : Refusal → List ℕ
no_text r = codes "no: " ++ condition_text r.condition ++ codes " at " ++ octal_text r.address ++ codes "\n"

-- What the conditions are checked for: the words of a tape's image, a declaration, and the certificate that these
-- lines make.
abbrev pub checked_case : List (Option ℕ) → Declaration → Text → Case
checked_case image d c = record { image = image_of image; declaration = d; certificate = certificate_of c }

-- Every condition holds, and so the program is safe.
pub record IsYes (j : Case) : Type 0 where
  pub valid : IsValid j
  pub safe : IsSafe j.image j.declaration

-- The verdict: yes, or the first condition that fails.
abbrev pub IsVerdict : Case → Result (Unit {0}) Refusal → Type 0
IsVerdict j (Ok _) = IsYes j
IsVerdict j (Err r) = IsFirst j r.condition r.address

-- The line of a verdict: a yes with how many cells, entries, halts and assertions are declared and with what widens the
-- declaration, or a no with the condition that fails and its address.
abbrev pub verdict_text : Declaration → Result (Unit {0}) Refusal → List ℕ
verdict_text d (Ok _) = yes_text d
verdict_text d (Err r) = no_text r

-- A program that is not certified is refused.
abbrev pub verdict_status : Result (Unit {0}) Refusal → Status
verdict_status (Ok _) = Done
verdict_status (Err r) = Refused

-- The line is that of the verdict on an image, a declaration and the lines of a certificate, and the status is that of the verdict.
pub record IsVerdictOf (image : List (Option ℕ)) (declaration : Declaration) (lines : Text) (status : Status) (line : List ℕ) : Type 0 where
  pub verdict : Result (Unit {0}) Refusal
  pub is : IsVerdict (checked_case image declaration lines) verdict
  pub line_is : line ≡ verdict_text declaration verdict
  pub status_is : status ≡ verdict_status verdict

-- The frames are a tape, the texts a declaration and a certificate; the text is the line of their verdict.
abbrev pub IsCheckedSo : Option (List ℕ) → Option (List ℕ) → Option (List ℕ) → List ℕ → Status → Type 0
IsCheckedSo frames text certificate line status = OfCertified frames text certificate IsVerdictOf status line

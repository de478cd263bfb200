-- Laws of the definitions. Every run of events has an answer, and so has every run with an operator; and what a source
-- means, what is written for it and what is read from that agree.
use Rattle.std.specs.Prelude.{ℕ, ◌≡◌, ◌<◌, ◌≤◌, Bool, Option, Some, List, [], ◌∷◌, IfSome, length, map, ⊤}
use Rattle.std.specs.List.{AllByRecursion}
use Rattle.peripherals.specs.declared.Event.{Event}
use Rattle.peripherals.specs.declared.Event.TheVariants.{Step, Key, PrinterDone, ReaderDone, PunchDone, Switches, Continue}
use Rattle.command_parts.specs.declared.options.SummaryForm.{SummaryForm}
use Rattle.command_parts.specs.declared.options.RunOptions.{RunOptions}
use Rattle.command_parts.specs.declared.status.Fault.{Fault}
use Rattle.command_parts.specs.declared.status.Fault.TheVariants.{EmptyImage, Source, Device}
use Rattle.command_parts.specs.declared.status.Fault.TheVariants as fault
use Rattle.command_parts.specs.declared.status.Status.{Status}
use Rattle.instruct.specs.declared.Profile.{Profile}
use Rattle.bin_tape.specs.Image.{IsEmptyImage}
use Rattle.bin_tape.specs.Written.{written_tape}
use Rattle.pal_text.specs.declared.names.Name.{Name}
use Rattle.pal_acts.specs.Permanent.{permanent_symbols}
use Rattle.pal_asm.specs.Sources.{Means, IsFault}
use Rattle.pal_asm.specs.declared.fault.PalFault.{PalFault}
use Rattle.certificate_lines.specs.Pieces.{most_bytes}
use Rattle.search_commands.specs.GuessText.{IsGuess}
use Rattle.search_commands.specs.MigrateText.{IsMigrated}
use Rattle.diagnostics.specs.CheckText.{IsCheckedSo}
use Rattle.command_parts.specs.declared.status.Status.TheVariants.{Done}
use Rattle.source_commands.specs.AssembleText.{IsAssembled, IsListing, IsListFault, IsSourceFault}
use Rattle.source_commands.specs.WrittenSource.{IsTapeSource}
use Rattle.command_parts.specs.Inputs.{HasImage}
use Rattle.machine_commands.specs.Running.{IsRunOf}
use Rattle.peripherals.specs.Operator.{Plan}
use Rattle.machine_commands.specs.Follows.{Follows}
use Rattle.machine_commands.specs.Session.{IsHeld, IsSessionOf}
use Rattle.machine_commands.specs.Teletype.{run_of, types_by}
use Rattle.machine_commands.specs.declared.follow.End.{End}
use Rattle.command_parts.specs.declared.options.TeletypeOptions.{TeletypeOptions}
use Rattle.peripherals.specs.Devices.{WorldState}
use Rattle.processor.specs.Runs.{Run, Taken}

-- The number that an event carries, if any, is a byte or a word.
abbrev pub Carries : Event → Type 0
Carries Step = ⊤
Carries (Key byte) = byte < 256
Carries PrinterDone = ⊤
Carries (ReaderDone byte) = byte < 256
Carries PunchDone = ⊤
Carries (Switches word) = word < 4096
Carries Continue = ⊤

-- For every image and every list of events, and whether or not a halt ends the run, there is a run, with its text and
-- its status.
abbrev pub RunsEnd : Type 0
RunsEnd =
    (options : RunOptions) (ends_at_halt : Bool) (events : List Event) (image : List (Option ℕ)) → AllByRecursion Carries events →
    (text : List ℕ) × (status : Status) × IsRunOf options ends_at_halt events image text status

-- A run has only one text and one status.
abbrev pub RunsAreOne : Type 0
RunsAreOne =
    (options : RunOptions) (ends_at_halt : Bool) (events : List Event) (image : List (Option ℕ))
    (text text' : List ℕ) (status status' : Status) →
    IsRunOf options ends_at_halt events image text status → IsRunOf options ends_at_halt events image text' status' →
    (text ≡ text') × (status ≡ status')

-- What a plan still holds are bytes, and a word for the switches if there is one.
pub record CarriesAll (plan : Plan) : Type 0 where
  pub switches : IfSome plan.switches (λ word. word < 4096)
  pub frames : AllByRecursion (λ byte. byte < 256) plan.frames
  pub keys : AllByRecursion (λ byte. byte < 256) plan.keys

-- For every plan of an operator and every image, the run comes to an end, with its text, what was printed and punched,
-- and its status.
abbrev pub SessionsEnd : Type 0
SessionsEnd =
    (options : RunOptions) (form : SummaryForm) (plan : Plan) (image : List (Option ℕ)) → CarriesAll plan →
    (text : List ℕ) × (printed : List ℕ) × (punched : List ℕ) × (status : Status) ×
    IsSessionOf options form plan image text printed punched status

-- A run with an operator has only one such end.
abbrev pub SessionsAreOne : Type 0
SessionsAreOne =
    (options : RunOptions) (form : SummaryForm) (plan : Plan) (image : List (Option ℕ))
    (text text' printed printed' punched punched' : List ℕ) (status status' : Status) →
    IsSessionOf options form plan image text printed punched status →
    IsSessionOf options form plan image text' printed' punched' status' →
    (text ≡ text') × (printed ≡ printed') × (punched ≡ punched') × (status ≡ status')

-- A session at the teletype with these frames and these bytes of keys has at most one end.
abbrev pub TypedAreOne : Type 0
TypedAreOne =
    (options : TeletypeOptions) (form : SummaryForm) (frames bytes : List ℕ) (image : List (Option ℕ))
    (text text' printed printed' punched punched' : List ℕ) (status status' : Status) →
    IsHeld (types_by options frames bytes) (run_of options) form image text printed punched status →
    IsHeld (types_by options frames bytes) (run_of options) form image text' printed' punched' status' →
    (text ≡ text') × (printed ≡ printed') × (punched ≡ punched') × (status ≡ status')

-- A state that events lead to in some number of instructions is also reached by that many steps of the instruction
-- table, for some answers of the devices.
abbrev pub FollowsTheTable : Type 0
FollowsTheTable =
    (profile : Profile) (ends_at_halt : Bool) (events : List Event) (w x : WorldState) (lines : List ℕ) (steps : ℕ) (end : End) →
    Follows profile ends_at_halt events w lines steps end x →
    (taken : List Taken) × (length taken ≡ steps) × Run profile w.state taken x.state

-- Sources whose bytes are known, and are these parts.
abbrev pub telling : List (List ℕ) → List (Option (List ℕ))
telling parts = map Some parts

-- The tape that is written for a source is unique.
abbrev pub TapeIsOne : Type 0
TapeIsOne =
    (profile : Profile) (parts : List (List ℕ)) (tape tape' : List ℕ) →
    IsAssembled profile (telling parts) tape → IsAssembled profile (telling parts) tape' → tape ≡ tape'

-- The image that a source means is read from its tape.
abbrev pub MeantIsRead : Type 0
MeantIsRead =
    (profile : Profile) (parts : List (List ℕ)) (symbols : List (Name × ℕ)) (image : List (Option ℕ)) (tape : List ℕ) →
    IsAssembled profile (telling parts) tape → Means (permanent_symbols profile) parts symbols image → HasImage (Some tape) image

-- The image that is read from a source's tape is the one that the source means.
abbrev pub ReadIsMeant : Type 0
ReadIsMeant =
    (profile : Profile) (parts : List (List ℕ)) (image : List (Option ℕ)) (tape : List ℕ) →
    IsAssembled profile (telling parts) tape → HasImage (Some tape) image →
    (symbols : List (Name × ℕ)) × Means (permanent_symbols profile) parts symbols image

-- A source that means an image with at least one word has a tape: the one that is written for that image.
abbrev pub TapeIsThere : Type 0
TapeIsThere =
    (profile : Profile) (parts : List (List ℕ)) (symbols : List (Name × ℕ)) (image : List (Option ℕ)) →
    Means (permanent_symbols profile) parts symbols image → (IsEmptyImage image → ⊥) →
    IsAssembled profile (telling parts) (written_tape image)

-- A source that means an image without words has no tape.
abbrev pub EmptyHasNoTape : Type 0
EmptyHasNoTape =
    (profile : Profile) (parts : List (List ℕ)) (symbols : List (Name × ℕ)) (image : List (Option ℕ)) (tape : List ℕ) →
    Means (permanent_symbols profile) parts symbols image → IsEmptyImage image → IsAssembled profile (telling parts) tape → ⊥

-- From the source that `source` writes for a tape whose image has at least one word, `assemble` makes the tape that is
-- written for that image.
abbrev pub WrittenIsAssembled : Type 0
WrittenIsAssembled =
    (profile : Profile) (frames text : List ℕ) (image : List (Option ℕ)) →
    IsTapeSource profile (Some frames) text → HasImage (Some frames) image → (IsEmptyImage image → ⊥) →
    IsAssembled profile (telling (text ∷ [])) (written_tape image)

-- `assemble` makes no other tape from that source.
abbrev pub AssembledIsWritten : Type 0
AssembledIsWritten =
    (profile : Profile) (frames text tape : List ℕ) (image : List (Option ℕ)) →
    IsTapeSource profile (Some frames) text → HasImage (Some frames) image →
    IsAssembled profile (telling (text ∷ [])) tape → tape ≡ written_tape image

-- The reasons why a source that means an image may have no tape: the image has no words, a device failed, or memory was
-- refused.
abbrev pub MayMiss : List (Option ℕ) → Fault → Type 0
MayMiss image EmptyImage = IsEmptyImage image
MayMiss image (Device device) = Unit {0}
MayMiss image fault.NoMemory = Unit {0}
MayMiss image _ = ⊥

-- What may be reported for a source with a fault: that fault, that a device failed, or that memory was refused.
abbrev pub MayBeTold : PalFault → Fault → Type 0
MayBeTold bad (Source told) = told ≡ bad
MayBeTold bad (Device device) = Unit {0}
MayBeTold bad fault.NoMemory = Unit {0}
MayBeTold bad _ = ⊥

-- A source that means an image has no tape only if the image has no words, a device failed, or memory was refused.
abbrev pub MeantIsWritten : Type 0
MeantIsWritten =
    (profile : Profile) (parts : List (List ℕ)) (symbols : List (Name × ℕ)) (image : List (Option ℕ))
    (marks : List Bool) (left : List (Option (List ℕ))) (fault : Fault) →
    Means (permanent_symbols profile) parts symbols image → IsSourceFault profile marks (telling parts) left fault → MayMiss image fault

-- If a source with a fault has no tape, nothing is reported but that fault, that a device failed, or that memory was
-- refused.
abbrev pub FaultIsTold : Type 0
FaultIsTold =
    (profile : Profile) (parts : List (List ℕ)) (fault : PalFault) (marks : List Bool) (left : List (Option (List ℕ))) (told : Fault) →
    IsFault (permanent_symbols profile) parts fault → IsSourceFault profile marks (telling parts) left told → MayBeTold fault told

-- A source with a fault has no tape and no listing.
abbrev pub FaultIsNotWritten : Type 0
FaultIsNotWritten =
    (profile : Profile) (parts : List (List ℕ)) (fault : PalFault) (text : List ℕ) →
    IsFault (permanent_symbols profile) parts fault →
    (IsAssembled profile (telling parts) text → ⊥) × (IsListing profile (telling parts) text → ⊥)

-- A source that means an image is never refused its listing because of a fault of the source.
abbrev pub MeantIsListed : Type 0
MeantIsListed =
    (profile : Profile) (parts : List (List ℕ)) (symbols : List (Name × ℕ)) (image : List (Option ℕ))
    (marks : List Bool) (left : List (Option (List ℕ))) (fault : PalFault) →
    Means (permanent_symbols profile) parts symbols image → IsListFault profile marks (telling parts) left (Source fault) → ⊥

-- A source with a fault is refused its listing for no fault of the source other than that one.
abbrev pub FaultIsTheOne : Type 0
FaultIsTheOne =
    (profile : Profile) (parts : List (List ℕ)) (fault told : PalFault) (marks : List Bool) (left : List (Option (List ℕ))) →
    IsFault (permanent_symbols profile) parts fault → IsListFault profile marks (telling parts) left (Source told) → told ≡ fault

-- The bytes of a tape, a declaration and a certificate have at most one verdict, that is, one line and one status.
abbrev pub ChecksAreOne : Type 0
ChecksAreOne =
    (tape declaration certificate line line' : List ℕ) (status status' : Status) →
    IsCheckedSo (Some tape) (Some declaration) (Some certificate) line status →
    IsCheckedSo (Some tape) (Some declaration) (Some certificate) line' status' → (line ≡ line') × (status ≡ status')

-- If `check` has a verdict on what `guess` writes for a tape and a declaration, it is yes: its status is that of
-- success.
abbrev pub GuessIsAccepted : Type 0
GuessIsAccepted =
    (tape declaration guess line : List ℕ) (status : Status) → IsGuess (Some tape) (Some declaration) guess →
    IsCheckedSo (Some tape) (Some declaration) (Some guess) line status → status ≡ Done

-- If what `guess` writes has no more bytes than are read of a certificate, `check` has a verdict on it, which is yes.
abbrev pub GuessIsRead : Type 0
GuessIsRead =
    (tape declaration guess : List ℕ) → IsGuess (Some tape) (Some declaration) guess → length guess ≤ most_bytes →
    (line : List ℕ) × IsCheckedSo (Some tape) (Some declaration) (Some guess) line Done

-- If `check` has a verdict on a certificate and on what `migrate` writes for it, the two verdicts are the same, in line
-- and status.
abbrev pub MigratedIsCheckedAlike : Type 0
MigratedIsCheckedAlike =
    (tape declaration certificate migrated line line' : List ℕ) (status status' : Status) → IsMigrated (Some certificate) migrated →
    IsCheckedSo (Some tape) (Some declaration) (Some certificate) line status →
    IsCheckedSo (Some tape) (Some declaration) (Some migrated) line' status' → (line ≡ line') × (status ≡ status')

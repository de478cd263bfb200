-- Which faults a command may have: the first of its inputs that has one, and then its own work. Each table names the
-- faults that can come; no other does.
use Rattle.std.specs.Prelude.{ℕ, Bool, true, false, Result, Err, List, IfSome, ◌⊎◌}
use Rattle.streams.specs.declared.input.InputFault.{InputFault}
use Rattle.streams.specs.declared.input.InputFault.TheVariants as input_fault
use Rattle.bin_tape.specs.Refuses.{Refuses}
use Rattle.bin_tape.specs.declared.fault.TapeFault.{TapeFault}
use Rattle.bin_tape.specs.declared.fault.TapeFault.TheVariants.{ReadFault}
use Rattle.peripherals.specs.EventText.{Fails as FailsAsEvents, most_bytes as most_event_bytes}
use Rattle.peripherals.specs.declared.event_text.EventsFault.{EventsFault}
use Rattle.peripherals.specs.declared.event_text.EventsFault.TheVariants as events_fault
use Rattle.declaration.specs.Text.{Fails as FailsAsDeclaration, most_bytes as most_declaration_bytes}
use Rattle.declaration.specs.declared.DeclarationFault.{DeclarationFault}
use Rattle.declaration.specs.declared.DeclarationFault.TheVariants as declaration_fault
use Rattle.certificate_lines.specs.declared.CertificateFault.{CertificateFault}
use Rattle.certificate_lines.specs.declared.CertificateFault.TheVariants as certificate_fault
use Rattle.turns.specs.declared.GuessFault.{GuessFault}
use Rattle.turns.specs.declared.GuessFault.TheVariants as guess_fault
use Rattle.turns.specs.declared.ProposeFault.{ProposeFault}
use Rattle.turns.specs.declared.ProposeFault.TheVariants as propose_fault
use Rattle.command_parts.specs.declared.status.Fault.{Fault}
use Rattle.command_parts.specs.declared.status.Fault.TheVariants.{Tape, Declared, Certificate, Events, Guess, Declare, Device}
use Rattle.command_parts.specs.declared.status.Fault.TheVariants as fault
use Rattle.command_parts.specs.declared.status.DeviceFault.TheVariants.{Read, Write}
use Rattle.command_parts.specs.Inputs.{Input, HasCome, IsGoodTape, IsGoodDeclaration, IsGoodEvents, FailsBefore, FailsInTape, FailsInText}

-- The answer is that a write failed.
abbrev pub fails_to_write : {T : Type 0} → Result T Fault → Bool
fails_to_write (Err (Device Write)) = true
fails_to_write _ = false

-- The answer is that a read failed.
abbrev pub fails_to_read : {T : Type 0} → Result T Fault → Bool
fails_to_read (Err (Device Read)) = true
fails_to_read _ = false

-- The fault is the tape's: not that of a device that was read, nor of another input.
abbrev pub is_fault_of_tape : Fault → Bool
is_fault_of_tape (Tape fault) = true
is_fault_of_tape _ = false

-- The fault is the declaration's: not that of a device that was read, nor of another input.
abbrev pub is_fault_of_declaration : Fault → Bool
is_fault_of_declaration (Declared fault) = true
is_fault_of_declaration _ = false

-- A fault of reading a tape as a fault of the command: a read that failed is the device's, and any other the tape's.
abbrev pub fault_of_tape : TapeFault → Fault
fault_of_tape ReadFault = Device Read
fault_of_tape fault = Tape fault

-- Why a text was not read, as a fault of the command: a read that failed is the device's, and a want of memory is
-- nobody's.
abbrev pub fault_of_input : InputFault → Fault
fault_of_input input_fault.ReadFailed = Device Read
fault_of_input input_fault.NoMemory = fault.NoMemory

-- A fault of a text of events as a fault of the command: a want of memory is nobody's, and any other is the text's.
abbrev pub fault_of_events : EventsFault → Fault
fault_of_events events_fault.NoMemory = fault.NoMemory
fault_of_events fault = Events fault

-- A fault of a declaration's text as a fault of the command: a want of memory is nobody's, and any other is the
-- declaration's.
abbrev pub fault_of_declaration : DeclarationFault → Fault
fault_of_declaration declaration_fault.NoMemory = fault.NoMemory
fault_of_declaration fault = Declared fault

-- A fault of a certificate's text as a fault of the command: a want of memory is nobody's, a read that failed is the
-- device's, and any other is the certificate's.
abbrev pub fault_of_certificate : CertificateFault → Fault
fault_of_certificate certificate_fault.NoMemory = fault.NoMemory
fault_of_certificate certificate_fault.ReadFault = Device Read
fault_of_certificate fault = Certificate fault

-- Why no certificate was found, as a fault of the command: a want of memory is nobody's, and any other reason is the
-- search's.
abbrev pub fault_of_guess : GuessFault → Fault
fault_of_guess guess_fault.NoMemory = fault.NoMemory
fault_of_guess fault = Guess fault

-- Why no declaration is proposed, as a fault of the command: a want of memory is nobody's, and any other reason is the
-- proposer's.
abbrev pub fault_of_proposal : ProposeFault → Fault
fault_of_proposal propose_fault.NoMemory = fault.NoMemory
fault_of_proposal fault = Declare fault

-- The text of events has this fault, and it is not a want of memory, which is no fault of a text.
abbrev pub IsEventsFault : List ℕ → EventsFault → Type 0
IsEventsFault text events_fault.NoMemory = ⊥
IsEventsFault text fault = FailsAsEvents text fault

-- The text of a declaration has this fault, and it is not a want of memory, which is no fault of a text.
abbrev pub IsDeclarationFault : List ℕ → DeclarationFault → Type 0
IsDeclarationFault text declaration_fault.NoMemory = ⊥
IsDeclarationFault text fault = FailsAsDeclaration text fault

-- Why a tape was not read: it has this fault, or a read failed. Reading a tape takes no memory.
abbrev pub IsTapeInputFault : Input → Fault → Type 0
IsTapeInputFault tape (Tape fault) = IfSome tape.had (λ bytes. Refuses 65536 bytes fault)
IsTapeInputFault tape (Device Read) = FailsInTape tape
IsTapeInputFault tape _ = ⊥

-- Why a text of events was not read: it has this fault, a read failed, or memory was refused once some of it had come.
abbrev pub IsEventsInputFault : Input → Fault → Type 0
IsEventsInputFault text (Events fault) = IfSome text.had (λ bytes. IsEventsFault bytes fault)
IsEventsInputFault text (Device Read) = FailsInText most_event_bytes text
IsEventsInputFault text fault.NoMemory = HasCome text
IsEventsInputFault text _ = ⊥

-- Why a declaration's text was not read: it has this fault, a read failed, or memory was refused once some of it had
-- come.
abbrev pub IsDeclarationInputFault : Input → Fault → Type 0
IsDeclarationInputFault text (Declared fault) = IfSome text.had (λ bytes. IsDeclarationFault bytes fault)
IsDeclarationInputFault text (Device Read) = FailsInText most_declaration_bytes text
IsDeclarationInputFault text fault.NoMemory = HasCome text
IsDeclarationInputFault text _ = ⊥

-- Why frames or keys were not read: a read failed, or memory was refused once some had come.
abbrev pub IsBytesFault : ℕ → Input → Fault → Type 0
IsBytesFault most bytes (Device Read) = FailsBefore most bytes
IsBytesFault most bytes fault.NoMemory = HasCome bytes
IsBytesFault most bytes _ = ⊥

-- The inputs are good, and a write failed or memory was refused.
abbrev pub IsRunFault : Fault → Type 0
IsRunFault (Device Write) = Unit {0}
IsRunFault fault.NoMemory = Unit {0}
IsRunFault _ = ⊥

-- The inputs are good, and a write failed.
abbrev pub IsWriteFault : Fault → Type 0
IsWriteFault (Device Write) = Unit {0}
IsWriteFault _ = ⊥

-- Why a command of a tape has no result: the tape's fault, or after a good tape that of the work.
abbrev pub IsTapeFault : Input → Fault → Type 0
IsTapeFault tape fault = IsTapeInputFault tape fault ⊎ (IsGoodTape tape.had × IsRunFault fault)

-- Why a run of a tape by a text of events has no result: the tape's fault; after a good tape the text's; and after a
-- good text that of the work, where a write failed or memory was refused.
abbrev pub IsEventRunFault : Input → Input → Fault → Type 0
IsEventRunFault tape text fault =
    IsTapeInputFault tape fault ⊎ (IsGoodTape tape.had × (IsEventsInputFault text fault ⊎ (IsGoodEvents text.had × IsRunFault fault)))

-- Why a session has no result: the tape's fault; or after a good tape a fault of the frames or of the keys, of which so many are read at
-- most, or of the run.
abbrev pub IsSessionFault : ℕ → Input → Input → Input → Fault → Type 0
IsSessionFault most tape reader keys fault =
    IsTapeInputFault tape fault ⊎ (IsGoodTape tape.had × (IsBytesFault most reader fault
    ⊎ (IsBytesFault most keys fault ⊎ IsRunFault fault)))

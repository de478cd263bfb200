-- The statuses that the program ends with.
use Rattle.std.specs.Prelude.{ℕ}
use Rattle.command_parts.specs.declared.status.Fault.{Fault}
use Rattle.command_parts.specs.declared.status.Fault.TheVariants.{Device}
use Rattle.command_parts.specs.declared.status.Fault.TheVariants as fault
use Rattle.command_parts.specs.declared.status.Status.{Status}
use Rattle.command_parts.specs.declared.status.Status.TheVariants as status

-- Each status as a number.
abbrev pub code_of : Status → ℕ
code_of status.Done = 0
code_of status.Refused = 1
code_of status.Usage = 2
code_of status.Device = 3
code_of status.Memory = 4

-- The status of a fault: a file or a stream failed, memory was refused, or an input was refused or a search found nothing.
abbrev pub status_of_fault : Fault → Status
status_of_fault (Device fault) = status.Device
status_of_fault fault.NoMemory = status.Memory
status_of_fault _ = status.Refused

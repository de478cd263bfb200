-- Which faults are of the bytes of a text, and which of a read.
use Rattle.std.specs.Prelude.{Result, Ok, Err, Bool, true, false}
use Rattle.certificate_lines.specs.declared.CertificateFault.{CertificateFault}
use Rattle.certificate_lines.specs.declared.CertificateFault.TheVariants as faults

-- This fault is that of a read that failed.
abbrev pub is_read_fault : CertificateFault → Bool
is_read_fault faults.ReadFault = true
is_read_fault faults.Version = false
is_read_fault (faults.BadLine n) = false
is_read_fault (faults.Order n) = false
is_read_fault faults.TooMany = false
is_read_fault faults.NoMemory = false

-- This fault is one of the text's bytes: it is not that memory was refused or that a read failed.
abbrev pub is_of_bytes : CertificateFault → Bool
is_of_bytes faults.ReadFault = false
is_of_bytes faults.NoMemory = false
is_of_bytes faults.Version = true
is_of_bytes (faults.BadLine n) = true
is_of_bytes (faults.Order n) = true
is_of_bytes faults.TooMany = true

-- The answer to reading a certificate is that a read of the source failed, and no other fault.
abbrev pub failed_to_read : {T : Type 0} → Result T CertificateFault → Bool
failed_to_read (Ok _) = false
failed_to_read (Err fault) = is_read_fault fault

-- The fault of a statement as that of its part.
use Rattle.pal_text.specs.declared.fault.StatementFault.{StatementFault}
use Rattle.pal_text.specs.declared.fault.StatementFault.TheVariants as statement
use Rattle.pal_text.specs.declared.fault.TextFault.{TextFault}
use Rattle.pal_text.specs.declared.fault.TextFault.TheVariants.{Illegal, NoMemory}

-- The fault of a part of which a statement is refused so: on the same line, or for want of memory too.
abbrev pub fault_of : StatementFault → TextFault
fault_of (statement.Illegal line) = Illegal line
fault_of statement.NoMemory = NoMemory

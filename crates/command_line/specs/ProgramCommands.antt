-- Which command on a program and its declaration is called.
use Rattle.std.specs.Prelude.{ℕ, codes, if◌then◌else◌, List}
use Rattle.std.specs.Str.{bytes_eq}
use Rattle.command_line.specs.declared.program_command.ProgramCommand.{ProgramCommand}
use Rattle.command_line.specs.declared.program_command.ProgramCommand.TheVariants.{Verify, Watch, Guess, Refute, Declare, Report, Check}

-- The command of a name; any other name is taken for `check`.
abbrev pub command_of : List ℕ → ProgramCommand
command_of command =
    if bytes_eq command (codes "verify") then Verify
    else if bytes_eq command (codes "watch") then Watch
    else if bytes_eq command (codes "guess") then Guess
    else if bytes_eq command (codes "refute") then Refute
    else if bytes_eq command (codes "declare") then Declare
    else if bytes_eq command (codes "report") then Report
    else Check

-- Which command is called.
use Rattle.std.specs.Prelude.{ℕ, codes, if◌then◌else◌, List}
use Rattle.std.specs.Str.{bytes_eq}
use Rattle.command_line.specs.declared.command_name.CommandName.{CommandName}
use Rattle.command_line.specs.declared.command_name.CommandName.TheVariants.{Machine, Assemble, List as ListSource, Source, Migrate, Place, Explain, Program}
use Rattle.command_line.specs.declared.command_name.MachineCommand.TheVariants.{Run, Teletype, Dump}
use Rattle.command_line.specs.ProgramCommands.{command_of}

-- The command of a name. Any other name is taken for a command on a program and its declaration.
abbrev pub called_of : List ℕ → CommandName
called_of name =
    if bytes_eq name (codes "run") then Machine Run
    else if bytes_eq name (codes "teletype") then Machine Teletype
    else if bytes_eq name (codes "dump") then Machine Dump
    else if bytes_eq name (codes "assemble") then Assemble
    else if bytes_eq name (codes "list") then ListSource
    else if bytes_eq name (codes "source") then Source
    else if bytes_eq name (codes "migrate") then Migrate
    else if bytes_eq name (codes "place") then Place
    else if bytes_eq name (codes "explain") then Explain
    else Program (command_of name)

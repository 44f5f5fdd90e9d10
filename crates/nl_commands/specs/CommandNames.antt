-- The names of the commands, and what each asks for with the words behind it.
use Rattle.std.specs.Prelude.{if◌then◌else◌, List, [], ◌∷◌, codes, map, Option, None, Some, Result, Ok, Err}
use Rattle.std.specs.Str.{bytes_eq}
use Rattle.clap.specs.Words.{Row, Rule, Text}
use Rattle.nl_types.specs.Plain.Calls.{and_then}
use Rattle.nl_commands.specs.declared.command.Command.{Command}
use Rattle.nl_commands.specs.declared.command.Command.TheVariants.{Clean}
use Rattle.nl_commands.specs.declared.command.Shown.TheVariants.{Content, Names, Kind}
use Rattle.nl_commands.specs.declared.error.LineError.{LineError}
use Rattle.nl_commands.specs.declared.error.LineError.TheVariants.{Usage}
use Rattle.nl_commands.specs.declared.names.CommandForm.{CommandForm}
use Rattle.nl_commands.specs.declared.names.CommandName.{CommandName}
use Rattle.nl_commands.specs.declared.names.CommandName.TheVariants as name
use Rattle.nl_commands.specs.AskingCommands.{catm_given, catm_rules, show_given, show_rules}
use Rattle.nl_commands.specs.CheckpointCommands.{at_given, at_rules, chcp_given, chcp_rules, lscp_given, lscp_rules, mkcp_given, mkcp_rules, rmcp_given, rmcp_rules}
use Rattle.nl_commands.specs.FileCommands.{create_given, fill_given, mkdir_given, mv_given, operands_rules, path_rules}
use Rattle.nl_commands.specs.FileCommands.{rm_given, rmdir_given, truncate_given, write_given}
use Rattle.nl_commands.specs.Grammars.{argument_rule, grammar, parsed}
use Rattle.nl_commands.specs.SegmentCommands.{lssu_given, lssu_rules, mount_given, mount_rules, resize_given, resize_rules, umount_given, umount_rules}

-- a command, as a line names it: its word, and what it may be given
pub record CommandEntry : Type 0 where
  pub name : CommandName
  pub word : Text
  pub rules : List Rule

abbrev pub entry : CommandName → (word : Text) → List Rule → CommandEntry
entry name word rules = record { name = name; word = word; rules = rules }

-- what code takes for a command
abbrev pub entry_of : CommandForm → CommandEntry
entry_of form = entry form.name form.word.now (map argument_rule form.arguments.now)

unfoldable pub commands : List CommandEntry
commands =
    entry name.At (codes "at") at_rules
    ∷ entry name.Mkcp (codes "mkcp") mkcp_rules
    ∷ entry name.Chcp (codes "chcp") chcp_rules
    ∷ entry name.Lscp (codes "lscp") lscp_rules
    ∷ entry name.Rmcp (codes "rmcp") rmcp_rules
    ∷ entry name.Lssu (codes "lssu") lssu_rules
    ∷ entry name.Clean (codes "clean") []
    ∷ entry name.Mount (codes "mount") mount_rules
    ∷ entry name.Umount (codes "umount") umount_rules
    ∷ entry name.Resize (codes "resize") resize_rules
    ∷ entry name.Create (codes "create") path_rules
    ∷ entry name.Mkdir (codes "mkdir") path_rules
    ∷ entry name.Rm (codes "rm") path_rules
    ∷ entry name.Rmdir (codes "rmdir") path_rules
    ∷ entry name.Mv (codes "mv") operands_rules
    ∷ entry name.Write (codes "write") operands_rules
    ∷ entry name.Fill (codes "fill") operands_rules
    ∷ entry name.Truncate (codes "truncate") operands_rules
    ∷ entry name.Cat (codes "cat") show_rules
    ∷ entry name.Catm (codes "catm") catm_rules
    ∷ entry name.Ls (codes "ls") show_rules
    ∷ entry name.Stat (codes "stat") show_rules
    ∷ []

-- the first of the commands that a word names
abbrev pub entry_in : Text → List CommandEntry → Option CommandEntry
entry_in word [] = None
entry_in word (e ∷ entries) = if bytes_eq e.word word then Some e else entry_in word entries

-- what it asks for by what it is given
abbrev pub command_given : CommandName → List Row → Result Command LineError
command_given name.At rows = at_given rows
command_given name.Mkcp rows = Ok (mkcp_given rows)
command_given name.Chcp rows = chcp_given rows
command_given name.Lscp rows = lscp_given rows
command_given name.Rmcp rows = rmcp_given rows
command_given name.Lssu rows = Ok (lssu_given rows)
command_given name.Clean rows = Ok Clean
command_given name.Mount rows = mount_given rows
command_given name.Umount rows = umount_given rows
command_given name.Resize rows = resize_given rows
command_given name.Create rows = create_given rows
command_given name.Mkdir rows = mkdir_given rows
command_given name.Rm rows = rm_given rows
command_given name.Rmdir rows = rmdir_given rows
command_given name.Mv rows = mv_given rows
command_given name.Write rows = write_given rows
command_given name.Fill rows = fill_given rows
command_given name.Truncate rows = truncate_given rows
command_given name.Cat rows = show_given Content rows
command_given name.Catm rows = catm_given rows
command_given name.Ls rows = show_given Names rows
command_given name.Stat rows = show_given Kind rows

-- what a command asks for with the words behind its own
abbrev pub entry_meant : CommandEntry → List Text → Result Command LineError
entry_meant e words = and_then (parsed (grammar e.word e.rules) words) (command_given e.name)

abbrev pub meant_if_named : Option CommandEntry → List Text → Result Command LineError
meant_if_named None words = Err Usage
meant_if_named (Some e) words = entry_meant e words

-- what the words of a line ask for
abbrev pub command_meant : List Text → Result Command LineError
command_meant [] = Err Usage
command_meant (word ∷ words) = meant_if_named (entry_in word commands) words

use Rattle.std.proofs.Common.{◌≡◌, drop, map}
use Rattle.nl_commands.specs.CommandNames.{entry_in, entry_of}
use Rattle.nl_commands.proofs.names.form_in.Given as goal

-- none so far has the word
abbrev pub invariant-loop-command : goal.invariant-loop-command
invariant-loop-command l =
    entry_in l.word (map entry_of (drop l.command-index l.commands)) ≡ entry_in l.word (map entry_of l.commands)

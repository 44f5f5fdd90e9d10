-- Commands that show what is at a path: what they may be given, and what they ask for then.
use Rattle.std.specs.Prelude.{List, [], ◌∷◌, codes, Result, Ok}
use Rattle.clap.specs.Words.{Row, Rule}
use Rattle.nl_types.specs.Plain.Calls.{and_then}
use Rattle.nl_commands.specs.declared.command.Command.{Command}
use Rattle.nl_commands.specs.declared.command.Command.TheVariants.{Catm, Show}
use Rattle.nl_commands.specs.declared.command.Shown.{Shown}
use Rattle.nl_commands.specs.declared.error.LineError.{LineError}
use Rattle.nl_commands.specs.Grammars.{letter, operand_rule, operands_rule, option_rule}
use Rattle.nl_commands.specs.GivenOperands.{number_at, optional_number_at, word_at, words_at}

-- NAME [-m M] P
abbrev pub show_rules : List Rule
show_rules = option_rule (codes "mount") (letter (codes "m")) ∷ operand_rule (codes "path") ∷ []

abbrev pub show_given : Shown → List Row → Result Command LineError
show_given what rows =
    and_then (optional_number_at (codes "mount") rows) (λ mount.
    and_then (word_at (codes "path") rows) (λ path.
    Ok (Show what mount path)))

-- catm M P..
abbrev pub catm_rules : List Rule
catm_rules = operand_rule (codes "mount") ∷ operands_rule (codes "path") ∷ []

abbrev pub catm_given : List Row → Result Command LineError
catm_given rows =
    and_then (number_at (codes "mount") rows) (λ mount.
    and_then (words_at (codes "path") rows) (λ paths.
    Ok (Catm mount paths)))

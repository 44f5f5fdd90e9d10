-- What help says of commands.
use Rattle.std.specs.Prelude.{◌-◌, List, [], ◌∷◌, ◌++◌, codes, length, map, replicate}
use Rattle.clap.specs.Words.{Text}
use Rattle.nl_types.specs.Plain.Characters.{line_feed}
use Rattle.nl_commands.specs.declared.names.CommandForm.{CommandForm}

-- a line that begins so, and says so much from column 31 on, or behind a longer beginning
abbrev pub help_line : (head line : Text) → Text
help_line head line = head ++ replicate (31 - length head) 32 ++ line ++ line_feed ∷ []

-- lines, of which the first begins so
abbrev pub help_lines : (head : Text) → List Text → Text
help_lines head [] = []
help_lines head (line ∷ lines) = help_line head line ++ help_lines [] lines

-- a command: two blanks and how it is written, and what it does
abbrev pub form_help : CommandForm → Text
form_help form =
    help_lines (codes "  " ++ form.word.now ++ codes " " ++ form.form.now) (map (λ l. l.now) form.help.now)

abbrev pub forms_help : List CommandForm → Text
forms_help [] = []
forms_help (form ∷ forms) = form_help form ++ forms_help forms

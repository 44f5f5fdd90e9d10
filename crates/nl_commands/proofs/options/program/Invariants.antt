use Rattle.std.proofs.Common.{◌≡◌, List, [], ◌∷◌, drop}
use Rattle.clap.specs.Words.{App, app_of, with_rule}
use Rattle.nl_commands.specs.declared.options.Valued.{Valued}
use Rattle.nl_commands.specs.Options.{program, value_rule}
use Rattle.nl_commands.proofs.options.program.Given as goal

abbrev pub with_options : App → List Valued → App
with_options app [] = app
with_options app (option ∷ rest) = with_options (with_rule app (value_rule option.name.now)) rest

-- with the options that are left, it is the whole program
abbrev pub invariant-loop-option : goal.invariant-loop-option
invariant-loop-option l = with_options (app_of l.command) (drop l.option-index l.options) ≡ program

use Rattle.std.proofs.Common.{◌≡◌, map, drop}
use Rattle.clap.specs.Words.{app_of}
use Rattle.nl_commands.specs.Grammars.{argument_rule, grammar, with_rules}
use Rattle.nl_commands.proofs.grammar.command_of.Given as goal

-- with the arguments that are left, it is the whole grammar
abbrev pub invariant-loop-argument : goal.invariant-loop-argument
invariant-loop-argument l =
    with_rules (app_of l.command) (map argument_rule (drop l.argument-index l.arguments))
    ≡ grammar l.name (map argument_rule l.arguments)

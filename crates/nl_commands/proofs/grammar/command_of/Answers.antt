use Rattle.std.proofs.Common.{◌≡◌, ◌∙◌, ◌+◌, ◌<◌, ◌∷◌, ℕ, List, map, drop, get_or, length, add-one, drop-cons, ap, sym}
use Rattle.std.proofs.lemmas.List.{drop_all}
use Rattle.std.proofs.lemmas.Result.{IfOk-from_err}
use Rattle.clap.specs.Words.{App, with_rule}
use Rattle.nl_commands.specs.declared.grammar.Argument.{Argument}
use Rattle.nl_commands.specs.Grammars.{argument_rule, with_rules}
use Rattle.nl_commands.proofs.grammar.command_of.Goals as goal

abbrev with_all : App → List Argument → App
with_all app arguments = with_rules app (map argument_rule arguments)

next_left : (arguments : List Argument) (k : ℕ) (d : Argument) → k < length arguments
    → drop k arguments ≡ get_or arguments k d ∷ drop (k + 1) arguments
next_left arguments k d inside = rw add-one (drop-cons arguments k d inside)

-- the next one of the arguments that are left is added
one_added : (arguments : List Argument) (k : ℕ) (app more : App) (d : Argument) → k < length arguments
    → more ≡ with_rule app (argument_rule (get_or arguments k d))
    → with_all more (drop (k + 1) arguments) ≡ with_all app (drop k arguments)
one_added arguments k app more d inside is =
    ap (λ (a : App). with_all a (drop (k + 1) arguments)) is
    ∙ sym (ap (with_all app) (next_left arguments k d inside))

pub loop-argument-init : goal.loop-argument-init
loop-argument-init c = ap (λ (app : App). with_all app c.args.arguments.now) c.bare-command.ensures

pub returns-in_err-command : goal.returns-in_err-command
returns-in_err-command c = IfOk-from_err c.from_residual.result _ c.from_residual.ensures.0

pub loop-argument-preserved : goal.loop-argument-preserved
loop-argument-preserved c =
    one_added c.args.arguments.now c.loop-argument.argument-index _ _ _ c.loop-argument-test.true
    (c.in_ok-command.ensures.shape c.library_argument.ensures.local
    ∙ ap (with_rule _) c.library_argument.ensures.rule)
    ∙ c.loop-argument.invariant

pub returns : goal.returns
returns c =
    sym (ap (with_all _) (drop_all c.loop-argument.argument-index c.args.arguments.now
    c.loop-argument-test.false))
    ∙ c.loop-argument.invariant

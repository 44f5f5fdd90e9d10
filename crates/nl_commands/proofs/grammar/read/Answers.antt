use Rattle.std.proofs.Common.{◌≡◌, subst, true, map, List}
use Rattle.clap.specs.Words.{App, Text}
use Rattle.nl_types.specs.Plain.Calls.{IsUnless}
use Rattle.nl_commands.specs.declared.error.LineError.TheVariants.{Memory}
use Rattle.nl_commands.specs.Grammars.{is_readable, parsed}
use Rattle.nl_commands.proofs.grammar.read.Goals as goal

pub returns : goal.returns
returns c =
    let words : List Text = map (λ w. w.now) c.args.words.now in
    subst (λ (app : App). is_readable app ≡ true → IsUnless Memory c.read_by.result (parsed app words))
    c.in_ok-command.ensures c.read_by.ensures

use Rattle.std.proofs.Common.{◌∙◌, map, List}
use Rattle.clap.specs.Words.{Text, fault_of, kind_of, matches_of}
use Rattle.nl_commands.specs.Meanings.{given}
use Rattle.nl_commands.specs.Options.{program}
use Rattle.nl_commands.proofs.Deciding.{error-decides}
use Rattle.nl_commands.proofs.OneFault.{one_fault}
use Rattle.nl_commands.proofs.options.read.Goals as goal

pub returns-in-Err : goal.returns-in-Err
returns-in-Err c = λ other.
    let words : List Text = map (λ w. w.now) c.args.words.now in
    c.told.ensures other
    ∙ error-decides (fault_of program words) (kind_of c.in-Err.error) (given (matches_of program words))
    (one_fault words) c.in-Err.ensures.kinds
    (λ none. other (c.told.ensures other ∙ none))

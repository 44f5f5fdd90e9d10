use Rattle.std.proofs.Common.{◌∙◌, ap, subst, sym}
use Rattle.clap.specs.Words.{found_of}
use Rattle.clap.proofs.WalkLemmas.{first_value-rows}
use Rattle.nl_commands.specs.Meanings.{IsRead}
use Rattle.nl_commands.specs.Options.{number_or_64}
use Rattle.nl_commands.proofs.options.number_given.Goals as goal

pub returns-in-Some : goal.returns-in-Some
returns-in-Some c =
    let given =
    ap number_or_64 (c.in-Some.ensures ∙ first_value-rows (found_of c.args.matches.now) c.args.id.now) in
    subst (IsRead c.option_number.result) given c.option_number.ensures

pub returns-in-None : goal.returns-in-None
returns-in-None c =
    sym (ap number_or_64 (c.in-None.ensures ∙ first_value-rows (found_of c.args.matches.now) c.args.id.now))

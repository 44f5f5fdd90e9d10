use Rattle.std.proofs.Common.{◌∙◌, ap}
use Rattle.clap.specs.Words.{found_of, first_of}
use Rattle.clap.proofs.WalkLemmas.{first_value-rows}
use Rattle.nl_commands.proofs.grammar.Given.text.Goals as goal

pub returns : goal.returns
returns c =
    c.get_str.ensures ∙ first_value-rows (found_of c.self.inside.matches) c.args.id.now
    ∙ ap (first_of c.args.id.now) c.self.view_is

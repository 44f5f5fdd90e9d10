use Rattle.std.proofs.Common.{◌∙◌, ap}
use Rattle.clap.specs.Words.{found_of, all_of}
use Rattle.clap.proofs.WalkLemmas.{raw_values-rows}
use Rattle.nl_commands.proofs.grammar.Given.texts.Goals as goal

pub returns : goal.returns
returns c =
    c.get_strs.ensures ∙ raw_values-rows (found_of c.self.inside.matches) c.args.id.now
    ∙ ap (all_of c.args.id.now) c.self.view_is

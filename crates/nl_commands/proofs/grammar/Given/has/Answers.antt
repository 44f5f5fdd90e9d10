use Rattle.std.proofs.Common.{◌∙◌, ap}
use Rattle.clap.specs.Words.{found_of}
use Rattle.nl_commands.specs.Grammars.{is_used}
use Rattle.nl_commands.proofs.Flags.{used-is}
use Rattle.nl_commands.proofs.grammar.Given.has.Goals as goal

pub returns : goal.returns
returns c =
    c.is_from_words.ensures ∙ used-is (found_of c.self.inside.matches) c.args.id.now _ c.value_source.ensures
    ∙ ap (is_used c.args.id.now) c.self.view_is

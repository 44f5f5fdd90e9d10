use Rattle.nl_commands.proofs.WordParts.{trimmed_result}
use Rattle.nl_commands.proofs.words.trimmed.Goals as goal

pub returns : goal.returns
returns c =
    trimmed_result c.args.text.now c.trim_start_matches.result.now c.trim_start_matches.ensures.matches

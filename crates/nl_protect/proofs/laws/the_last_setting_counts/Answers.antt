use Rattle.nl_protect.specs.Configuration.{lines_in, standard}
use Rattle.nl_protect.proofs.ConfigurationLaws.{set, is_set}
use Rattle.nl_protect.proofs.laws.the_last_setting_counts.Goals as goal

pub returns : goal.returns
returns c = λ text config is.
    let found = set (lines_in text) 1 standard config is in (found.0, found.1, is_set found.0 config found.2)

-- Requests for a text by computation, whatever stands behind them.
use Rattle.std.proofs.Common.{refl}
use Rattle.std.specs.Prelude.{codes}
use Rattle.clap.proofs.OnLiterals.{clap_on_literals}
use Rattle.nl_commands.specs.Meanings.{AsksFor, help, version}

pub help_by_name : AsksFor (codes "--help") help
unfolding clap_on_literals
help_by_name words = refl

pub help_by_letter : AsksFor (codes "-h") help
unfolding clap_on_literals
help_by_letter words = refl

pub version_by_name : AsksFor (codes "--version") version
unfolding clap_on_literals
version_by_name words = refl

pub version_by_letter : AsksFor (codes "-V") version
unfolding clap_on_literals
version_by_letter words = refl

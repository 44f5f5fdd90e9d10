use Rattle.nl_mounts.proofs.Looking.{looks_keep}
use Rattle.nl_mounts.proofs.enters.StateReaderEnters.enter.Goals as goal

pub enter_as-requires : goal.enter_as-requires
enter_as-requires c = looks_keep _ _

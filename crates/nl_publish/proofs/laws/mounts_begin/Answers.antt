use Rattle.nl_publish.specs.Facts.Staying.{mount_begins}
use Rattle.nl_publish.proofs.laws.mounts_begin.Goals as goal

pub returns : goal.returns
returns c = mount_begins

use Rattle.nl_mounts.proofs.PortReaders.{ports_later}
use Rattle.nl_mounts.proofs.many.read_many.Goals as goal

pub returns-clause-later : goal.returns-clause-later
returns-clause-later g c = ports_later c.args.ports.now c.read_many.new.readers c.read_many.ensures.later

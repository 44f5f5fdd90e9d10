use Rattle.nl_manifests.proofs.Putting.{Puts-none}
use Rattle.nl_manifests.proofs.opening.put_if.Goals as goal

pub returns-in-None : goal.returns-in-None
returns-in-None c = rw c.in-None.is (Puts-none c.args.shown.now.items)

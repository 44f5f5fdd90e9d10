use Rattle.nl_publish.proofs.Running.{unmounted}
use Rattle.nl_publish.proofs.locked.Locked.run_unmount.Goals as goal

pub returns : goal.returns
returns g c =
    unmounted c.args.self.now c.run_own.new.self c.args.number c.run_own.result c.without_answer.result
    c.run_own.ensures c.without_answer.ensures

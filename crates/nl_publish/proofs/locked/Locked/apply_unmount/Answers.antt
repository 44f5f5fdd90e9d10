use Rattle.nl_publish.proofs.Running.{ran_unmounted}
use Rattle.nl_publish.proofs.locked.Locked.apply_unmount.Goals as goal

pub returns : goal.returns
returns g c =
    ran_unmounted c.args.self.now c.do_own.new.self c.args.number c.do_own.result c.without_answer.result
    c.do_own.ensures c.without_answer.ensures

use Rattle.nl_publish.proofs.Running.{is_mount_reply, mount_goes}
use Rattle.nl_publish.proofs.locked.Locked.run_mount.Goals as goal

pub mount_made-requires : goal.mount_made-requires
mount_made-requires g c =
    is_mount_reply c.args.self.now c.run_own.new.self c.args.checkpoint c.run_own.result
    c.means_a_world.ensures c.run_own.ensures

pub returns : goal.returns
returns g c =
    mount_goes c.args.self.now c.run_own.new.self c.args.checkpoint c.run_own.result c.mount_made.result
    c.run_own.ensures c.mount_made.ensures

use Rattle.std.proofs.Common.{refl}
use Rattle.nl_mounts.specs.Sharing.MountComes.{Apart, Came}
use Rattle.nl_mounts.proofs.shared.mount_for.Goals as goal

pub returns-in-Err-clause-comes : goal.returns-in-Err-clause-comes
returns-in-Err-clause-comes g c = Came c.if-not-is_known.ensures c.in-Err.ensures.ran tt tt

pub returns-in-Ok-clause-comes : goal.returns-in-Ok-clause-comes
returns-in-Ok-clause-comes g c =
    Came c.if-not-is_known.ensures c.in-Ok.ensures.ran c.in-Ok.ensures.copy c.in-Ok.ensures.told

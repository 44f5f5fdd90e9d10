use Rattle.std.proofs.Common.{◌≡◌, ap, ◌∙◌, sym}
use Rattle.std.specs.Prelude.{map, Some}
use Rattle.std.specs.Ordering.{nat_cmp}
use Rattle.std.specs.FinMap.{find}
use Rattle.nl_commit.specs.Tables.{RoomyLists}
use Rattle.nl_commit.specs.Volume.{mount_of}
use Rattle.nl_commit.specs.Facts.Events.{mount_read-follows}
use Rattle.nl_events.proofs.tables.Tables.read_mounted.Goals as goal

pub returns : goal.returns
returns g c =
    let l = c.args.self.now.lists in
    let mounted : find nat_cmp c.args.mount (map mount_of l.mounts) ≡ Some c.in-Some.number =
    ap (λ (r : RoomyLists). find nat_cmp c.args.mount (map mount_of r.lists.mounts)) (sym c.self.view_is)
    ∙ sym c.in-Some.ensures in
    mount_read-follows
    (g.V.VRead.pages c.args.store.now) l c.args.mount c.in-Some.number c.args.ask.now c.read_at.result mounted
    c.read_at.ensures

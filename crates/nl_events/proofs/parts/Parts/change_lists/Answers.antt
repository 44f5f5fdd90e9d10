use Rattle.std.proofs.Common.{refl, subst}
use Rattle.std.specs.Prelude.{IfOk}
use Rattle.nl_types.specs.Blocks.Roots.{Pages}
use Rattle.nl_types.specs.declared.event.Event.TheVariants as event
use Rattle.nl_commit.specs.Changes.{HasChanged}
use Rattle.nl_commit.specs.Means.{StepsWorldsOver}
use Rattle.nl_commit.specs.Volume.{with_change, with_checkpoint_mode, with_mount, without_mount}
use Rattle.nl_events.specs.Facts.CountedPens.{counts-over, kept-moded, kept-unless}
use Rattle.nl_events.proofs.Moving.{does-Apply, does-ChangeMode, does-Listing, does-Mount, does-MountRead, does-Read, does-Unmount, pages_under}
use Rattle.nl_events.proofs.parts.Parts.change_lists.Goals as goal

pub returns-in-Apply : goal.returns-in-Apply
returns-in-Apply g c =
    let l = c.self.inside.tables.lists in
    let new = c.change.new.self.lists in
    let store = g.V.Vstore.store c.self.inside.store in
    let change = c.in-Apply.change in
    let under = g.met.V.Vstore.reads_pages c.self.inside.store in
    rw (← c.self.view_is, c.in-Apply.is)
    (does-Apply l new store change c.change.result c.self.invariant.pen
    (subst (λ (pages : Pages). StepsWorldsOver pages l (event.Apply change) c.change.result new) under
    c.change.ensures.follows)
    c.change.ensures.lists
    (subst (λ (pages : Pages). IfOk c.change.result (λ _. HasChanged pages change l new)) under
    c.change.ensures.changed)
    c.change.ensures.same)

pub invariant_of-self : goal.invariant_of-self
invariant_of-self g c =
    let l = c.self.inside.tables.lists in
    let new = c.change.new.self.lists in
    record {
      pen = (returns-in-Apply g c).pen;
      counts =
          counts-over l new (g.V.Vstore.store c.self.inside.store) c.self.inside.needed
          (kept-unless c.change.result l new
          (with_change c.in-Apply.change new.current l) c.change.ensures.lists c.change.ensures.same refl)
          c.self.invariant.counts;
    }

pub returns-in-Mount : goal.returns-in-Mount
returns-in-Mount g c =
    let l = c.self-in-Mount.inside.tables.lists in
    let store = g.V.Vstore.store c.self-in-Mount.inside.store in
    rw (← c.self-in-Mount.view_is, c.in-Mount.is)
    (does-Mount l c.mount.new.self.lists store c.in-Mount.number c.mount.result c.self-in-Mount.invariant.pen
    (c.mount.ensures.follows (pages_under store)) c.mount.ensures.mounted c.mount.ensures.same)

pub invariant_of-self-in-Mount-1 : goal.invariant_of-self-in-Mount-1
invariant_of-self-in-Mount-1 g c =
    let l = c.self-in-Mount.inside.tables.lists in
    let new = c.mount.new.self.lists in
    record {
      pen = (returns-in-Mount g c).pen;
      counts =
          counts-over l new (g.V.Vstore.store c.self-in-Mount.inside.store) c.self-in-Mount.inside.needed
          (kept-unless c.mount.result l new (with_mount c.in-Mount.number l) c.mount.ensures.mounted
          c.mount.ensures.same refl)
          c.self-in-Mount.invariant.counts;
    }

pub returns-in-ChangeMode : goal.returns-in-ChangeMode
returns-in-ChangeMode g c =
    let l = c.self-in-ChangeMode.inside.tables.lists in
    let store = g.V.Vstore.store c.self-in-ChangeMode.inside.store in
    rw (← c.self-in-ChangeMode.view_is, c.in-ChangeMode.is)
    (does-ChangeMode l c.change_mode.new.self.lists store c.in-ChangeMode.number c.in-ChangeMode.mode
    c.change_mode.result c.self-in-ChangeMode.invariant.pen
    (c.change_mode.ensures.follows (pages_under store)) c.change_mode.ensures.changed
    c.change_mode.ensures.same)

pub invariant_of-self-in-ChangeMode-1 : goal.invariant_of-self-in-ChangeMode-1
invariant_of-self-in-ChangeMode-1 g c =
    let l = c.self-in-ChangeMode.inside.tables.lists in
    let new = c.change_mode.new.self.lists in
    let number = c.in-ChangeMode.number in
    let mode = c.in-ChangeMode.mode in
    record {
      pen = (returns-in-ChangeMode g c).pen;
      counts =
          counts-over l new (g.V.Vstore.store c.self-in-ChangeMode.inside.store) c.self-in-ChangeMode.inside.needed
          (kept-unless c.change_mode.result l new (with_checkpoint_mode number mode l)
          c.change_mode.ensures.changed c.change_mode.ensures.same (kept-moded number mode l))
          c.self-in-ChangeMode.invariant.counts;
    }

pub returns-in-Unmount : goal.returns-in-Unmount
returns-in-Unmount g c =
    let l = c.self-in-Unmount.inside.tables.lists in
    let store = g.V.Vstore.store c.self-in-Unmount.inside.store in
    rw (← c.self-in-Unmount.view_is, c.in-Unmount.is)
    (does-Unmount l c.unmount.new.self.lists store c.in-Unmount.mount c.unmount.result c.self-in-Unmount.invariant.pen
    (c.unmount.ensures.follows (pages_under store)) c.unmount.ensures.gone c.unmount.ensures.same)

pub invariant_of-self-in-Unmount-1 : goal.invariant_of-self-in-Unmount-1
invariant_of-self-in-Unmount-1 g c =
    let l = c.self-in-Unmount.inside.tables.lists in
    let new = c.unmount.new.self.lists in
    record {
      pen = (returns-in-Unmount g c).pen;
      counts =
          counts-over l new (g.V.Vstore.store c.self-in-Unmount.inside.store) c.self-in-Unmount.inside.needed
          (kept-unless c.unmount.result l new (without_mount c.in-Unmount.mount l) c.unmount.ensures.gone
          c.unmount.ensures.same refl)
          c.self-in-Unmount.invariant.counts;
    }

pub returns-in-Read : goal.returns-in-Read
returns-in-Read g c =
    let l = c.self-in-Read.inside.tables.lists in
    let ask = c.in-Read.ask in
    rw (← c.self-in-Read.view_is, c.in-Read.is)
    (does-Read l (g.V.Vstore.store c.self-in-Read.inside.store) ask c.read.result c.self-in-Read.invariant.pen
    (subst (λ (pages : Pages). StepsWorldsOver pages l (event.Read ask) c.read.result l)
    (g.met.V.Vstore.reads_pages c.self-in-Read.inside.store) c.read.ensures))

pub returns-in-MountRead : goal.returns-in-MountRead
returns-in-MountRead g c =
    let l = c.self-in-MountRead.inside.tables.lists in
    let mount = c.in-MountRead.mount in
    let ask = c.in-MountRead.ask in
    rw (← c.self-in-MountRead.view_is, c.in-MountRead.is)
    (does-MountRead l (g.V.Vstore.store c.self-in-MountRead.inside.store) mount ask c.read_mounted.result
    c.self-in-MountRead.invariant.pen
    (subst (λ (pages : Pages). StepsWorldsOver pages l (event.MountRead mount ask) c.read_mounted.result l)
    (g.met.V.Vstore.reads_pages c.self-in-MountRead.inside.store) c.read_mounted.ensures))

pub returns-in-Listing : goal.returns-in-Listing
returns-in-Listing g c =
    let store = g.V.Vstore.store c.self-in-Listing.inside.store in
    rw (← c.self-in-Listing.view_is, c.in-Listing.is)
    (does-Listing c.self-in-Listing.inside.tables.lists store c.in-Listing.options c.listing.result
    c.self-in-Listing.invariant.pen
    (c.listing.ensures (pages_under store)))

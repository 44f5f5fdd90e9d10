use Rattle.std.proofs.Common.{OnOk, subst}
use Rattle.nl_manifests.specs.HostTrees.{HostTree}
use Rattle.nl_manifests.specs.Private.Places.{PutsIfOrdered}
use Rattle.nl_manifests.proofs.EntryParts.{link_is}
use Rattle.nl_manifests.proofs.opening.put_link.Goals as goal

pub returns-in_ok-entry-in-None : goal.returns-in_ok-entry-in-None
returns-in_ok-entry-in-None c =
    let path = c.in_ok-path.path in
    let part =
    link_is c.args.tree.now.all.now c.args.directory.now c.args.line.now path c.as_slice-2.result.now
    c.as_slice.result.now c.in_ok-entry-in-None.entry c.in_ok-path.ensures c.as_slice.ensures
    c.as_slice-2.ensures
    c.in-None.ensures c.in_ok-entry-in-None.ensures in
    subst (λ (x : HostTree). OnOk c.put_if.result (PutsIfOrdered c.args.shown.now.items x
    c.put_if.new.shown.items))
    part c.put_if.ensures

use Rattle.std.proofs.Common.{drop}
use Rattle.std.specs.List.{flat_map}
use Rattle.nl_manifests.specs.Private.Opening.{link_part}
use Rattle.nl_manifests.proofs.Putting.{PuttingIfOrdered}
use Rattle.nl_manifests.proofs.opening.put_links.Given as goal

abbrev pub invariant-loop-line : goal.invariant-loop-line
invariant-loop-line l =
    PuttingIfOrdered l.fn.shown.items l.shown.items
    (flat_map (link_part l.tree.all.now l.directory) (drop l.line-index l.lines))
    (flat_map (link_part l.tree.all.now l.directory) l.lines)

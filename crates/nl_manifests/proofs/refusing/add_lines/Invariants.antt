use Rattle.std.proofs.Common.{◌≡◌, ◌++◌, drop}
use Rattle.std.specs.List.{flat_map}
use Rattle.nl_manifests.specs.HostTrees.{refused_line}
use Rattle.nl_manifests.proofs.refusing.add_lines.Given as goal

abbrev pub invariant-loop-line : goal.invariant-loop-line
invariant-loop-line l =
    l.refused ++ flat_map (refused_line l.tree.all.now l.directory) (drop l.line-index l.lines)
    ≡ l.fn.refused ++ flat_map (refused_line l.tree.all.now l.directory) l.lines

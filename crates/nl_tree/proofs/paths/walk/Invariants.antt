use Rattle.std.proofs.Common.{◌≡◌, length}
use Rattle.nl_types.specs.Resolving.{resolve_from}
use Rattle.nl_tree.specs.Held.{Holding, inodes_of_holding}
use Rattle.nl_tree.specs.Private.PathParts.{parts_of}
use Rattle.nl_tree.proofs.paths.walk.Given as goal

-- the walk from here by the names that are left is the whole walk
abbrev pub invariant-loop-name : goal.invariant-loop-name
invariant-loop-name g l =
    (held : Holding) → g.T.TreeRead.holds l.tree held
    → resolve_from (inodes_of_holding held) l.fn.from (parts_of l.names)
    ≡ resolve_from (inodes_of_holding held) l.at (parts_of l.rest)

abbrev pub decreases-loop-name : goal.decreases-loop-name
decreases-loop-name g l = length l.rest

use Rattle.std.proofs.Common.{◌≡◌, ◌++◌, length, Ok}
use Rattle.nl_types.specs.declared.kind.Kind.TheVariants as kind
use Rattle.nl_types.specs.Plain.Paths.{Path}
use Rattle.nl_types.specs.Resolving.{resolve}
use Rattle.nl_tree.specs.Held.{Holding, inodes_of_holding}
use Rattle.nl_tree.specs.Private.PathParts.{parts_of}
use Rattle.nl_tree.proofs.paths.find_place.Given as goal

-- the names so far lead to the directory
abbrev pub invariant-loop-name : goal.invariant-loop-name
invariant-loop-name g l =
    (walked : Path) × (parts_of l.names ≡ walked ++ parts_of l.rest)
    × ((held : Holding) → g.T.TreeRead.holds l.tree held
    → resolve (inodes_of_holding held) walked ≡ Ok (l.directory, kind.Directory))

abbrev pub decreases-loop-name : goal.decreases-loop-name
decreases-loop-name g l = length l.rest

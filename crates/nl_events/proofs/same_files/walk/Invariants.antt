use Rattle.std.specs.Prelude.{◌≡◌, drop}
use Rattle.nl_types.specs.Resolving.{resolve, resolve_from}
use Rattle.nl_tree.specs.Held.{Holding, inodes_of_holding}
use Rattle.nl_events.proofs.same_files.walk.Given as goal

-- the walk from here by the names that are left is the whole walk
abbrev pub invariant-loop-name : goal.invariant-loop-name
invariant-loop-name g l =
    (held : Holding) → g.T.TreeRead.holds l.tree held
    → resolve (inodes_of_holding held) l.names
    ≡ resolve_from (inodes_of_holding held) l.at (drop l.name-index l.names)

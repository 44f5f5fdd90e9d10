-- How a walk through a tree comes to all of it.
use Rattle.std.specs.Prelude.{◌≡◌, List, [], ◌∷◌, ◌++◌, Ok, Some}
use Rattle.std.specs.List.{filter}
use Rattle.std.specs.Option.{option_map}
use Rattle.nl_types.specs.declared.reply.Named.{Named}
use Rattle.nl_types.specs.declared.reply.Object.{Object}
use Rattle.nl_types.specs.declared.reply.Object.TheVariants.{Dir, File}
use Rattle.nl_types.specs.Plain.Paths.{Path, is_within}
use Rattle.nl_types.specs.Plain.Trees.{Tree, lookup, object_kind}
use Rattle.nl_types.specs.Plain.Calls.{file_at, list}
use Rattle.nl_folders.specs.declared.folder.Pending.{Pending}

-- a name in a directory, yet to be visited
abbrev pub pended : Path → Named → Pending
pended dir n = record { path = dir ++ n.name ∷ []; kind = n.kind }

-- the names of a directory on a stack, of which the first is on top
abbrev pub stacked : Path → List Named → List Pending
stacked dir [] = []
stacked dir (n ∷ names) = stacked dir names ++ pended dir n ∷ []

-- what stands at a path or below it
abbrev pub part_at : Tree → Path → Tree
part_at tree top = filter (λ e. is_within top e.0) tree

-- what is yet to be visited, from the top of the stack down
abbrev pub ahead : Tree → List Pending → Tree
ahead tree [] = []
ahead tree (p ∷ pending) = ahead tree pending ++ part_at tree p.path

-- something of its kind stands at the path
abbrev pub StandsIn : Tree → Pending → Type 0
StandsIn tree p = option_map object_kind (lookup tree p.path) ≡ Some p.kind

abbrev pub StandIn : Tree → List Pending → Type 0
StandIn tree [] = Unit {0}
StandIn tree (p ∷ pending) = StandsIn tree p × StandIn tree pending

-- what has been visited and then what is ahead are the tree, and what is pending stands in it
pub record IsWalk (tree done : Tree) (pending : List Pending) : Type 0 where
  pub parts : done ++ ahead tree pending ≡ tree
  pub stand : StandIn tree pending

-- a visit of a directory puts its names on the stack, and one of a file reads it
abbrev pub IsVisit : Tree → Pending → List Pending → List Pending → Object → Type 0
IsVisit tree next old new Dir =
    (names : List Named) × (list tree next.path ≡ Ok names) × (new ≡ old ++ stacked next.path names)
IsVisit tree next old new (File bytes) = (file_at tree next.path ≡ Ok bytes) × (new ≡ old)

-- What lies below a path.
use Rattle.std.specs.Prelude.{◌≡◌, ◌++◌, List, map, length, drop}
use Rattle.std.specs.List.{filter}
use Rattle.nl_types.specs.Plain.Paths.{Path, is_within}
use Rattle.nl_types.specs.Plain.Trees.{Tree, lookup}

-- what lies at a path or below it, with what is left of the paths there
abbrev pub part_below : {X : Type 0} → List (Path × X) → Path → List (Path × X)
part_below entries top = map (λ e. (drop (length top) e.0, e.1)) (filter (λ e. is_within top e.0) entries)

-- a path of the part has what stands at that path below `top`
abbrev pub PartsAreExact : Type 0
PartsAreExact = (tree : Tree) (top path : Path) → lookup (part_below tree top) path ≡ lookup tree (top ++ path)

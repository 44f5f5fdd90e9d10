-- A tree of directories and files, as a finite map from paths to objects: the list of its entries, in the order
-- of their paths.
use Rattle.std.specs.Prelude.{◌≡◌, ℕ, ◌+◌, ◌≤◌, not, if◌then◌else◌, IsTrue, List, [], ◌∷◌, ◌++◌, map, length, drop, is_some, Option, None, Some}
use Rattle.std.specs.List.{list_all, filter, filter_map}
use Rattle.std.specs.Option.{option_map}
use Rattle.std.specs.FinMap.{find, put, is_sorted}
use Rattle.nl_types.specs.declared.kind.Kind.{Kind}
use Rattle.nl_types.specs.declared.kind.Kind.TheVariants as kind
use Rattle.nl_types.specs.declared.reply.Object.{Object}
use Rattle.nl_types.specs.declared.reply.Object.TheVariants.{Dir, File}
use Rattle.nl_types.specs.Plain.Limits.{file_limit, path_limit}
use Rattle.nl_types.specs.Plain.Paths.{Name, Path, path_cmp, same_name, same_path, is_within, is_name}

abbrev pub Tree : Type 0
Tree = List (Path × Object)

-- the root alone
abbrev pub root_alone : Tree
root_alone = ([], Dir) ∷ []

-- what stands at a path
abbrev pub lookup : Tree → Path → Option Object
lookup tree path = find path_cmp path tree

-- the tree with an object at a path
abbrev pub insert : Tree → Path → Object → Tree
insert tree path object = put path_cmp path object tree

-- the tree with nothing at a path
abbrev pub remove : Tree → Path → Tree
remove tree path = filter (λ e. not (same_path path e.0)) tree

-- ---- what lies below a directory

-- the name that a path has in the directory, if it lies right below it
abbrev pub name_below : Path → Path → Option Name
name_below [] [] = None
name_below [] (n ∷ []) = Some n
name_below [] (n ∷ m ∷ path) = None
name_below (n ∷ dir) [] = None
name_below (n ∷ dir) (m ∷ path) = if same_name n m then name_below dir path else None

abbrev pub object_kind : Object → Kind
object_kind Dir = kind.Directory
object_kind (File bytes) = kind.File

-- the names in a directory with their kinds, ascending by bytes
abbrev pub children : Tree → Path → List (Name × Kind)
children tree dir = filter_map (λ e. option_map (λ name. (name, object_kind e.1)) (name_below dir e.0)) tree

-- ---- moving what lies below a path

-- where a path is found after the move: below `to` if it was below `from`
abbrev pub moved_path : Path → Path → Path → Path
moved_path from to path = if is_within from path then to ++ drop (length from) path else path

-- the map of these entries, in order
abbrev pub in_order : List (Path × Object) → Tree
in_order [] = []
in_order (e ∷ entries) = insert (in_order entries) e.0 e.1

-- the tree in which what is at `to` is taken out, and `to` stands in the place of `from` at the front of
-- every path
abbrev pub move_subtree : Tree → Path → Path → Tree
move_subtree tree from to =
    in_order (map (λ e. (moved_path from to e.0, e.1)) (filter (λ e. not (is_within to e.0)) tree))

-- ---- what is true of every tree

-- something stands at the path
abbrev pub IsIn : Tree → Path → Type 0
IsIn tree path = IsTrue (is_some (lookup tree path))

-- a map in order whose root is a directory, as is the parent of each other path, within the limits on names,
-- sizes and paths
pub record IsTree (tree : Tree) : Type 0 where
  pub ordered : IsTrue (is_sorted path_cmp tree)
  pub root : lookup tree [] ≡ Some Dir
  pub parents : (path : Path) (name : Name)
      → IsIn tree (path ++ name ∷ []) → lookup tree path ≡ Some Dir
  pub names : (path : Path) → IsIn tree path → IsTrue (list_all is_name path)
  pub sizes : (path : Path) (bytes : List ℕ)
      → lookup tree path ≡ Some (File bytes) → length bytes ≤ file_limit
  -- the root beside the others
  pub count : length tree ≤ path_limit + 1

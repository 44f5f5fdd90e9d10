-- Where we stand while a tree is laid out, and what is still due there.
use Rattle.std.specs.Prelude.{◌≡◌, ℕ, ◌+◌, Bool, ◌&&◌, IsTrue, nat_lt, List, [], length, drop, take, get_or, if◌then◌else◌, ◌∷◌, Option, None, Some}
use Rattle.std.specs.List.{filter, list_all}
use Rattle.nl_types.specs.Plain.Paths.{Path, is_within}
use Rattle.nl_manifests.specs.declared.attributes.Attributes.{Attributes}
use Rattle.nl_manifests.specs.declared.host_tree.HostEntry.{HostEntry}
use Rattle.nl_manifests.specs.declared.host_tree.HostObject.{HostObject}
use Rattle.nl_manifests.specs.HostTrees.{HostTree}
use Rattle.nl_host.specs.HostPaths.{is_host_name}
use Rattle.nl_host.specs.Trails.{but_last}
use Rattle.nl_host.specs.Puts.{Asked, HasAttributes, Put, folder_at, is_walk, made_if, may_stand}

-- each folder from below the first one to ours has what is due to it from its own entry
abbrev pub AreDue : HostTree → (folder : Path) → List (Option Attributes) → Type 0
AreDue tree folder due =
    (k : ℕ) (attributes : Attributes) → get_or due k None ≡ Some attributes
    → HasAttributes tree (take (k + 1) folder) attributes

-- where we stand below the first folder, and what is due from there up
pub record Stands (tree : HostTree) (here : Path) (first : Option Attributes) (due : List (Option Attributes))
    (trail : Path) : Type 0 where
  pub here_is : trail ≡ here
  pub depth : length due ≡ length here
  pub named : IsTrue (list_all is_host_name here)
  pub first_due : (attributes : Attributes) → first ≡ Some attributes → HasAttributes tree [] attributes
  pub due_below : AreDue tree here due

-- whether a folder lies above a path
abbrev pub is_above : (folder path : Path) → Bool
is_above folder path = nat_lt (length folder) (length path) && is_within folder path

-- the names up to the first one that no path of the host may have
abbrev pub host_front : Path → Path
host_front [] = []
host_front (name ∷ path) = if is_host_name name then name ∷ host_front path else []

-- a path begins with these names
abbrev pub IsFront : (front path : Path) → Type 0
IsFront front path = IsTrue (is_within front path)

-- our folder is as deep as it was, as far as that is above a path
abbrev pub KeepsAbove : (path old new : Path) → Type 0
KeepsAbove path old new =
    (front : Path) → IsFront front old → IsTrue (is_above front path) → IsFront front new

-- we are in the folder of an entry where that is ours or is made, and stay where its name may not stand there
abbrev pub IsInFolder : (name : List ℕ) → HostObject → (path before here : Path) → Type 0
IsInFolder name object path before here =
    here ≡ (if is_host_name name then folder_at object path else before)

-- an entry is made if it may stand there, and what may stand of its folder is ours or above ours
pub record LaysEntry (tree : HostTree) (e : Path × HostEntry) (old new : Option (List Put)) (here : Path)
    : Type 0 where
  pub asked : Asked tree (made_if (may_stand e) e) old new
  pub stands : IsFront (host_front (folder_at e.1.object e.0)) here

-- where what may stand of a folder is ours or above ours, and an entry is in that folder or in one above that
abbrev pub LaysInOrder : HostTree → Path × HostEntry → (old new : Option (List Put)) → (before here : Path)
    → Type 0
LaysInOrder tree e old new before here =
    (folder : Path) → IsFront (host_front folder) before → IsTrue (is_within (but_last e.0) folder)
    → LaysEntry tree e old new here

-- the first entries of a tree in order are laid out: each that may stand there is made
pub record LaysFirst (tree : HostTree) (count : ℕ) (old new : Option (List Put)) (here : Path) : Type 0 where
  pub asked : Asked tree (filter may_stand (take count tree)) old new
  pub folder : Path
  pub stands : IsFront (host_front folder) here
  pub rest : IsTrue (is_walk folder (drop count tree))

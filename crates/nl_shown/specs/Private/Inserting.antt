-- Entries that come to a tree, and attributes that come to an entry.
use Rattle.std.specs.Prelude.{◌≡◌, ◌++◌, ◌<◌, ℕ, Bool, true, false, not, cond, map, take, length, Option, None, Some}
use Rattle.std.specs.FinMap.{find}
use Rattle.std.specs.List.{filter}
use Rattle.std.specs.Ordering.{is_lt}
use Rattle.nl_types.specs.Plain.Paths.{Path, path_cmp, is_within, same_path}
use Rattle.nl_manifests.specs.declared.attributes.Attributes.{Attributes}
use Rattle.nl_manifests.specs.declared.host_tree.HostEntry.{HostEntry}
use Rattle.nl_manifests.specs.HostTrees.{HostTree}
use Rattle.nl_manifests.specs.Sealed.{is_directory}
use Rattle.nl_shown.specs.declared.reverting.RevertError.{RevertError}
use Rattle.nl_shown.specs.declared.reverting.RevertError.TheVariants.{Memory, NoFolder, NothingThere}
use Rattle.nl_shown.specs.declared.reverting.Standing.{Standing}
use Rattle.nl_shown.specs.declared.reverting.Standing.TheVariants.{Folder, Nothing}
use Rattle.nl_shown.specs.declared.reverting.Standing.TheVariants as standing
use Rattle.nl_shown.specs.Reverted.{IsInOrder, attributes_of, folder_with, or_earlier, reverted_at}

-- what lies at and below a path, and what doesn't
abbrev pub inside : Path → HostTree → HostTree
inside top tree = filter (λ e. is_within top e.0) tree

abbrev pub outside : Path → HostTree → HostTree
outside top tree = filter (λ e. not (is_within top e.0)) tree

abbrev pub is_before : Path → Path × HostEntry → Bool
is_before path e = is_lt (path_cmp e.0 path)

abbrev pub before_path : Path → HostTree → HostTree
before_path path tree = filter (is_before path) tree

abbrev pub behind_path : Path → HostTree → HostTree
behind_path path tree = filter (λ e. not (is_before path e)) tree

-- a part comes behind all that is before a path
abbrev pub inserted : (at : Path) → (part tree : HostTree) → HostTree
inserted path part tree = before_path path tree ++ (part ++ behind_path path tree)

abbrev pub with_earlier : HostEntry → Option Attributes → HostEntry
with_earlier e earlier = record { object = e.object; attributes = or_earlier e.attributes earlier }

abbrev pub entry_with : Path → Option Attributes → Path × HostEntry → Path × HostEntry
entry_with path earlier e = (e.0, cond (same_path e.0 path) (with_earlier e.1 earlier) e.1)

-- what stands at a path has the attributes that it had, if it has none
abbrev pub with_attributes : Path → Option Attributes → HostTree → HostTree
with_attributes path earlier tree = map (entry_with path earlier) tree

-- those of what stands there, or else these
abbrev pub attributes_or : Option HostEntry → Option Attributes → Option Attributes
attributes_or None earlier = earlier
attributes_or (Some d) earlier = d.attributes

abbrev pub standing_of : Option HostEntry → Standing
standing_of None = Nothing
standing_of (Some d) = cond (is_directory d.object) Folder standing.NoFolder

-- a folder stands at the path, with its own attributes or else these
pub record PutsFolder (path : Path) (earlier : Option Attributes) (old new : HostTree) : Type 0 where
  pub ordered : IsInOrder new
  pub each : (q : Path) → find path_cmp q new
      ≡ cond (same_path q path) (Some (folder_with (attributes_or (find path_cmp path old) earlier)))
      (find path_cmp q old)

abbrev pub RefusesFolder : Path → HostTree → RevertError → Type 0
RefusesFolder path old Memory = Unit {0}
RefusesFolder path old NothingThere = ⊥
RefusesFolder path old NoFolder = (d : HostEntry) × (find path_cmp path old ≡ Some d) × (is_directory d.object ≡ false)

-- Folders stand at the first paths above one, so many. All else stands as it did.
pub record FoldersAbove (top : Path) (depth : ℕ) (earlier old new : HostTree) : Type 0 where
  pub ordered : IsInOrder new
  pub above : (k : ℕ) → k < depth → find path_cmp (take k top) new
      ≡ Some (folder_with (attributes_or (find path_cmp (take k top) old)
      (attributes_of (find path_cmp (take k top) earlier))))
  pub others : (q : Path) → ((k : ℕ) → k < depth → same_path q (take k top) ≡ false)
      → find path_cmp q new ≡ find path_cmp q old

-- something that is no folder stands above the path
pub record IsAbove (top : Path) (old : HostTree) : Type 0 where
  pub depth : ℕ
  pub above : depth < length top
  pub entry : HostEntry
  pub stands : find path_cmp (take depth top) old ≡ Some entry
  pub no_folder : is_directory entry.object ≡ false

abbrev pub RefusesFolders : Path → HostTree → RevertError → Type 0
RefusesFolders top old Memory = Unit {0}
RefusesFolders top old NothingThere = ⊥
RefusesFolders top old NoFolder = IsAbove top old

-- the tree before a part comes back into it
pub record IsWithoutPart (later earlier : HostTree) (top : Path) (new : HostTree) : Type 0 where
  pub ordered : IsInOrder new
  pub inside : (q : Path) → is_within top q ≡ true → find path_cmp q new ≡ None
  pub outside : (q : Path) → is_within top q ≡ false → find path_cmp q new ≡ reverted_at later earlier top q

-- What is asked of a folder of the host while a tree is laid out in it, and what of that the tree asks for.
use Rattle.std.specs.Prelude.{◌≡◌, ◌+◌, true, Bool, ◌&&◌, if◌then◌else◌, nat_lt, IsTrue, List, [], ◌∷◌, ◌++◌, length, Contains, Option, None, Some}
use Rattle.std.specs.List.{AllByRecursion, filter, list_all}
use Rattle.std.specs.Str.{is_utf8}
use Rattle.nl_types.specs.Plain.Paths.{Path, is_within}
use Rattle.nl_manifests.specs.declared.attributes.Attributes.{Attributes}
use Rattle.nl_manifests.specs.declared.host_tree.HostEntry.{HostEntry}
use Rattle.nl_manifests.specs.declared.host_tree.HostObject.{HostObject}
use Rattle.nl_manifests.specs.declared.host_tree.HostObject.TheVariants.{Directory, File, Link}
use Rattle.nl_manifests.specs.HostTrees.{HostTree}
use Rattle.nl_host.specs.HostPaths.{is_host_name}
use Rattle.nl_host.specs.Trails.{but_last}

-- an entry that is made at its path below the folder, or attributes that the folder at a path is given
pub data Put : Type 0 where
  Made : (path : Path) (entry : HostEntry) → Put
  Given : (path : Path) (attributes : Attributes) → Put

-- what was asked, where that is known, and then these
abbrev pub asked_also : Option (List Put) → List Put → Option (List Put)
asked_also None puts = None
asked_also (Some before) puts = Some (before ++ puts)

-- attributes that are given, where there are any
abbrev pub given_if : Path → Option Attributes → List Put
given_if path None = []
given_if path (Some attributes) = Given path attributes ∷ []

-- the entries that are made, in their order
abbrev pub all_made : List Put → HostTree
all_made [] = []
all_made (Made path entry ∷ puts) = (path, entry) ∷ all_made puts
all_made (Given path attributes ∷ puts) = all_made puts

-- ---- what a tree asks for

abbrev pub directory : Option Attributes → HostEntry
directory attributes = record { object = Directory; attributes = attributes }

abbrev pub made_if : Bool → Path × HostEntry → HostTree
made_if is_made e = if is_made then e ∷ [] else []

-- what a link leads to is text
abbrev pub leads_to_text : HostObject → Bool
leads_to_text Directory = true
leads_to_text (File bytes) = true
leads_to_text (Link target) = is_utf8 target

-- whether an entry may stand on the host: it lies below the folder, by names that all may stand there
abbrev pub may_stand : Path × HostEntry → Bool
may_stand e = nat_lt 0 (length e.0) && list_all is_host_name e.0 && leads_to_text e.1.object

abbrev pub HasAttributes : HostTree → Path → Attributes → Type 0
HasAttributes tree path attributes =
    (object : HostObject) × Contains tree (path, record { object = object; attributes = Some attributes })

-- An entry of the tree that may stand there is made at its own path. The folder at a path, which is the first
-- one or lies below it, is given the attributes of its own entry.
abbrev pub Asks : HostTree → Put → Type 0
Asks tree (Made path entry) = Contains tree (path, entry) × IsTrue (may_stand (path, entry))
Asks tree (Given path attributes) = HasAttributes tree path attributes × IsTrue (list_all is_host_name path)

-- what is asked further: the tree asks for each of it, and these entries are made, in this order
pub record Asked (tree made : HostTree) (old new : Option (List Put)) : Type 0 where
  pub puts : List Put
  pub behind : new ≡ asked_also old puts
  pub each : AllByRecursion (Asks tree) puts
  pub made_are : all_made puts ≡ made

-- nothing else is asked than what the tree asks for
abbrev pub AsksOnly : (tree : HostTree) → (old new : Option (List Put)) → Type 0
AsksOnly tree old new = (made : HostTree) × Asked tree made old new

-- all its entries that may stand on the host are made, in their order
abbrev pub AsksAll : (tree : HostTree) → (old new : Option (List Put)) → Type 0
AsksAll tree old new = Asked tree (filter may_stand tree) old new

-- ---- the order of a tree

-- the folder of an entry: itself, if it is one
abbrev pub folder_at : HostObject → Path → Path
folder_at Directory path = path
folder_at (File bytes) path = but_last path
folder_at (Link target) path = but_last path

-- whether each entry stands in the folder of the one before it, or in one above that
abbrev pub is_walk : (folder : Path) → HostTree → Bool
is_walk folder [] = true
is_walk folder (e ∷ tree) = is_within (but_last e.0) folder && is_walk (folder_at e.1.object e.0) tree

-- What is given to entries of which no attributes are known.
use Rattle.std.specs.Prelude.{ℕ, Bool, false, ◌&&◌, ◌==◌, not, nat_lt, if◌then◌else◌, map, length, is_some, unwrap_or, Option, None, Some}
use Rattle.std.specs.FinMap.{find}
use Rattle.nl_types.specs.Plain.Paths.{Path, path_cmp, is_within}
use Rattle.nl_manifests.specs.declared.attributes.Attributes.{Attributes}
use Rattle.nl_manifests.specs.declared.host_tree.HostEntry.{HostEntry}
use Rattle.nl_manifests.specs.declared.host_tree.HostObject.{HostObject}
use Rattle.nl_manifests.specs.declared.host_tree.HostObject.TheVariants as host
use Rattle.nl_manifests.specs.HostTrees.{HostTree}
use Rattle.nl_manifests.specs.Sealed.{is_directory}

-- ---- for its owner alone

-- the modes 0700 and 0600
abbrev pub private_mode : HostObject → ℕ
private_mode object = if is_directory object then 448 else 384

abbrev pub private_attributes : HostObject → Attributes
private_attributes object = record {
  mode = private_mode object;
  owner = 0;
  group = 0;
  time = record { is_negative = false; seconds = 0; nanoseconds = 0 };
}

abbrev pub private_entry : Path × HostEntry → Path × HostEntry
private_entry e = (
  e.0,
  record {
    object = e.1.object;
    attributes = Some (unwrap_or e.1.attributes (private_attributes e.1.object));
  },
)

-- each entry keeps the attributes that it has
abbrev pub with_private : HostTree → HostTree
with_private tree = map private_entry tree

-- ---- as what stands there

abbrev pub if_file : HostObject → Option Attributes → Option Attributes
if_file host.Directory attributes = None
if_file (host.File bytes) attributes = attributes
if_file (host.Link target) attributes = None

-- those of a file that stands there now, if they are known
abbrev pub known_now : Option HostEntry → Option Attributes
known_now None = None
known_now (Some e) = if_file e.object e.attributes

-- No manifest comes back along with it: it is a file or a link at the path, or a folder above the path where
-- nothing stands now.
abbrev pub comes_alone : Path → HostObject → (now : Option HostEntry) → (top : Path) → Bool
comes_alone path object now top =
    if is_directory object then (nat_lt (length path) (length top) && not (is_some now))
    else length path == length top

abbrev pub is_lost : Path → HostEntry → (now : Option HostEntry) → (top : Path) → Bool
is_lost path e now top = not (is_some e.attributes) && (is_within path top && comes_alone path e.object now top)

-- it is no more open than what stands there now, or is its owner's alone
abbrev pub lost_entry : (now : Option HostEntry) → (top : Path) → Path × HostEntry → Path × HostEntry
lost_entry now top e = (
  e.0,
  if is_lost e.0 e.1 now top then record {
    object = e.1.object;
    attributes = Some (unwrap_or (known_now now) (private_attributes e.1.object));
  } else e.1,
)

abbrev pub with_lost : (later : HostTree) → (top : Path) → HostTree → HostTree
with_lost later top earlier = map (λ e. lost_entry (find path_cmp e.0 later) top e) earlier

-- Trees of which no file is read but manifests.
use Rattle.std.specs.Prelude.{◌≡◌, if◌then◌else◌, IsTrue, [], map}
use Rattle.std.specs.FinMap.{is_sorted}
use Rattle.nl_types.specs.declared.reply.Object.{Object}
use Rattle.nl_types.specs.declared.reply.Object.TheVariants.{Dir, File}
use Rattle.nl_types.specs.Plain.Paths.{Name, Path, path_cmp, same_name}
use Rattle.nl_types.specs.Plain.Trees.{Tree}
use Rattle.nl_folders.specs.Differences.{differences}
use Rattle.nl_manifests.specs.HostDifferences.{differences_by, host_differences, told_by}
use Rattle.nl_manifests.specs.HostTrees.{HostTree, Shows, last_name, manifest_name, parted}

-- a file stands without its bytes, unless it has the name of a manifest
abbrev pub unread_object : Name → Object → Object
unread_object name Dir = Dir
unread_object name (File bytes) = if same_name name manifest_name then File bytes else File []

abbrev pub unread_at : Path → Object → Object
unread_at path object = unread_object (last_name (parted path)) object

abbrev pub unread : Tree → Tree
unread tree = map (λ e. (e.0, unread_at e.0 e.1)) tree

-- What differs between what two trees show is told by what two others show, of which no file is read but
-- manifests, and by what differs between the two trees.
abbrev pub DifferencesNeedNoBytes : Type 0
DifferencesNeedNoBytes =
    (old new : Tree) (one other before after : HostTree)
    → IsTrue (is_sorted path_cmp old) → IsTrue (is_sorted path_cmp new)
    → Shows old one → Shows new other → Shows (unread old) before → Shows (unread new) after
    → differences_by (told_by (differences old new)) before after ≡ host_differences one other

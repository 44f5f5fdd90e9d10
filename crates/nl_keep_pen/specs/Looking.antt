-- What is looked at in the image of a volume.
use Rattle.std.specs.Prelude.{◌≡◌, ℕ, List, None, Ok}
use Rattle.nl_types.specs.Plain.Calls.{file_at}
use Rattle.nl_types.specs.Plain.Paths.{Path}
use Rattle.nl_types.specs.Plain.Trees.{Tree}
use Rattle.nl_types.specs.Plain.Worlds.{World}
use Rattle.nl_image.specs.Parts.{with_present_mark}
use Rattle.nl_manifests.specs.declared.host_tree.Opened.{Opened}
use Rattle.nl_manifests.specs.HostDifferences.{host_differences}
use Rattle.nl_manifests.specs.HostTrees.{HostTree, Shows, refused}
use Rattle.nl_manifests.specs.Unread.{unread}
use Rattle.nl_pins.specs.Trees.{without_pins}
use Rattle.nl_keep_pen.specs.declared.history.ShownDifferences.{ShownDifferences}
use Rattle.nl_keep_pen.specs.History.{AreChanges}
use Rattle.nl_keep_pen.specs.Images.{ImageMeans, ReadsFromImage}

-- ---- what a checkpoint shows

-- The tree shows this beside its pins, but for the bytes of files that have no manifest's name; and these lines of
-- manifests show nothing.
pub record ShowsBare (tree : Tree) (opened : Opened) : Type 0 where
  pub shows : Shows (unread (without_pins tree)) opened.tree
  pub told : opened.refused ≡ refused (unread (without_pins tree))

-- so does checkpoint n of the image
pub record ShowsUnread (n : ℕ) (opened : Opened) (image : List ℕ) : Type 0 where
  pub tree : Tree
  pub reads : ReadsFromImage n tree image
  pub bare : ShowsBare tree opened

-- a file there has these bytes
pub record ReadsFile (n : ℕ) (path : Path) (bytes image : List ℕ) : Type 0 where
  pub tree : Tree
  pub reads : ReadsFromImage n tree image
  pub has : file_at tree path ≡ Ok bytes

-- ---- what differs

-- all that differs between what two trees show beside their pins, with what they show but for bytes
pub record TellDifferences (old new : Tree) (told : ShownDifferences) : Type 0 where
  pub bare_old : ShowsBare old told.before
  pub bare_new : ShowsBare new told.after
  pub one : HostTree
  pub shows_one : Shows (without_pins old) one
  pub other : HostTree
  pub shows_other : Shows (without_pins new) other
  pub exact : told.all ≡ host_differences one other

-- the trees of checkpoints m and n of the image
pub record TellsFromImage (m n : ℕ) (told : ShownDifferences) (image : List ℕ) : Type 0 where
  pub old : Tree
  pub reads_old : ReadsFromImage m old image
  pub new : Tree
  pub reads_new : ReadsFromImage n new image
  pub tells : TellDifferences old new told

-- of the checkpoints these show a change at or below the path
abbrev pub ChangesFromImage : Path → (numbers changes : List ℕ) → List ℕ → Type 0
ChangesFromImage path numbers changes image =
    (w : World) → ImageMeans (with_present_mark image) w → AreChanges w path None numbers changes

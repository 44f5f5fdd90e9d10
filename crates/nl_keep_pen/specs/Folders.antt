-- What comes back of a folder of the host, over many runs.
use Rattle.std.specs.Prelude.{◌≡◌, ℕ, List}
use Rattle.nl_types.specs.Plain.Trees.{Tree}
use Rattle.nl_types.specs.Plain.Worlds.{World}
use Rattle.nl_image.specs.Parts.{with_present_mark}
use Rattle.nl_manifests.specs.HostTrees.{HostTree, Shows}
use Rattle.nl_keep_pen.specs.Images.{ImageMeans, ReadsFromImage, StoresInImage}
use Rattle.nl_keep_pen.specs.Runs.{KeepThrough}

-- A tree that shows a folder was backed up as checkpoint n; what is restored of n shows that folder and no
-- other, however many runs that keep it came between.
abbrev pub FoldersComeBack : Type 0
FoldersComeBack =
    (moment n : ℕ) (folder opened : HostTree) (tree read : Tree) (old first last : List ℕ)
    (images : List (List ℕ)) (w : World)
    → Shows tree folder → ImageMeans (with_present_mark old) w → StoresInImage moment n tree old first
    → KeepThrough n first images last → ReadsFromImage n read last → Shows read opened → opened ≡ folder

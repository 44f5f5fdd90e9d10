-- What is kept from one image to the next, over many runs.
use Rattle.std.specs.Prelude.{◌≡◌, ℕ, max, All, true, false, List, [], ◌∷◌, None, Some}
use Rattle.nl_types.specs.Plain.NumberLists.{is_one_of}
use Rattle.nl_types.specs.Plain.Trees.{Tree}
use Rattle.nl_types.specs.Plain.Worlds.{World, Copy, copy_at, latest_stamp}
use Rattle.nl_image.specs.Parts.{with_present_mark}
use Rattle.nl_keep.specs.MinorOnes.{is_plain_minor_copy}
use Rattle.nl_keep.specs.Stored.{snapshot_of}
use Rattle.nl_keep_pen.specs.Brought.{Arrival, BringsIntoImage}
use Rattle.nl_keep_pen.specs.Images.{ForgetsInImage, ImageMeans, ReadsFromImage, StoresInImage}

-- checkpoint n is kept with this tree, and it is no plain minor one
pub record IsStillKept (n : ℕ) (tree : Tree) (w : World) : Type 0 where
  pub copy : Copy
  pub kept : copy_at w n ≡ Some copy
  pub has : copy.tree ≡ tree
  pub own : is_plain_minor_copy copy ≡ false

-- the new image is made of the old one by a run that keeps checkpoint n, where it is no plain minor one
abbrev pub KeepsThrough : ℕ → (old new : List ℕ) → Type 0
KeepsThrough n old new =
    (w : World) → ImageMeans (with_present_mark old) w
    → (after : World) × ((tree : Tree) → IsStillKept n tree w → IsStillKept n tree after)
    × ImageMeans new after

-- images one after another, from each to the next by such a run
abbrev pub KeepThrough : ℕ → List ℕ → List (List ℕ) → List ℕ → Type 0
KeepThrough n old [] new = new ≡ old
KeepThrough n old (image ∷ images) new = KeepsThrough n old image × KeepThrough n image images new

-- ---- laws

-- what is an image of a closed pen has the present mark
abbrev pub ImagesHaveThePresentMark : Type 0
ImagesHaveThePresentMark = (image : List ℕ) (w : World) → ImageMeans image w → with_present_mark image ≡ image

-- a backup keeps each checkpoint
abbrev pub BackupsKeepThrough : Type 0
BackupsKeepThrough =
    (moment k n : ℕ) (tree : Tree) (old new : List ℕ) → StoresInImage moment k tree old new
    → KeepsThrough n old new

-- and so does a run that forgets others
abbrev pub ForgetsKeepThrough : Type 0
ForgetsKeepThrough =
    (moment n : ℕ) (numbers : List ℕ) (old new : List ℕ) → ForgetsInImage moment numbers old new
    → is_one_of numbers n ≡ false → KeepsThrough n old new

-- and one that brings others
abbrev pub BringingKeepsThrough : Type 0
BringingKeepsThrough =
    (n : ℕ) (all : List Arrival) (old new : List ℕ) → BringsIntoImage all old new → KeepsThrough n old new

-- and each that comes is kept with its tree
pub record KeepsArrivals (all : List Arrival) (new : List ℕ) : Type 0 where
  pub after : World
  pub kept : All (λ (one : Arrival). IsStillKept one.number one.tree after) all
  pub means : ImageMeans new after

abbrev pub ArrivalsAreKept : Type 0
ArrivalsAreKept =
    (all : List Arrival) (old new : List ℕ) (w : World) → ImageMeans (with_present_mark old) w
    → BringsIntoImage all old new → KeepsArrivals all new

-- what was backed up as checkpoint n is what is restored of n, however many runs that keep it came between
abbrev pub BackupsComeBack : Type 0
BackupsComeBack =
    (moment n : ℕ) (tree read : Tree) (old first last : List ℕ) (images : List (List ℕ)) (w : World)
    → ImageMeans (with_present_mark old) w → StoresInImage moment n tree old first
    → KeepThrough n first images last → ReadsFromImage n read last → read ≡ tree

-- what was forgotten is in no world that the new image means
abbrev pub ForgottenAreGone : Type 0
ForgottenAreGone =
    (moment n : ℕ) (numbers : List ℕ) (old new : List ℕ) (w after : World)
    → ForgetsInImage moment numbers old new → ImageMeans (with_present_mark old) w
    → is_one_of numbers n ≡ true → ImageMeans new after → copy_at after n ≡ None

-- what is stored is kept as a snapshot of the moment, or of the latest date that there was where that is
-- later
abbrev pub SnapshotsHaveTheMoment : Type 0
SnapshotsHaveTheMoment =
    (moment n : ℕ) (tree : Tree) (old new : List ℕ) (w after : World)
    → StoresInImage moment n tree old new → ImageMeans (with_present_mark old) w → ImageMeans new after
    → copy_at after n ≡ Some (snapshot_of tree (max moment (latest_stamp w)))

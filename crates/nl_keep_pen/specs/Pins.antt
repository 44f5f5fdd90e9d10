-- The pins of a tree, and of an image.
use Rattle.std.specs.Prelude.{◌≡◌, ℕ, Bool, true, false, List, Option, None, Some, Result, Ok, Err}
use Rattle.nl_types.specs.declared.error.VolError.{VolError}
use Rattle.nl_types.specs.declared.error.VolError.TheVariants.{IsDir, NotFound}
use Rattle.nl_types.specs.Plain.Calls.{file_at}
use Rattle.nl_types.specs.Plain.Trees.{Tree}
use Rattle.nl_types.specs.Plain.Worlds.{World}
use Rattle.nl_image.specs.Parts.{with_present_mark}
use Rattle.nl_folders.specs.declared.folder.FolderError.{FolderError}
use Rattle.nl_folders.specs.declared.folder.FolderError.TheVariants.{Refused}
use Rattle.nl_pins.specs.Trees.{pins_path}
use Rattle.nl_keep_pen.specs.Images.{ImageMeans}

abbrev pub answered : Result (List ℕ) VolError → Option (List ℕ)
answered (Ok bytes) = Some bytes
answered (Err e) = None

-- the bytes of the file of pins, where there is one
abbrev pub pins_of : Tree → Option (List ℕ)
pins_of tree = answered (file_at tree pins_path)

-- these are the pins of the image's current tree
abbrev pub HasPins : Option (List ℕ) → List ℕ → Type 0
HasPins pins image = (w : World) → ImageMeans (with_present_mark image) w → pins ≡ pins_of w.tree

-- whether a file isn't read since nothing or a directory stands in its place
abbrev pub is_of_no_file : FolderError → Bool
is_of_no_file (Refused NotFound) = true
is_of_no_file (Refused IsDir) = true
is_of_no_file e = false

-- what a read of the file comes to
abbrev pub Finds : Result (List ℕ) FolderError → Option (List ℕ) → Type 0
Finds (Ok bytes) pins = pins ≡ Some bytes
Finds (Err e) pins = (pins ≡ None) × (is_of_no_file e ≡ true)

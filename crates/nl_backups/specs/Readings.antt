-- What is read of an image: the rows of its checkpoints, its current tree, and what the pins of that say.
use Rattle.std.specs.Prelude.{◌≡◌, ℕ, ◌<◌, ⊤, List, [], ◌∷◌, Option, None, Some, option_map, unwrap_or}
use Rattle.nl_types.specs.declared.row.Row.{Row}
use Rattle.nl_types.specs.Plain.Worlds.{World, rows}
use Rattle.nl_image.specs.Parts.{with_present_mark}
use Rattle.nl_manifests.specs.declared.manifest.Line.{Line}
use Rattle.nl_manifests.specs.declared.manifest.Manifest.{Manifest}
use Rattle.nl_manifests.specs.Readings.{manifest_in}
use Rattle.nl_keep_pen.specs.Images.{ImageMeans}
use Rattle.nl_keep_pen.specs.Pins.{pins_of}
use Rattle.nl_backups.specs.Hosts.{Image}

-- ---- rows

-- of whatever world the image was made, this is told of its checkpoints
abbrev pub HasRows : List Row → Image → Type 0
HasRows told image = (w : World) → ImageMeans (with_present_mark image) w → told ≡ rows w

-- all numbers are above one
abbrev pub AreAbove : ℕ → List Row → Type 0
AreAbove n [] = ⊤
AreAbove n (row ∷ more) = (n < row.number) × AreAbove n more

-- numbers ascend
abbrev pub Ascend : List Row → Type 0
Ascend [] = ⊤
Ascend (row ∷ more) = AreAbove row.number more × Ascend more

-- ---- pins

-- the lines of a file of pins, where it is one; where there is no file nothing is pinned
abbrev pub lines_in : Option (List ℕ) → Option (List Line)
lines_in None = Some []
lines_in (Some bytes) = option_map (λ (m : Manifest). m.lines) (manifest_in bytes)

-- the lines of a world's pins, which are those of its current tree
abbrev pub pinned_in : World → List Line
pinned_in w = unwrap_or (lines_in (pins_of w.tree)) []

-- these are the lines of the image's pins
abbrev pub HasLines : List Line → Image → Type 0
HasLines lines image =
    (w : World) → ImageMeans (with_present_mark image) w → lines_in (pins_of w.tree) ≡ Some lines

-- and here the file of pins is none
abbrev pub HasBadPins : Image → Type 0
HasBadPins image = (w : World) → ImageMeans (with_present_mark image) w → lines_in (pins_of w.tree) ≡ None

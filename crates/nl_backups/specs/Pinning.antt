-- What `pin` stores.
use Rattle.std.specs.Prelude.{◌≡◌, ℕ, Bool, false, if◌then◌else◌, List, Option, None, Some}
use Rattle.nl_types.specs.declared.row.Row.{Row}
use Rattle.nl_types.specs.Plain.Paths.{same_name}
use Rattle.nl_types.specs.Plain.Trees.{Tree}
use Rattle.nl_types.specs.Plain.Worlds.{World, rows}
use Rattle.nl_image.specs.Parts.{with_present_mark}
use Rattle.nl_manifests.specs.declared.manifest.Line.{Line}
use Rattle.nl_pins.specs.Pins.{file_of, others, text_in, with_pin}
use Rattle.nl_pins.specs.Trees.{with_pins, without_pins}
use Rattle.nl_keep_pen.specs.Images.{ImageMeans}
use Rattle.nl_backups.specs.declared.pinning.PinChange.{PinChange}
use Rattle.nl_backups.specs.declared.pinning.PinChange.TheVariants.{Off, On}
use Rattle.nl_backups.specs.declared.pinning.PinWish.{PinWish}
use Rattle.nl_backups.specs.declared.pinning.Pinned.{Pinned}
use Rattle.nl_backups.specs.declared.storing.BackedUp.{BackedUp}
use Rattle.nl_backups.specs.Hosts.{Image}
use Rattle.nl_backups.specs.Readings.{pinned_in}
use Rattle.nl_backups.specs.Storing.{IsStored}

-- ---- what is wished

-- just this text is noted already
abbrev pub is_noted : PinChange → Option (List ℕ) → Bool
is_noted (On text) (Some noted) = same_name noted text
is_noted change noted = false

-- so there is nothing to change
abbrev pub is_pinned_so : PinWish → List Line → Bool
is_pinned_so wish lines = is_noted wish.change (text_in lines wish.number)

-- the pins with that of checkpoint n put on or taken off
abbrev pub changed : (moment n : ℕ) → PinChange → List Row → List Line → List Line
changed moment n (On text) told lines = with_pin told n text moment lines
changed moment n Off told lines = others told n lines

-- a tree with these pins, and all else as it is
abbrev pub repinned : List Line → Tree → Tree
repinned lines tree = with_pins (file_of lines) (without_pins tree)

-- ---- what is done

-- it is the current tree of whatever world the image was made of, with these pins
abbrev pub IsRepinned : List Line → Tree → Image → Type 0
IsRepinned lines tree image =
    (w : World) → ImageMeans (with_present_mark image) w → tree ≡ repinned lines w.tree

-- the current tree with the pin changed, none where that is so already
abbrev pub wanted : (moment : ℕ) → PinWish → World → Option Tree
wanted moment wish w =
    if is_pinned_so wish (pinned_in w) then None
    else Some (repinned (changed moment wish.number wish.change (rows w) (pinned_in w)) w.tree)

-- that is it, of whatever world the image was made
abbrev pub IsWanted : (moment : ℕ) → PinWish → Option Tree → Image → Type 0
IsWanted moment wish tree image =
    (w : World) → ImageMeans (with_present_mark image) w → tree ≡ wanted moment wish w

abbrev pub ChangesPinBy : (moment : ℕ) → PinWish → Option BackedUp → (old new : Image) → Type 0
ChangesPinBy moment wish None old new = IsWanted moment wish None old × (new ≡ old)
ChangesPinBy moment wish (Some told) old new =
    IsWanted moment wish (Some told.tree) old × IsStored moment told.tree told.stored old new

-- the tree that is wanted is stored; where none is, the image stays
abbrev pub ChangesPin : (moment : ℕ) → Pinned → (old new : Image) → Type 0
ChangesPin moment told old new = ChangesPinBy moment told.wish told.backed old new

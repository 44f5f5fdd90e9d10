-- The tree that has a pin changed.
use Rattle.std.proofs.Common.{◌≡◌, ℕ, Bool, true, false, List, Option, None, Some, sym, ap, ◌∙◌}
use Rattle.std.specs.Prelude.{if◌then◌else◌}
use Rattle.nl_types.specs.declared.row.Row.{Row}
use Rattle.nl_types.specs.Plain.Trees.{Tree}
use Rattle.nl_types.specs.Plain.Worlds.{World, rows}
use Rattle.nl_image.specs.Parts.{with_present_mark}
use Rattle.nl_manifests.specs.declared.manifest.Line.{Line}
use Rattle.nl_pins.specs.Pins.{file_of}
use Rattle.nl_pins.specs.Trees.{with_pins, without_pins}
use Rattle.nl_keep_pen.specs.Images.{HasCurrent, ImageMeans}
use Rattle.nl_backups.specs.declared.pinning.PinWish.{PinWish}
use Rattle.nl_backups.specs.Hosts.{Image}
use Rattle.nl_backups.specs.Pinning.{IsRepinned, IsWanted, changed, is_pinned_so, repinned}
use Rattle.nl_backups.specs.Readings.{HasLines, HasRows, pinned_in}
use Rattle.nl_backups.proofs.OneWorld.{lines_are}

abbrev chosen : (moment : ℕ) → PinWish → World → Bool → Option Tree
chosen moment wish w b =
    if b then None
    else Some (repinned (changed moment wish.number wish.change (rows w) (pinned_in w)) w.tree)

so_there : (wish : PinWish) (lines : List Line) (image : Image) (b : Bool) → HasLines lines image
    → is_pinned_so wish lines ≡ b → (w : World) → ImageMeans (with_present_mark image) w
    → is_pinned_so wish (pinned_in w) ≡ b
so_there wish lines image b has so w from =
    ap (λ (l : List Line). is_pinned_so wish l) (sym (lines_are lines image has w from)) ∙ so

pub none_wanted : (moment : ℕ) (wish : PinWish) (lines : List Line) (image : Image) → HasLines lines image
    → is_pinned_so wish lines ≡ true → IsWanted moment wish None image
none_wanted moment wish lines image has so w from =
    sym (ap (chosen moment wish w) (so_there wish lines image true has so w from))

pub is_repinned : (lines : List Line) (earlier rest tree : Tree) (file : Option (List ℕ)) (image : Image)
    → HasCurrent earlier image → rest ≡ without_pins earlier → file ≡ file_of lines
    → tree ≡ with_pins file rest → IsRepinned lines tree image
is_repinned lines earlier rest tree file image current rest_is file_is is w from =
    is
    ∙ ap (λ (f : Option (List ℕ)). with_pins f rest) file_is
    ∙ ap (λ (t : Tree). with_pins (file_of lines) t)
    (rest_is ∙ ap (λ (t : Tree). without_pins t) (current w from))

pub one_wanted : (moment : ℕ) (wish : PinWish) (lines other : List Line) (told : List Row) (tree : Tree)
    (image : Image) → HasLines lines image → HasRows told image → is_pinned_so wish lines ≡ false
    → other ≡ changed moment wish.number wish.change told lines → IsRepinned other tree image
    → IsWanted moment wish (Some tree) image
one_wanted moment wish lines other told tree image has_lines has_rows so is repins w from =
    let n = wish.number in
    let change = wish.change in
    ap Some
    (repins w from
    ∙ ap (λ (l : List Line). repinned l w.tree)
    (is
    ∙ ap (λ (r : List Row). changed moment n change r lines) (has_rows w from)
    ∙ ap (λ (l : List Line). changed moment n change (rows w) l) (lines_are lines image has_lines w from)))
    ∙ sym (ap (chosen moment wish w) (so_there wish lines image false has_lines so w from))

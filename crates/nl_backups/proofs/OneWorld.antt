-- What is read of a volume that was opened of an image is that of each world that the image means.
use Rattle.std.proofs.Common.{◌≡◌, ℕ, true, List, [], ◌∷◌, Option, None, Some, map, sym, ap, ◌∙◌, subst}
use Rattle.std.specs.FinMap.Entries.{below_all, is_sorted}
use Rattle.std.specs.Option.{option_map}
use Rattle.std.specs.Ordering.{is_lt, nat_cmp}
use Rattle.std.specs.Prelude.{unwrap_or}
use Rattle.std.proofs.lemmas.Bool.{and_parts}
use Rattle.std.proofs.lemmas.Option.{same_Some}
use Rattle.nl_types.specs.declared.row.Row.{Row}
use Rattle.nl_types.specs.Facts.NumberedLists.{before-lt}
use Rattle.nl_types.specs.Plain.Trees.{Tree}
use Rattle.nl_types.specs.Plain.Worlds.{World, Copy, copy_at, copy_row, latest, rows}
use Rattle.nl_image.specs.Parts.{with_present_mark}
use Rattle.nl_commit.specs.Layout.{Layout, MeansWorld}
use Rattle.nl_core.specs.PenImages.{ImagesMeanOneWorld}
use Rattle.nl_manifests.specs.declared.manifest.Line.{Line}
use Rattle.nl_pins.specs.Pins.{text_in}
use Rattle.nl_keep_pen.specs.Images.{HasCurrent, ImageMeans, ReadsFromImage, SameBut}
use Rattle.nl_keep_pen.specs.Opened.{IsOpenedOf}
use Rattle.nl_keep_pen.specs.Pins.{HasPins}
use Rattle.nl_backups.specs.Hosts.{Image}
use Rattle.nl_backups.specs.Readings.{AreAbove, Ascend, HasBadPins, HasLines, HasRows, lines_in, pinned_in}

-- ---- numbers ascend

all_above : (n : ℕ) (copies : List (ℕ × Copy)) → below_all nat_cmp n copies ≡ true
    → AreAbove n (map copy_row copies)
all_above n [] below = tt
all_above n (c ∷ copies) below =
    let parts = and_parts (is_lt (nat_cmp n c.0)) (below_all nat_cmp n copies) below in
    (before-lt n c.0 parts.0, all_above n copies parts.1)

all_ascend : (copies : List (ℕ × Copy)) → is_sorted nat_cmp copies ≡ true → Ascend (map copy_row copies)
all_ascend [] rise = tt
all_ascend (c ∷ copies) rise =
    let parts = and_parts (below_all nat_cmp c.0 copies) (is_sorted nat_cmp copies) rise in
    (all_above c.0 copies parts.0, all_ascend copies parts.1)

-- ---- of whatever world the image was made

module _ (one : ImagesMeanOneWorld) (image : Image) (opened : Layout) (of : IsOpenedOf image opened) where
  abbrev v : World
  v = of.pen.world.0

  same_world : (w : World) → ImageMeans (with_present_mark image) w → SameBut w v
  same_world w from =
      one from.layout opened (with_present_mark image) w v from.pen of.pen from.is_image of.is_image
      from.closed of.closed from.means of.pen.world.1

  pub has_rows : (told : List Row) → ((w : World) → MeansWorld opened w → told ≡ rows w) → HasRows told image
  has_rows told reads w from =
      reads v of.pen.world.1 ∙ sym (ap (λ (x : World). rows x) (same_world w from))

  pub rows_ascend : (told : List Row) → ((w : World) → MeansWorld opened w → told ≡ rows w) → Ascend told
  rows_ascend told reads =
      subst Ascend (sym (reads v of.pen.world.1)) (all_ascend v.copies of.pen.world.1.world.numbers_rise)

  -- nothing is dirty, so the current tree is that of the latest checkpoint
  pub has_current : (n : ℕ) (tree : Tree) → ((w : World) → MeansWorld opened w → n ≡ latest w)
      → ReadsFromImage n tree image → HasCurrent tree image
  has_current n tree is_latest reads w from =
      let found = reads w from in
      let here : n ≡ latest w =
      is_latest v of.pen.world.1 ∙ sym (ap (λ (x : World). latest x) (same_world w from)) in
      let kept : copy_at w (latest w) ≡ Some found.copy =
      ap (λ (m : ℕ). copy_at w m) (sym here) ∙ found.kept in
      sym found.has
      ∙ same_Some found.copy.tree w.tree
      (sym (ap (λ (o : Option Copy). option_map (λ (c : Copy). c.tree) o) kept)
      ∙ from.means.world.clean (from.means.dirty ∙ from.closed.clean))

-- ---- pins

pub has_lines : (pins : Option (List ℕ)) (lines : List Line) (image : Image) → HasPins pins image
    → lines_in pins ≡ Some lines → HasLines lines image
has_lines pins lines image has is w from = ap lines_in (sym (has w from)) ∙ is

pub has_bad_pins : (pins : Option (List ℕ)) (image : Image) → HasPins pins image → lines_in pins ≡ None
    → HasBadPins image
has_bad_pins pins image has is w from = ap lines_in (sym (has w from)) ∙ is

pub lines_are : (lines : List Line) (image : Image) → HasLines lines image
    → (w : World) → ImageMeans (with_present_mark image) w → lines ≡ pinned_in w
lines_are lines image has w from =
    sym (ap (λ (o : Option (List Line)). unwrap_or o []) (has w from))

pub none_in : (lines : List Line) (image : Image) (n : ℕ) → HasLines lines image → text_in lines n ≡ None
    → (w : World) → ImageMeans (with_present_mark image) w → text_in (pinned_in w) n ≡ None
none_in lines image n has none w from =
    ap (λ (l : List Line). text_in l n) (sym (lines_are lines image has w from)) ∙ none

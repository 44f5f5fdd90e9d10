-- What is done with a volume that was opened of an image is done with the image that it is closed to.
use Rattle.std.specs.Prelude.{List, ℕ}
use Rattle.nl_types.specs.Plain.Worlds.{World}
use Rattle.nl_image.specs.Parts.{with_present_mark}
use Rattle.nl_commit.specs.Layout.{Layout, MeansWorld}
use Rattle.nl_core.specs.PenImages.{ImagesMeanOneWorld}
use Rattle.nl_keep.specs.Volumes.{LeadsTo}
use Rattle.nl_keep_pen.specs.Images.{ImageMeans, InImage, SameBut}
use Rattle.nl_keep_pen.specs.Opened.{IsClosedTo, IsOpenedOf}

-- the world of what was opened is that of the image
pub same_world : ImagesMeanOneWorld → (image : List ℕ) (opened : Layout) (of : IsOpenedOf image opened)
    → (w : World) → ImageMeans (with_present_mark image) w → SameBut w of.pen.world.0
same_world one image opened of w from =
    one from.layout opened (with_present_mark image) w of.pen.world.0 from.pen of.pen from.is_image of.is_image
    from.closed of.closed from.means of.pen.world.1

-- so what is opened means that world, but for how many mount numbers were given
pub closed_to : ImagesMeanOneWorld → (Comes : World → World → Type 0) (image new : List ℕ) (opened left : Layout)
    → IsOpenedOf image opened → LeadsTo Comes (MeansWorld opened) (MeansWorld left) → IsClosedTo left new
    → InImage Comes image new
closed_to one Comes image new opened left of leads closed w from =
    let d = leads of.pen.world.0 of.pen.world.1 in (
      of.pen.world.0,
      d.0,
      same_world one image opened of w from,
      d.2,
      record {
        layout = left;
        pen = closed.pen;
        is_image = closed.is_image;
        closed = closed.closed;
        means = d.1;
      },
    )

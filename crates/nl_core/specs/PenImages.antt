-- What the image of a pen is.
use Rattle.std.specs.Prelude.{◌≡◌, ℕ, List, [], false}
use Rattle.nl_types.specs.Plain.Worlds.{World}
use Rattle.nl_image.specs.Conditions.{IsImage}
use Rattle.nl_image.specs.StoreImages.{IsImageOf, parts_of}
use Rattle.nl_commit.specs.Layout.{IsPen, Layout, MeansWorld, layout_of}
use Rattle.nl_commit.specs.Volume.{Lists, kept_by, without_mounts}

-- the bytes are the image of what the pen holds
abbrev pub IsPenImage : Layout → List ℕ → Type 0
IsPenImage l bytes = IsImageOf l.store (kept_by l.lists) bytes

-- the image of a pen meets all conditions
abbrev pub PenImagesAreImages : Type 0
PenImagesAreImages =
    (l : Layout) (bytes : List ℕ) → IsPen l → (image : IsPenImage l bytes)
    → IsImage bytes (parts_of image.shape l.store image.entries)

-- a pen has one image
abbrev pub PensHaveOneImage : Type 0
PensHaveOneImage =
    (l : Layout) (bytes other : List ℕ) → IsPen l → IsPenImage l bytes → IsPenImage l other → bytes ≡ other

-- nothing is dirty or mounted, so an image has all that the pen means, but for how many mount numbers were
-- given
pub record CanBeClosed (l : Lists) : Type 0 where
  pub clean : l.dirty ≡ false
  pub unmounted : l.mounts ≡ []

-- ---- beside its mounts

-- the pen with all mounts given back
abbrev pub unmounted : Layout → Layout
unmounted l = layout_of (without_mounts l.lists) l.store

-- the bytes are the image of the pen with all mounts given back, which can be closed and means the world
-- without mounts
pub record IsImageBeside (l : Layout) (bytes : List ℕ) : Type 0 where
  pub pen : IsPen (unmounted l)
  pub can_be : CanBeClosed (unmounted l).lists
  pub means : (w : World) → MeansWorld l w → MeansWorld (unmounted l) (record w { mounts = [] })
  pub image : IsPenImage (unmounted l) bytes

-- ----

-- pens of one image mean one world
abbrev pub ImagesMeanOneWorld : Type 0
ImagesMeanOneWorld =
    (l m : Layout) (bytes : List ℕ) (w v : World) → IsPen l → IsPen m → IsPenImage l bytes
    → IsPenImage m bytes
    → CanBeClosed l.lists → CanBeClosed m.lists → MeansWorld l w → MeansWorld m v
    → record w { given = 0 } ≡ record v { given = 0 }

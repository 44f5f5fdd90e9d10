-- The image of a store is under the present mark.
use Rattle.std.proofs.Common.{◌≡◌, ◌∙◌, List, ℕ, ap, refl, sym}
use Rattle.nl_layout.specs.declared.superblock.Mark.{Mark}
use Rattle.nl_layout.specs.declared.superblock.Mark.TheVariants.{First, Second}
use Rattle.nl_image.specs.Laws.{PresentMarkStays}
use Rattle.nl_image.specs.Parts.{Parts, image_bytes, with_present_mark}
use Rattle.nl_image.specs.StoreImages.{parts_of}

under-present : (p : Parts) (blocks : List ℕ) (m : Mark) → m ≡ Second
    → with_present_mark (image_bytes (record p { shape = record p.shape { mark = m } }) blocks)
    ≡ image_bytes (record p { shape = record p.shape { mark = m } }) blocks
under-present p blocks First is = absurd (let wrong : First ≡ Second = is in cc)
under-present p blocks Second is = refl

pub present-stays : PresentMarkStays
present-stays store kept bytes image =
    ap with_present_mark image.spelled
    ∙ under-present
    (parts_of image.shape store image.entries) image.blocks image.shape.mark image.are.shape.mark
    ∙ sym image.spelled

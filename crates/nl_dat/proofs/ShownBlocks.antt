-- The blocks of a store are those of its space.
use Rattle.std.proofs.Common.{◌≡◌, ℕ, ◌<◌, List, length, Option, Some, ◌∙◌, arith}
use Rattle.std.specs.Prelude.{slice_get}
use Rattle.std.proofs.lemmas.Option.{slice_get_within}
use Rattle.nl_types.specs.Blocks.Segments.{total_blocks}
use Rattle.nl_device.specs.Failures.{Failures}
use Rattle.nl_vstore.specs.Content.{SpaceContent}
use Rattle.nl_vstore.specs.Images.{AreBlocksOf, IsPageOf}
use Rattle.nl_vstore.specs.Stores.{space_in}
use Rattle.nl_dat.specs.declared.entries.DatEntry.{DatEntry}
use Rattle.nl_dat.specs.Inside.{store_of}
use Rattle.nl_dat.specs.Facts.ShownSpace.{shown}

pub blocks-store_of : (table : List (Option DatEntry)) (space : SpaceContent) (failures : Failures)
    (bytes : List ℕ)
    → AreBlocksOf space bytes → AreBlocksOf (space_in (store_of table space failures)) bytes
blocks-store_of table space failures bytes are = record {
  pages = are.pages;
  spelled = are.spelled;
  count = are.count;
  each = λ b page at. each b page (slice_get_within are.pages b page at) (are.each b page at);
}
  where
    each : (b : ℕ) (page : List ℕ) → b < length are.pages → IsPageOf space b page
        → IsPageOf (space_in (store_of table space failures)) b page
    each b page low is = record {
      whole = is.whole;
      used = λ used. (shown table space failures b (omega (arith, low, are.count))).1 ∙ is.used used;
      unused = is.unused;
    }

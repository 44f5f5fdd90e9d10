-- The logs of an image, and whose their payload is.
use Rattle.std.proofs.Common.{◌≡◌, Bool, true, List, Option, ap, subst, sym}
use Rattle.std.specs.Prelude.{◌↔◌}
use Rattle.std.specs.Option.{option_map}
use Rattle.nl_types.specs.Blocks.Segments.{Segments}
use Rattle.nl_vstore.specs.Content.{Payload}
use Rattle.nl_vstore.specs.Images.{pages_of_bytes}
use Rattle.nl_vstore.specs.Summaries.{SummariesAreOne}
use Rattle.nl_segwriter.specs.declared.images.Restored.{Restored}
use Rattle.nl_segwriter.specs.Images.{AreLogsIn, IsRestored, used_end, used_start}
use Rattle.nl_segwriter.specs.Writing.{held_in}
use Rattle.nl_dat.specs.declared.entries.DatEntry.{DatEntry}
use Rattle.nl_dat.specs.Images.{IsTableOver}
use Rattle.nl_dat.specs.Table.{block_of}
use Rattle.nl_image.specs.Facts.OnePayload.{on_device, own_by_both}
use Rattle.nl_image.specs.Reading.{HaveOwn}
use Rattle.nl_damage.specs.declared.sections.Sections.{Sections}
use Rattle.nl_damage.specs.Judging.{HaveLogs}

module _ (x : Sections) (s : Segments) (table : List (Option DatEntry)) where
  pub are-logs : HaveLogs x s table → AreLogsIn s (pages_of_bytes x.blocks.now)
  are-logs logs i within =
      let l = logs.whole.held i within in (
        l.0,
        on_device (used_start s i) (used_end s i) l.0 (held_in logs.payload) (pages_of_bytes x.blocks.now) l.1,
      )

  module _ (r : Restored) (restored : IsRestored s (pages_of_bytes x.blocks.now) r) where
    -- by whatever payload
    pub own-of : SummariesAreOne → IsTableOver table s → HaveLogs x s table → HaveOwn table r.payload
    own-of ones over logs v e at =
        own_by_both ones s (pages_of_bytes x.blocks.now) r.pages restored.pages r.payload logs.payload
        restored.logs logs.whole v e (over.used v e.block (ap (option_map block_of) at)) (logs.own v e at)

    pub has-logs : HaveOwn table r.payload → HaveLogs x s table
    has-logs own = record { payload = r.payload; whole = restored.of_image; own = own }

    -- whatever list says so of the payload that was read
    pub logs-exact : SummariesAreOne → IsTableOver table s → (payload : List (Option Payload))
        → payload ≡ r.payload → (has : Bool) → (has ≡ true ↔ HaveOwn table payload)
        → (has ≡ true ↔ HaveLogs x s table)
    logs-exact ones over payload is has exact = (
      λ yes. has-logs (subst (λ (ps : List (Option Payload)). HaveOwn table ps) is (exact.0 yes)),
      λ logs. exact.1 (subst (λ (ps : List (Option Payload)). HaveOwn table ps) (sym is) (own-of ones over logs)),
    )

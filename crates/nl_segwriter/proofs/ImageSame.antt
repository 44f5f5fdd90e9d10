-- The pages that are kept of an image have what it has in used parts.
use Rattle.std.proofs.Common.{◌≡◌, ℕ, ◌+◌, ◌-◌, ◌<◌, ◌≤◌, List, [], ◌∷◌, length, Option, refl, sym, ◌∙◌, arith}
use Rattle.std.proofs.lemmas.List.{length-map}
use Rattle.nl_types.specs.Blocks.Segments.{Segments}
use Rattle.nl_device.specs.Pages.{DevicePages}
use Rattle.nl_vstore.specs.Content.{Payload, payload_page}
use Rattle.nl_vstore.specs.Logs.{FillDevice, IsOnDevice, WholeLog}
use Rattle.nl_vstore.specs.FactsOfSpace.KeptLogs.{fill_kept}
use Rattle.nl_segwriter.specs.Images.{AreLogsIn, AreUsedPages, HoldLogs, IsHeld, used_end, used_start, page_in}
use Rattle.nl_segwriter.specs.Writing.{held_in, space_content}
use Rattle.nl_segwriter.proofs.ImageLogs.{fill_device_up}

module _ (s : Segments) (image : DevicePages) (pages : List (Option (List ℕ)))
    (are : AreUsedPages s image pages) where
  page_same : (i c : ℕ) → used_start s i ≤ c → c < used_end s i → page_in pages c ≡ image c
  page_same i c low high =
      are.used c
      (record { segment = i; block = c - used_start s i }, omega (arith, low), omega (arith, low, high))

  -- payload that is held by the pages is held by the image
  pub held_of_image : (payload : List (Option Payload)) → HoldLogs s (page_in pages) payload
      → HoldLogs s image payload
  held_of_image payload logs =
      record { count = logs.count; held = λ i within. moved i (logs.held i within); unheld = logs.unheld }
    where
      moved : (i : ℕ) → IsHeld s (page_in pages) (held_in payload) i → IsHeld s image (held_in payload) i
      moved i (ls, fill) = (
        ls,
        fill_kept (used_start s i) (used_end s i) ls (space_content s payload (page_in pages))
            (space_content s payload image) (λ c low high. (refl, sym (page_same i c low high))) fill,
      )

  -- logs of the image are logs of the pages
  pub logs_of_pages : AreLogsIn s image → AreLogsIn s (page_in pages)
  logs_of_pages logs i within = let l = logs i within in (l.0, kept i (used_start s i) l.0 (omega arith) l.1)
    where
      kept : (i b : ℕ) (ls : List WholeLog) → used_start s i ≤ b → FillDevice b (used_end s i) ls image
          → FillDevice b (used_end s i) ls (page_in pages)
      kept i b [] low fill = fill
      kept i b (log ∷ ls) low fill =
          let more = fill_device_up (b + 1 + length log.payload) (used_end s i) ls image fill.1 in
          let on : IsOnDevice b log image = fill.0 in (
            record {
              fits = on.fits;
              summary = page_same i b low (omega (arith, more)) ∙ on.summary;
              pages = λ j h.
                  page_same i (b + 1 + j) (omega (arith, low))
                  (omega (arith, h, more, length-map log.payload payload_page))
                  ∙ on.pages j h;
            },
            kept i (b + 1 + length log.payload) ls (omega (arith, low)) fill.1,
          )

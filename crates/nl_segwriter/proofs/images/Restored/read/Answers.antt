use Rattle.std.proofs.Common.{ℕ, List, Option, subst, sym}
use Rattle.nl_vstore.specs.Images.{pages_of_bytes}
use Rattle.nl_segwriter.specs.Images.{AreLogsIn, HoldLogs, page_in}
use Rattle.nl_segwriter.proofs.ImageSame.{held_of_image, logs_of_pages}
use Rattle.nl_segwriter.proofs.images.Restored.read.Goals as goal

pub returns-in-Ok-clause-found : goal.returns-in-Ok-clause-found
returns-in-Ok-clause-found c =
    let s = c.args.table.now in
    let image = pages_of_bytes c.args.blocks.now in
    let logs : HoldLogs s (page_in c.in_ok-pages.pages) c.in-Ok.payload =
    subst (λ (pages : List (Option (List ℕ))). HoldLogs s (page_in pages) c.in-Ok.payload) c.as_slice.ensures
    c.in-Ok.ensures.found in
    record {
      pages = c.in_ok-pages.ensures;
      logs = logs;
      of_image = held_of_image s image c.in_ok-pages.pages c.in_ok-pages.ensures c.in-Ok.payload logs;
    }

pub returns-in-Err-clause-only : goal.returns-in-Err-clause-only
returns-in-Err-clause-only c = λ logs.
    let s = c.args.table.now in
    let of_pages : AreLogsIn s (page_in c.in_ok-pages.pages) =
    logs_of_pages s (pages_of_bytes c.args.blocks.now) c.in_ok-pages.pages c.in_ok-pages.ensures logs in
    c.in-Err.ensures.only
    (subst (λ (pages : List (Option (List ℕ))). AreLogsIn s (page_in pages))
    (sym c.as_slice.ensures) of_pages)

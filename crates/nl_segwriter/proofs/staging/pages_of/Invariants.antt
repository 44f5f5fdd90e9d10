use Rattle.std.proofs.Common.{◌≡◌, ◌∷◌, map, take}
use Rattle.nl_vstore.specs.Content.{payload_tag, payload_page}
use Rattle.nl_layout.specs.Summary.{SummaryHasSpelling, summary_bytes}
use Rattle.nl_segwriter.proofs.staging.pages_of.Given as goal

abbrev pub invariant-loop-page : goal.invariant-loop-page
invariant-loop-page l = record {
  fits : SummaryHasSpelling
      (record { stamp = l.fn.stamp; checkpoint = l.fn.checkpoint; tags = map payload_tag l.items });
  pages : l.pages.items
      ≡ summary_bytes
      (record { stamp = l.fn.stamp; checkpoint = l.fn.checkpoint; tags = map payload_tag l.items })
      ∷ map payload_page (take l.page-index l.items);
}

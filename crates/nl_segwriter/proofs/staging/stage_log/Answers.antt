use Rattle.std.proofs.Common.{◌≡◌, ◌∷◌, List, length, map, refl, ap, sym, subst, ◌∙◌}
use Rattle.nl_layout.specs.Summary.{SummaryHasSpelling, summary_bytes}
use Rattle.nl_vstore.specs.Content.{Payload, payload_tag, payload_page}
use Rattle.nl_vstore.specs.Logs.{WholeLog}
use Rattle.nl_segwriter.proofs.staging.stage_log.Goals as goal

pub returns : goal.returns
returns c =
    let same : c.in_ok-payload.payload ≡ c.args.items.now = c.in_ok-payload.ensures in
    record {
      log_is = refl;
      whole_is =
          ap (λ (p : List Payload).
          let whole : WholeLog =
          record { stamp = c.args.stamp; checkpoint = c.args.checkpoint; payload = p } in
          whole)
          same;
      ready = record {
        fits =
            subst (λ (p : List Payload).
            SummaryHasSpelling
            (record { stamp = c.args.stamp; checkpoint = c.args.checkpoint; tags = map payload_tag p }))
            (sym same) c.in_ok-pages.ensures.fits;
        pages =
            subst (λ (p : List Payload).
            c.in_ok-pages.pages
            ≡ summary_bytes
            (record { stamp = c.args.stamp; checkpoint = c.args.checkpoint; tags = map payload_tag p })
            ∷ map payload_page p)
            (sym same) c.in_ok-pages.ensures.pages;
        count = ap length same ∙ c.requires.count;
      };
    }

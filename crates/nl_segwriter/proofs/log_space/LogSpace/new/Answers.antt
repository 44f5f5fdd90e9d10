use Rattle.std.proofs.Common.{◌≡◌, ◌*◌, length, ap, sym, ◌∙◌, subst, List, Option, None}
use Rattle.std.proofs.Math.ListN.{replicate}
use Rattle.std.proofs.lemmas.List.{length-replicate}
use Rattle.nl_types.specs.declared.geometry.Geometry.{Geometry}
use Rattle.nl_types.specs.Blocks.Segments.{HaveLogs, Segments, clean_info}
use Rattle.nl_vstore.specs.Content.{Payload}
use Rattle.nl_vstore.specs.Logs.{AreWholeLogs}
use Rattle.nl_segwriter.specs.Writing.{space_content, held_in}
use Rattle.nl_segwriter.specs.Facts.WholeLogs.{whole_new, logs_new, none_held}
use Rattle.nl_segwriter.proofs.log_space.LogSpace.new.Goals as goal

pub invariant_of-result : goal.invariant_of-result
invariant_of-result g c =
    let geometry : Geometry = c.args.geometry in
    let new : Segments = record { blocks = geometry.blocks; each = replicate geometry.segments clean_info } in
    let is : c.in_ok-table.table ≡ new = c.in_ok-table.ensures.clean in
    let table : c.in_ok-payload.payload ≡ replicate c.total.result None = c.in_ok-payload.ensures in
    let shape : geometry ≡ g.D.Device.shape c.args.device = sym c.requires in
    let pages = g.D.Device.pages c.args.device in
    record {
      segment_size = ap (λ (t : Segments). t.blocks) is ∙ ap (λ (x : Geometry). x.blocks) shape;
      segment_count =
          ap (λ (t : Segments). length t.each) is ∙ length-replicate geometry.segments clean_info
          ∙ ap (λ (x : Geometry). x.segments) shape;
      limits = c.in_ok-table.ensures.limits;
      sized =
          ap length table ∙ length-replicate c.total.result None ∙ c.total.ensures
          ∙ ap (λ (x : Geometry). x.segments * x.blocks) shape;
      unheld = λ b _. ap (λ (t : List (Option Payload)). held_in t b) table ∙ none_held c.total.result b;
      logged = subst HaveLogs (sym is) (logs_new geometry.blocks geometry.segments);
      whole =
          subst (λ (t : Segments). AreWholeLogs (space_content t c.in_ok-payload.payload pages)) (sym is)
          (whole_new geometry.blocks geometry.segments (held_in c.in_ok-payload.payload) pages);
    }

pub returns-clause-content : goal.returns-clause-content
returns-clause-content g c =
    let geometry : Geometry = c.args.geometry in
    let new : Segments = record { blocks = geometry.blocks; each = replicate geometry.segments clean_info } in
    let is : c.in_ok-table.table ≡ new = c.in_ok-table.ensures.clean in
    let table : c.in_ok-payload.payload ≡ replicate c.total.result None = c.in_ok-payload.ensures in
    let held : held_in c.in_ok-payload.payload ≡ (λ b. None) = λ i b.
    (ap (λ (t : List (Option Payload)). held_in t b) table ∙ none_held c.total.result b) i in
    λ i. record { segments = is i; held = held i; stored = g.D.Device.pages c.args.device }

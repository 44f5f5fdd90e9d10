use Rattle.std.proofs.Common.{◌≡◌, ◌∙◌, ap, length, refl, sym}
use Rattle.nl_types.specs.declared.geometry.Geometry.{Geometry}
use Rattle.nl_types.specs.Blocks.Segments.{Segments}
use Rattle.nl_segwriter.proofs.ImagePayload.{restored_whole}
use Rattle.nl_segwriter.proofs.log_space.LogSpace.restore.Goals as goal

pub invariant_of-result : goal.invariant_of-result
invariant_of-result g c =
    let s : Segments = c.args.table in
    let shape : g.D.Device.shape c.args.device ≡ g.D.Device.shape c.put_pages.new.device =
    sym c.in-Ok.ensures.shape in
    let blocks : s.blocks ≡ (g.D.Device.shape c.put_pages.new.device).blocks =
    c.requires.shape.blocks ∙ ap (λ (x : Geometry). x.blocks) shape in
    let segments : length s.each ≡ (g.D.Device.shape c.put_pages.new.device).segments =
    c.requires.shape.segments ∙ ap (λ (x : Geometry). x.segments) shape in
    record {
      segment_size = blocks;
      segment_count = segments;
      limits = c.blocks-2.ensures.limits;
      sized = c.requires.logs.count ∙ rw (segments, blocks) refl;
      unheld = λ b unused. c.requires.logs.unheld b unused;
      logged = c.requires.have_logs;
      whole =
          restored_whole s c.args.restored.pages c.args.restored.payload
          (g.D.Device.pages c.put_pages.new.device) c.requires.logs c.in-Ok.ensures.put;
    }

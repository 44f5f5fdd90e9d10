use Rattle.std.proofs.Common.{◌+◌, ◌-◌, ◌*◌, arith}
use Rattle.std.proofs.lemmas.List.Elements.{All-more}
use Rattle.nl_types.specs.Blocks.Segments.{clean_info}
use Rattle.nl_types.specs.Facts.EqualPieces.{put_piece}
use Rattle.nl_layout.specs.Segment.{HasSpelling, segment_bytes}
use Rattle.nl_sufile.specs.Facts.ImageEntries.{entry_width}
use Rattle.nl_sufile.proofs.images.write_entries.Goals as goal

pub loop-i-preserved : goal.loop-i-preserved
loop-i-preserved c = record {
  written =
      put_piece segment_bytes 16 entry_width c.args.each.now c.loop-i.i
      (16 * c.loop-i.i + 16 - 16 * c.loop-i.i) clean_info c.loop-i.out c.args.out.now
      c.write_segment.new.out
      (omega arith) (omega arith) c.loop-i.invariant.written c.write_segment.ensures.spelling;
  fit =
      All-more HasSpelling c.args.each.now c.loop-i.i clean_info
      (omega arith) c.loop-i.invariant.fit c.write_segment.ensures.fits;
}

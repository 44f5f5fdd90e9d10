use Rattle.std.proofs.Common.{◌+◌, ◌-◌, ◌*◌, ◌∙◌, ap, arith, subst}
use Rattle.std.proofs.lemmas.List.Elements.{All-more}
use Rattle.nl_types.specs.Facts.EqualPieces.{put_piece}
use Rattle.nl_layout.specs.Checkpoints.{HasSpelling, checkpoint_bytes}
use Rattle.nl_cpfile.specs.Facts.ImageEntries.{entry_width}
use Rattle.nl_cpfile.proofs.images.write_checkpoints.Goals as goal

pub loop-i-preserved : goal.loop-i-preserved
loop-i-preserved c = record {
  written =
      put_piece checkpoint_bytes 160 entry_width c.args.kept.now c.loop-i.i
      (160 * c.loop-i.i + 160 - 160 * c.loop-i.i) c.index-kept-i.result c.loop-i.out c.args.out.now
      c.write.new.out
      (omega arith) (omega arith) c.loop-i.invariant.written
      (c.write.ensures.spelling ∙ ap checkpoint_bytes c.index-kept-i.is);
  fit =
      All-more HasSpelling c.args.kept.now c.loop-i.i c.index-kept-i.result
      (omega arith) c.loop-i.invariant.fit (subst HasSpelling c.index-kept-i.is c.write.ensures.fits);
}

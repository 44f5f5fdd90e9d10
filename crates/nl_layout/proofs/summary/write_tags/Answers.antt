use Rattle.std.proofs.Common.{arith, ◌+◌, ◌-◌, ◌*◌, ◌∙◌, ap, subst}
use Rattle.std.proofs.lemmas.List.Elements.{All-more}
use Rattle.nl_layout.specs.Tag.{TagHasSpelling, tag_bytes}
use Rattle.nl_layout.specs.Facts.Writing.{put_tag}
use Rattle.nl_layout.proofs.summary.write_tags.Goals as goal

pub loop-k-preserved : goal.loop-k-preserved
loop-k-preserved c = record {
  written =
      put_tag c.args.tags.now c.loop-k.k
      (32 * c.loop-k.k + 32 - 32 * c.loop-k.k) c.index-tags-k.result c.loop-k.out c.copy_from_slice.new.self
      (omega arith) c.requires.most (omega arith) c.loop-k.invariant.written
      (c.copy_from_slice.ensures.after ∙ c.to_bytes.ensures.bytes ∙ ap tag_bytes c.index-tags-k.is);
  fit =
      All-more TagHasSpelling c.args.tags.now c.loop-k.k c.index-tags-k.result
      (omega arith) c.loop-k.invariant.fit (subst TagHasSpelling c.index-tags-k.is c.to_bytes.ensures.fits);
}

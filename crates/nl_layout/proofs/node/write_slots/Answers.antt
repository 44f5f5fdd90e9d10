use Rattle.std.proofs.Common.{arith, ◌+◌, ◌-◌, ◌*◌, ◌^◌, ◌<◌, ◌∙◌, ap, subst}
use Rattle.std.proofs.lemmas.List.Elements.{All-more}
use Rattle.byteorder.specs.Endian.{little_bytes}
use Rattle.nl_layout.proofs.Slots.{put_slot}
use Rattle.nl_layout.proofs.node.write_slots.Goals as goal

pub loop-s-preserved : goal.loop-s-preserved
loop-s-preserved c = record {
  written =
      put_slot c.args.slots.now c.loop-s.s
      (8 * c.loop-s.s + 8 - 8 * c.loop-s.s) c.index-slots-s.result c.loop-s.out c.args.out.now
      c.copy_from_slice.new.self
      (omega arith) (omega arith) c.loop-s.invariant.written
      (c.copy_from_slice.ensures.after ∙ c.slot_bytes.ensures.bytes
      ∙ ap (little_bytes 8) c.index-slots-s.is);
  fit =
      All-more (λ number. number < 2 ^ 64) c.args.slots.now c.loop-s.s c.index-slots-s.result
      (omega arith) c.loop-s.invariant.fit
      (subst (λ n. n < 2 ^ 64) c.index-slots-s.is c.slot_bytes.ensures.fits);
}

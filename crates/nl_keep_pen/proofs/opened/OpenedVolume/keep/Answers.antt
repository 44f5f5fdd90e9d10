use Rattle.nl_keep_pen.proofs.Images.{stored_closes}
use Rattle.nl_keep_pen.proofs.opened.OpenedVolume.keep.Goals as goal

pub invariant_of-result : goal.invariant_of-result
invariant_of-result c = record {
  rest =
      stored_closes c.args.moment c.in_ok-stored.stored.number c.args.wanted.now c.args.self.volume.pen
      c.in_ok-stored.volume.pen c.means_a_world.ensures c.args.self.rest c.in_ok-stored.ensures.stored;
}

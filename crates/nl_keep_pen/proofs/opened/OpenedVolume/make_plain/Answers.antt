use Rattle.nl_keep_pen.proofs.Images.{plained_closes}
use Rattle.nl_keep_pen.proofs.opened.OpenedVolume.make_plain.Goals as goal

pub invariant_of-result : goal.invariant_of-result
invariant_of-result c = record {
  rest =
      plained_closes c.args.numbers.now c.args.self.volume.pen c.make_all_plain.new.volume.pen
      c.means_a_world.ensures c.args.self.rest c.in_ok-make_all_plain.ensures.plain;
}

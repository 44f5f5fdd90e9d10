use Rattle.std.proofs.Common.{inr}
use Rattle.std.proofs.lemmas.Result.{IfErr-weaker, IfOk-weaker}
use Rattle.nl_keep_pen.specs.Facts.Closing.{closed_to}
use Rattle.nl_keep_pen.specs.Images.{ForgetsAndTidies}
use Rattle.nl_keep_pen.proofs.Images.{forgotten_closes}
use Rattle.nl_keep_pen.proofs.opened.OpenedVolume.forget.Goals as goal

pub returns-clause-forgets : goal.returns-clause-forgets
returns-clause-forgets c =
    IfOk-weaker c.close.result _ _ (λ next closed image of.
    closed_to c.pens_of_one_image_mean_one_world.ensures (ForgetsAndTidies c.args.moment c.args.numbers.now) image
    next.items c.args.self.volume.pen c.in_ok-volume.volume.pen of c.in_ok-volume.ensures.forgets closed)
    c.close.ensures.closed

pub returns-clause-refused : goal.returns-clause-refused
returns-clause-refused c =
    IfErr-weaker c.close.result _ _ (λ e why w means. inr why) c.close.ensures.refused

pub invariant_of-close : goal.invariant_of-close
invariant_of-close c = record {
  rest =
      forgotten_closes c.forgets_keep_others.ensures.alone c.args.moment c.args.numbers.now c.args.self.volume.pen
      c.in_ok-volume.volume.pen c.means_a_world.ensures c.args.self.rest c.in_ok-volume.ensures.forgets;
}

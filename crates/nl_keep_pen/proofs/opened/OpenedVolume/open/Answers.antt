use Rattle.nl_image.specs.Parts.{with_present_mark}
use Rattle.nl_keep_pen.proofs.Images.{at_rest, image_means}
use Rattle.nl_keep_pen.proofs.opened.OpenedVolume.open.Goals as goal

pub returns-clause-opened : goal.returns-clause-opened
returns-clause-opened c = record {
  pen = c.in_ok-pen.ensures.pen;
  is_image = c.in_ok-pen.ensures.image;
  closed = at_rest c.in_ok-pen.pen c.in_ok-pen.ensures.rest;
}

pub returns-clause-means : goal.returns-clause-means
returns-clause-means c _ =
    let pen = c.in_ok-pen.ensures.pen in (
      pen.world.0,
      image_means c.in_ok-pen.pen (with_present_mark c.args.image.now) pen.world.0 pen.world.1 pen
          (at_rest c.in_ok-pen.pen c.in_ok-pen.ensures.rest) c.in_ok-pen.ensures.image,
    )

use Rattle.std.proofs.lemmas.Result.{IfOk-weaker}
use Rattle.nl_types.specs.Plain.Worlds.{formatted}
use Rattle.nl_keep_pen.proofs.Images.{format_closes, image_means}
use Rattle.nl_keep_pen.proofs.opened.format_image.Goals as goal

pub closed-requires : goal.closed-requires
closed-requires c = format_closes c.in_ok-pen.pen _ c.in_ok-pen.ensures.means

pub returns-clause-image : goal.returns-clause-image
returns-clause-image c =
    IfOk-weaker c.closed.result _ _ (λ image is.
    image_means c.in_ok-pen.pen image.items (formatted c.args.moment) c.in_ok-pen.ensures.means
    c.closed.ensures.sound (format_closes c.in_ok-pen.pen _ c.in_ok-pen.ensures.means) is)
    c.closed.ensures.image

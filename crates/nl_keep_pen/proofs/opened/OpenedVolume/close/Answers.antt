use Rattle.std.proofs.lemmas.Result.{IfOk-weaker}
use Rattle.nl_keep_pen.proofs.opened.OpenedVolume.close.Goals as goal

pub returns-clause-closed : goal.returns-clause-closed
returns-clause-closed c =
    IfOk-weaker c.closed.result _ _ (λ image is. record {
      pen = c.closed.ensures.sound;
      is_image = is;
      closed = c.args.self.rest;
    }) c.closed.ensures.image

use Rattle.std.proofs.Common.{refl}
use Rattle.nl_keep_pen.specs.Images.{ForgetsInImage}
use Rattle.nl_backups.proofs.Saved.{becomes}
use Rattle.nl_backups.proofs.forgetting.forget.Goals as goal

pub returns-clause-done : goal.returns-clause-done
returns-clause-done g c =
    becomes (ForgetsInImage c.args.moment c.in_ok-done.done.numbers.items) _ _ c.in_ok-image.image.items
    c.as_slice.result.now c.in_ok-done.next.items c.as_slice-2.result.now c.in_ok-image.ensures.read
    c.as_slice.ensures.value c.in_ok-done.ensures.forgets c.as_slice-2.ensures.value
    (c.in_ok-save.ensures.saved refl)

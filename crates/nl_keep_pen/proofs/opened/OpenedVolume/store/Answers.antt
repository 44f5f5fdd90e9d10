use Rattle.std.proofs.lemmas.Result.{err_from_is_err_and}
use Rattle.nl_keep_pen.specs.Facts.Closing.{closed_to}
use Rattle.nl_keep_pen.specs.Images.{StoresPrepared}
use Rattle.nl_keep_pen.proofs.Images.{failed, has_current}
use Rattle.nl_keep_pen.proofs.opened.OpenedVolume.store.Goals as goal

pub returns-clause-earlier : goal.returns-clause-earlier
returns-clause-earlier c image of =
    has_current c.pens_of_one_image_mean_one_world.ensures image c.args.self.volume.pen of
    c.in_ok-stored.stored.earlier c.in_ok-stored.ensures.earlier

pub returns-clause-stored : goal.returns-clause-stored
returns-clause-stored c image of =
    closed_to c.pens_of_one_image_mean_one_world.ensures
    (StoresPrepared c.args.moment c.in_ok-stored.stored.number c.args.wanted.now) image c.in_ok-next.next.items
    c.args.self.volume.pen c.in_ok-stored.volume.volume.pen of c.in_ok-stored.ensures.stored
    c.in_ok-next.ensures.closed

pub returns-in_err-next-clause-refused : goal.returns-in_err-next-clause-refused
returns-in_err-next-clause-refused c =
    let p = err_from_is_err_and c.from_residual-in_err-next.result c.from_residual-in_err-next.ensures.1 in
    rw p.1 (λ w means.
    failed c.args.moment c.args.wanted.now w c.in_err-next.field-0.0 p.0 p.2 c.in_err-next.ensures.refused)

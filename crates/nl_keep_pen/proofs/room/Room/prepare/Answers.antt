use Rattle.std.proofs.lemmas.Result.{on_ok_weaker}
use Rattle.nl_commit.specs.Layout.{MeansWorld}
use Rattle.nl_keep.specs.Facts.Tidied.{leads_on}
use Rattle.nl_keep_pen.proofs.room.Room.prepare.Goals as goal

pub returns-clause-tidies : goal.returns-clause-tidies
returns-clause-tidies g c =
    let moment = c.args.self.now.moment in
    let old = c.args.volume.now.pen in
    let mid = c.clean_again.new.volume.pen in
    let new = c.make_room.new.pen in
    on_ok_weaker c.make_room.result (λ tidies.
    leads_on moment (MeansWorld old) (MeansWorld mid) (MeansWorld new) c.in_ok-clean_again.ensures.tidies
    (tidies moment))
    c.make_room.ensures.tidies

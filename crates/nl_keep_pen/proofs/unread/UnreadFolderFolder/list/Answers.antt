use Rattle.std.proofs.lemmas.Result.{IfErr-weaker, IfOk-weaker}
use Rattle.nl_keep_pen.proofs.UnreadAnswers.{listed_unread, listing_refused, stays_unread}
use Rattle.nl_keep_pen.proofs.unread.UnreadFolderFolder.list.Goals as goal

pub returns-clause-listed : goal.returns-clause-listed
returns-clause-listed g c =
    let folder = c.args.self.now.folder in
    IfOk-weaker c.list.result _ _
    (listed_unread folder.number c.args.path.now (g.V.Volume.means folder.volume.now))
    c.list.ensures.listed

pub returns-clause-refused : goal.returns-clause-refused
returns-clause-refused g c =
    let folder = c.args.self.now.folder in
    IfErr-weaker c.list.result _ _
    (listing_refused folder.number c.args.path.now (g.V.Volume.means folder.volume.now))
    c.list.ensures.refused

pub returns-clause-stays : goal.returns-clause-stays
returns-clause-stays g c =
    let folder = c.args.self.now.folder in
    let left = c.list.new.self in
    stays_unread folder.number left.number (g.V.Volume.means folder.volume.now)
    (g.V.Volume.means left.volume.now) c.list.ensures.stays

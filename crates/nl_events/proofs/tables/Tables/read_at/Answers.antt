use Rattle.std.proofs.Common.{ap, ◌∙◌, sym}
use Rattle.nl_cpfile.specs.Tables.{kept_at}
use Rattle.nl_commit.specs.Tables.{RoomyLists}
use Rattle.nl_commit.specs.Facts.Events.{copy_read-answers, gone_copy_read-answers}
use Rattle.nl_events.proofs.tables.Tables.read_at.Goals as goal

pub returns-in_default : goal.returns-in_default
returns-in_default g c =
    let inside = ap (λ (r : RoomyLists). kept_at c.args.number r.lists.table) (sym c.self.view_is) in
    gone_copy_read-answers (g.V.VRead.pages c.args.store.now) c.args.self.now.lists c.args.number c.args.ask.now
    (inside ∙ sym c.in_default.ensures)

pub returns : goal.returns
returns g c =
    let inside = ap (λ (r : RoomyLists). kept_at c.args.number r.lists.table) (sym c.self.view_is) in
    copy_read-answers (g.V.VRead.pages c.args.store.now) c.args.self.now.lists c.args.number
    c.in-Some.checkpoint.now c.args.ask.now c.answer.result
    (inside ∙ sym c.in-Some.ensures)
    (λ held tree holds means. c.answer.ensures held tree (c.new.ensures held holds) means)

use Rattle.std.proofs.Common.{◌≡◌, ap, ◌∙◌, subst, sym}
use Rattle.std.specs.Prelude.{Ok, Err}
use Rattle.std.proofs.lemmas.Result.{err_from_is_err_and}
use Rattle.nl_types.specs.declared.event.Event.TheVariants.{ChangeMode}
use Rattle.nl_types.specs.declared.reply.Answer.TheVariants as answer
use Rattle.nl_types.specs.Plain.Rows.{mode_change}
use Rattle.nl_cpfile.specs.Tables as tables
use Rattle.nl_events.specs.Inside.{lists_of}
use Rattle.nl_commit.specs.Means.{StepsWorldsOver}
use Rattle.nl_commit.specs.Tables.{RoomyLists}
use Rattle.nl_commit.specs.Volume.{Lists, with_checkpoint_mode}
use Rattle.nl_events.specs.Facts.CheckpointEvents.{held_mode-follows, mode-follows, no_mode-follows}
use Rattle.nl_events.proofs.tables.Tables.change_mode.Goals as goal

pub returns-then-is_held-clause-follows : goal.returns-then-is_held-clause-follows
returns-then-is_held-clause-follows c = λ pages.
    held_mode-follows pages c.args.self.now.lists c.args.number c.args.mode
    (sym c.is_held.ensures ∙ c.if-is_held.true)

pub returns-in_err-set_mode-clause-follows : goal.returns-in_err-set_mode-clause-follows
returns-in_err-set_mode-clause-follows c = λ pages.
    let p = err_from_is_err_and c.from_residual.result c.from_residual.ensures.1 in
    let inside = lists_of c.self.inside in
    let before : inside ≡ c.args.self.now.lists = ap (λ (r : RoomyLists). r.lists) c.self.view_is in
    let done = ChangeMode c.args.number c.args.mode in
    let e = c.in_err-set_mode.field-0.0 in
    let refused : StepsWorldsOver pages inside done (Err e) inside =
    no_mode-follows pages inside c.args.number c.args.mode e c.in_err-set_mode.ensures.judged in
    let follows : StepsWorldsOver pages c.args.self.now.lists done (Err e)
    (record inside { table = c.set_mode.new.self.table }) =
    subst (λ (t : tables.RoomyTable).
    StepsWorldsOver pages c.args.self.now.lists done (Err e) (record inside { table = t.table }))
    (sym c.in_err-set_mode.ensures.same)
    (subst (λ (lists : Lists). StepsWorldsOver pages lists done (Err e) inside) before refused) in
    λ cleaned w m. rw (p.1, p.2) (follows cleaned w m)

pub returns-clause-changed : goal.returns-clause-changed
returns-clause-changed c =
    ap (λ (t : tables.Table). record (lists_of c.self.inside) { table = t }) c.in_ok-set_mode.ensures.changed
    ∙ ap (λ (r : RoomyLists). with_checkpoint_mode c.args.number c.args.mode r.lists) c.self.view_is

pub returns-clause-follows : goal.returns-clause-follows
returns-clause-follows c = λ pages.
    let old = c.args.self.now.lists in
    let done = ChangeMode c.args.number c.args.mode in
    subst (λ (l : Lists). StepsWorldsOver pages old done (Ok answer.Done) l) (sym (returns-clause-changed c))
    (mode-follows pages old c.args.number c.args.mode (sym c.is_held.ensures ∙ c.if-is_held.false)
    (c.in_ok-set_mode.ensures.judged
    ∙ ap (λ (r : RoomyLists). mode_change c.args.number (tables.rows r.lists.table)) c.self.view_is))

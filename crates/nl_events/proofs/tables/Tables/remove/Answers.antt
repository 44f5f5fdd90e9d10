use Rattle.std.proofs.Common.{◌≡◌, [], ◌∷◌, ap, ◌∙◌, subst, sym}
use Rattle.std.specs.Prelude.{Ok, Err}
use Rattle.std.proofs.lemmas.Result.{err_from_is_err_and}
use Rattle.nl_types.specs.declared.event.Event.TheVariants.{Remove}
use Rattle.nl_types.specs.declared.reply.Answer.TheVariants as answer
use Rattle.nl_types.specs.Plain.Rows.{removal}
use Rattle.nl_cpfile.specs.Tables as tables
use Rattle.nl_events.specs.Inside.{lists_of}
use Rattle.nl_commit.specs.Means.{StepsWorldsOver}
use Rattle.nl_commit.specs.Tables.{RoomyLists}
use Rattle.nl_commit.specs.Volume.{Lists, without_checkpoints}
use Rattle.nl_events.specs.Facts.CheckpointEvents.{no_removal-follows, removal-follows, removal-stays}
use Rattle.nl_events.proofs.tables.Tables.remove.Goals as goal

pub returns-in_err-remove-clause-follows : goal.returns-in_err-remove-clause-follows
returns-in_err-remove-clause-follows c = λ pages.
    let p = err_from_is_err_and c.from_residual.result c.from_residual.ensures.1 in
    let inside = lists_of c.self.inside in
    let before : inside ≡ c.args.self.now.lists = ap (λ (r : RoomyLists). r.lists) c.self.view_is in
    let e = c.in_err-remove.field-0.0 in
    let refused : StepsWorldsOver pages inside (Remove c.args.number) (Err e) inside =
    no_removal-follows pages inside c.args.number e c.in_err-remove.ensures.judged in
    let follows : StepsWorldsOver pages c.args.self.now.lists (Remove c.args.number) (Err e)
    (record inside { table = c.remove.new.self.table }) =
    subst (λ (t : tables.RoomyTable).
    StepsWorldsOver pages c.args.self.now.lists (Remove c.args.number) (Err e)
    (record inside { table = t.table }))
    (sym c.in_err-remove.ensures.same)
    (subst (λ (lists : Lists). StepsWorldsOver pages lists (Remove c.args.number) (Err e) inside) before
    refused) in
    λ cleaned w m. rw (p.1, p.2) (follows cleaned w m)

pub returns-clause-removed : goal.returns-clause-removed
returns-clause-removed c =
    let latest = c.args.self.now.lists.table.latest.number in
    let judged = c.in_ok-remove.ensures.judged
    ∙ ap (λ (r : RoomyLists). removal c.args.number r.lists.table.latest.number (tables.rows r.lists.table))
    c.self.view_is in
    record {
      stays = removal-stays latest c.args.number (tables.rows c.args.self.now.lists.table) judged;
      lists =
          ap (λ (t : tables.Table). record (lists_of c.self.inside) { table = t })
          c.in_ok-remove.ensures.removed
          ∙ ap (λ (r : RoomyLists). without_checkpoints (c.args.number ∷ []) r.lists) c.self.view_is;
    }

pub returns-clause-follows : goal.returns-clause-follows
returns-clause-follows c = λ pages.
    let old = c.args.self.now.lists in
    subst (λ (l : Lists). StepsWorldsOver pages old (Remove c.args.number) (Ok answer.Done) l)
    (sym (returns-clause-removed c).lists)
    (removal-follows pages old c.args.number (c.in_ok-remove.ensures.judged
    ∙ ap (λ (r : RoomyLists). removal c.args.number r.lists.table.latest.number (tables.rows r.lists.table))
    c.self.view_is))

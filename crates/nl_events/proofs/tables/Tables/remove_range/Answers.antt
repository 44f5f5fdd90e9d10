use Rattle.std.proofs.Common.{◌≡◌, ap, ◌∙◌, subst, sym}
use Rattle.std.specs.Prelude.{Ok, Err}
use Rattle.std.proofs.lemmas.Result.{err_from_is_err_and}
use Rattle.nl_types.specs.declared.event.Event.TheVariants.{RemoveRange}
use Rattle.nl_types.specs.declared.reply.Answer.TheVariants as answer
use Rattle.nl_types.specs.Plain.Rows.{range_removal}
use Rattle.nl_cpfile.specs.Tables as tables
use Rattle.nl_events.specs.Inside.{lists_of}
use Rattle.nl_commit.specs.Means.{StepsWorldsOver}
use Rattle.nl_commit.specs.Tables.{RoomyLists}
use Rattle.nl_commit.specs.Volume.{Lists, without_checkpoints}
use Rattle.nl_events.specs.Facts.CheckpointEvents.{no_range_removal-follows, range_removal-follows, range-stays}
use Rattle.nl_events.proofs.tables.Tables.remove_range.Goals as goal

pub returns-in_err-range-clause-follows : goal.returns-in_err-range-clause-follows
returns-in_err-range-clause-follows c = λ pages.
    let p = err_from_is_err_and c.from_residual.result c.from_residual.ensures.1 in
    let inside = lists_of c.self.inside in
    let before : inside ≡ c.args.self.now.lists = ap (λ (r : RoomyLists). r.lists) c.self.view_is in
    let done = RemoveRange c.args.first c.args.last in
    let e = c.in_err-range.field-0.0 in
    let refused : StepsWorldsOver pages inside done (Err e) inside =
    no_range_removal-follows pages inside c.args.first c.args.last e
    (λ other. c.in_err-range.ensures.judged (λ same. other cc)) in
    let follows : StepsWorldsOver pages c.args.self.now.lists done (Err e)
    (record inside { table = c.remove_range.new.self.table }) =
    subst (λ (t : tables.RoomyTable).
    StepsWorldsOver pages c.args.self.now.lists done (Err e) (record inside { table = t.table }))
    (sym c.in_err-range.ensures.same)
    (subst (λ (lists : Lists). StepsWorldsOver pages lists done (Err e) inside) before refused) in
    λ cleaned w m. rw (p.1, p.2) (follows cleaned w m)

pub returns-clause-removed : goal.returns-clause-removed
returns-clause-removed c =
    let old = c.args.self.now.lists in
    let judged = c.in_ok-range.ensures.judged (λ same. cc)
    ∙ ap (λ (r : RoomyLists).
    range_removal c.args.first c.args.last r.lists.table.latest.number (tables.rows r.lists.table))
    c.self.view_is in
    record {
      judged = sym judged;
      taken = record {
        stays =
            range-stays old.table.latest.number c.args.first c.args.last
            (tables.rows old.table) c.in_ok-range.range judged;
        lists =
            ap (λ (t : tables.Table). record (lists_of c.self.inside) { table = t })
            c.in_ok-range.ensures.removed
            ∙ ap (λ (r : RoomyLists). without_checkpoints c.in_ok-range.range.removed r.lists) c.self.view_is;
      };
    }

pub returns-clause-follows : goal.returns-clause-follows
returns-clause-follows c = λ pages.
    let old = c.args.self.now.lists in
    let range = c.in_ok-range.range in
    subst (λ (l : Lists).
    StepsWorldsOver pages old (RemoveRange c.args.first c.args.last) (Ok (answer.Removed range)) l)
    (sym (returns-clause-removed c).taken.lists)
    (range_removal-follows pages old c.args.first c.args.last range (c.in_ok-range.ensures.judged (λ same. cc)
    ∙ ap (λ (r : RoomyLists).
    range_removal c.args.first c.args.last r.lists.table.latest.number (tables.rows r.lists.table))
    c.self.view_is))

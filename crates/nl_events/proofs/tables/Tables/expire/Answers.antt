use Rattle.std.proofs.Common.{◌≡◌, ap, ◌∙◌, subst, sym}
use Rattle.std.specs.Prelude.{Ok, Err}
use Rattle.std.proofs.lemmas.Result.{err_from_is_err_and}
use Rattle.nl_types.specs.declared.event.Event.TheVariants.{Expire}
use Rattle.nl_types.specs.declared.reply.Answer.TheVariants as answer
use Rattle.nl_types.specs.Plain.NumberLists.{is_one_of}
use Rattle.nl_cpfile.specs.Tables as tables
use Rattle.nl_events.specs.Inside.{lists_of}
use Rattle.nl_commit.specs.Means.{StepsWorldsOver}
use Rattle.nl_commit.specs.Tables.{RoomyLists}
use Rattle.nl_commit.specs.Volume.{Lists, gone_from, without_checkpoints}
use Rattle.nl_events.specs.Facts.CheckpointEvents.{expiry-follows, expiry-stays, no_expiry-follows}
use Rattle.nl_events.proofs.tables.Tables.expire.Goals as goal

pub returns-in_err-gone-clause-follows : goal.returns-in_err-gone-clause-follows
returns-in_err-gone-clause-follows c = λ pages.
    let p = err_from_is_err_and c.from_residual.result c.from_residual.ensures.1 in
    let inside = lists_of c.self.inside in
    let before : inside ≡ c.args.self.now.lists = ap (λ (r : RoomyLists). r.lists) c.self.view_is in
    let done = Expire c.args.now c.args.period in
    let e = c.in_err-gone.field-0.0 in
    let refused : StepsWorldsOver pages inside done (Err e) inside =
    subst (λ f. StepsWorldsOver pages inside done (Err f) inside) (sym c.in_err-gone.ensures.refused)
    (no_expiry-follows pages inside c.args.now c.args.period) in
    let follows : StepsWorldsOver pages c.args.self.now.lists done (Err e)
    (record inside { table = c.expire.new.kept.table }) =
    subst (λ (t : tables.RoomyTable).
    StepsWorldsOver pages c.args.self.now.lists done (Err e) (record inside { table = t.table }))
    (sym c.in_err-gone.ensures.same)
    (subst (λ (lists : Lists). StepsWorldsOver pages lists done (Err e) inside) before refused) in
    λ cleaned w m. rw (p.1, p.2) (follows cleaned w m)

pub returns-clause-expired : goal.returns-clause-expired
returns-clause-expired c =
    let old = c.args.self.now.lists in
    let gone = c.in_ok-gone.gone in
    let is =
    c.in_ok-gone.ensures.gone
    ∙ ap (λ (r : RoomyLists). gone_from r.lists.table c.args.now c.args.period) c.self.view_is in
    record {
      expired = is;
      taken = record {
        stays =
            ap (λ ns. is_one_of ns old.table.latest.number) is ∙ expiry-stays old c.args.now c.args.period;
        lists =
            ap (λ (t : tables.Table). record (lists_of c.self.inside) { table = t })
            c.in_ok-gone.ensures.removed
            ∙ ap (λ (r : RoomyLists). without_checkpoints gone r.lists) c.self.view_is;
      };
    }

pub returns-clause-follows : goal.returns-clause-follows
returns-clause-follows c = λ pages.
    let old = c.args.self.now.lists in
    let gone = c.in_ok-gone.gone in
    let done = returns-clause-expired c in
    subst (λ (l : Lists).
    StepsWorldsOver pages old (Expire c.args.now c.args.period) (Ok (answer.Expired gone)) l)
    (sym done.taken.lists)
    (expiry-follows pages old c.args.now c.args.period gone done.expired)

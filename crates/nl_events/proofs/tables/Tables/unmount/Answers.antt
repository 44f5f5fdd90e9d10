use Rattle.std.proofs.Common.{◌≡◌, Bool, ap, ◌∙◌, not, subst, sym}
use Rattle.std.specs.Prelude.{Ok, Option, ℕ}
use Rattle.std.specs.Option.{is_some}
use Rattle.nl_types.specs.declared.event.Event.TheVariants.{Unmount}
use Rattle.nl_types.specs.declared.reply.Answer.TheVariants as answer
use Rattle.nl_events.specs.Inside.{lists_of}
use Rattle.nl_commit.specs.Means.{StepsWorldsOver}
use Rattle.nl_commit.specs.MountTables.{MountTable}
use Rattle.nl_commit.specs.Tables.{RoomyLists}
use Rattle.nl_commit.specs.Volume.{Lists, without_mount}
use Rattle.nl_events.specs.Facts.CheckpointEvents.{has_mount, no_unmount-follows, unmount-follows}
use Rattle.nl_events.proofs.tables.Tables.unmount.Goals as goal

-- what is found in the fields is found in the lists
has_inside : (m : ℕ) (inside now : RoomyLists) (found : Option ℕ) (none : Bool) → inside ≡ now
    → is_some found ≡ has_mount inside.lists m
    → is_some found ≡ not none → has_mount now.lists m ≡ not none
has_inside m inside now found none same is tested =
    sym (ap (λ (r : RoomyLists). has_mount r.lists m) same) ∙ (sym is ∙ tested)

pub returns-then-is_none-clause-follows : goal.returns-then-is_none-clause-follows
returns-then-is_none-clause-follows c = λ pages.
    no_unmount-follows pages c.args.self.now.lists c.args.mount
    (has_inside c.args.mount _ _ c.find.result c.is_none.result c.self.view_is
    (ap (λ (o : Option ℕ). is_some o) c.find.ensures) c.is_none.ensures
    ∙ ap not c.if-is_none.true)

pub returns-clause-gone : goal.returns-clause-gone
returns-clause-gone c =
    let inside = lists_of c.self.inside in
    ap (λ (t : MountTable). (let l : Lists = record inside { mounts = t.mounts; given = t.given } in l))
    c.take_out.ensures
    ∙ ap (λ (r : RoomyLists). without_mount c.args.mount r.lists) c.self.view_is

pub returns-clause-follows : goal.returns-clause-follows
returns-clause-follows c = λ pages.
    let old = c.args.self.now.lists in
    subst (λ (l : Lists). StepsWorldsOver pages old (Unmount c.args.mount) (Ok answer.Done) l)
    (sym (returns-clause-gone c))
    (unmount-follows pages old c.args.mount
    (has_inside c.args.mount _ _ c.find.result c.is_none.result c.self.view_is
    (ap (λ (o : Option ℕ). is_some o) c.find.ensures) c.is_none.ensures
    ∙ ap not c.if-is_none.false))

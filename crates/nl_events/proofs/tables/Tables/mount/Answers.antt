use Rattle.std.proofs.Common.{◌≡◌, ℕ, ◌+◌, [], ◌∷◌, ◌++◌, sym, ap, ◌∙◌, subst, arith}
use Rattle.std.specs.Prelude.{Ok, Option, None, Some}
use Rattle.nl_types.specs.declared.event.Event.TheVariants.{Mount}
use Rattle.nl_types.specs.declared.reply.Answer.TheVariants as answer
use Rattle.nl_cpfile.specs.Tables.{kept_at}
use Rattle.nl_cpfile.specs.declared.checkpoint.Checkpoint.{Checkpoint}
use Rattle.nl_events.specs.Inside.{lists_of}
use Rattle.nl_commit.specs.Means.{StepsWorldsOver}
use Rattle.nl_commit.specs.MountTables.{MountTable}
use Rattle.nl_commit.specs.Tables.{RoomyLists}
use Rattle.nl_commit.specs.Volume.{Lists, with_mount}
use Rattle.nl_commit.specs.Facts.Events.{mount-follows, no_mount-follows, plain_mount-follows, spent_mount-follows}
use Rattle.nl_events.proofs.tables.Tables.mount.Goals as goal

-- what is found in the fields is found in the lists
found_inside : (n : ℕ) (inside now : RoomyLists) (found : Option Checkpoint) → inside ≡ now
    → found ≡ kept_at n inside.lists.table
    → kept_at n now.lists.table ≡ found
found_inside n inside now found same is = ap (λ (r : RoomyLists). kept_at n r.lists.table) (sym same) ∙ sym is

pub returns-in-None-clause-follows : goal.returns-in-None-clause-follows
returns-in-None-clause-follows c = λ pages.
    no_mount-follows pages c.args.self.now.lists c.args.number
    (found_inside c.args.number _ _ None c.self.view_is c.in-None.ensures)

pub returns-in-Plain-clause-follows : goal.returns-in-Plain-clause-follows
returns-in-Plain-clause-follows c = λ pages.
    plain_mount-follows pages c.args.self.now.lists c.args.number c.in-Some.checkpoint.now
    (found_inside c.args.number _ _ (Some c.in-Some.checkpoint.now) c.self.view_is c.in-Some.ensures)
    c.in-Plain.is

pub returns-then-given-clause-follows : goal.returns-then-given-clause-follows
returns-then-given-clause-follows c = λ pages.
    let given = c.given-given.ensures ∙ ap (λ (r : RoomyLists). r.lists.given) c.self.view_is in
    spent_mount-follows pages c.args.self.now.lists c.args.number c.in-Some.checkpoint.now
    (found_inside c.args.number _ _ (Some c.in-Some.checkpoint.now) c.self.view_is c.in-Some.ensures)
    c.in-Snapshot.is
    (omega (arith, given, c.if-given.true))

pub returns-clause-mounted : goal.returns-clause-mounted
returns-clause-mounted c =
    let inside = lists_of c.self.inside in
    let added : ℕ → MountTable = λ k. record {
      mounts = inside.mounts ++ record { number = k; checkpoint = c.args.number } ∷ [];
      given = k;
    } in
    let number = c.new-mount.ensures ∙ ap (λ k. k + 1) c.given-given.ensures in
    ap (λ (t : MountTable). (let l : Lists = record inside { mounts = t.mounts; given = t.given } in l))
    (c.in_ok-add.ensures ∙ ap added number)
    ∙ ap (λ (r : RoomyLists). with_mount c.args.number r.lists) c.self.view_is

pub returns-clause-follows : goal.returns-clause-follows
returns-clause-follows c = λ pages.
    let old = c.args.self.now.lists in
    let n = c.args.number in
    let given = c.given-given.ensures ∙ ap (λ (r : RoomyLists). r.lists.given) c.self.view_is in
    let number = c.new-mount.ensures ∙ ap (λ k. k + 1) given in
    subst (λ (l : Lists). StepsWorldsOver pages old (Mount n) (Ok (answer.Mount c.new-mount.result)) l)
    (sym (returns-clause-mounted c))
    (subst (λ k. StepsWorldsOver pages old (Mount n) (Ok (answer.Mount k)) (with_mount n old)) (sym number)
    (mount-follows pages old n c.in-Some.checkpoint.now
    (found_inside c.args.number _ _ (Some c.in-Some.checkpoint.now) c.self.view_is c.in-Some.ensures)
    c.in-Snapshot.is
    (omega (arith, given, c.if-given.false))))

use Rattle.std.proofs.Common.{◌≡◌, ap, subst, sym, ◌∙◌}
use Rattle.nl_types.specs.declared.event.Event.TheVariants.{Read}
use Rattle.nl_tree.specs.Became.{holding_over}
use Rattle.nl_layout.specs.Root.{root_of}
use Rattle.nl_layout.specs.declared.root.Root.{Root}
use Rattle.nl_files.specs.CheckpointTrees.{HoldsTree}
use Rattle.nl_events.specs.Inside.{lists_of}
use Rattle.nl_commit.specs.Means.{StepsWorldsOver}
use Rattle.nl_commit.specs.Tables.{RoomyLists}
use Rattle.nl_commit.specs.Volume.{Lists, latest_root}
use Rattle.nl_commit.specs.Facts.Events.{read-follows}
use Rattle.nl_events.proofs.tables.Tables.read.Goals as goal

pub returns : goal.returns
returns g c =
    let pages = g.V.VRead.pages c.args.store.now in
    let inside = lists_of c.self.inside in
    let before : inside ≡ c.args.self.now.lists = ap (λ (r : RoomyLists). r.lists) c.self.view_is in
    let root : c.base_root.result ≡ latest_root inside = c.base_root.ensures ∙ ap latest_root (sym before) in
    subst (λ (lists : Lists). StepsWorldsOver pages lists (Read c.args.ask.now) c.answer.result lists) before
    (read-follows pages inside c.args.ask.now c.answer.result
    (λ base tree holds stands. c.answer.ensures (holding_over inside.current.became base) tree
    (c.view.ensures base
    (c.new-base.ensures base (subst (λ (r : Root). HoldsTree pages (root_of r) base) (sym root) holds))
    stands.sound)
    (record { sound = stands.sound; means = stands.stands.means })))

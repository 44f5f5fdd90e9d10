use Rattle.std.proofs.Common.{◌≡◌, ap, ◌∙◌, subst, sym}
use Rattle.std.specs.Prelude.{Bool, Err, Ok, ◌||◌}
use Rattle.std.proofs.lemmas.Result.{err_from_is_err_and}
use Rattle.nl_types.specs.Plain.Calls as calls
use Rattle.nl_types.specs.declared.event.Event.TheVariants.{Apply}
use Rattle.nl_tree.specs.Became.{Current}
use Rattle.nl_layout.specs.Root.{root_of}
use Rattle.nl_layout.specs.declared.root.Root.{Root}
use Rattle.nl_tree.specs.Held.{Holding}
use Rattle.nl_files.specs.CheckpointTrees.{HoldsTree}
use Rattle.nl_commit.specs.Changes.{HasChanged}
use Rattle.nl_events.specs.Inside.{lists_of}
use Rattle.nl_commit.specs.Means.{StepsWorldsOver, Means}
use Rattle.nl_commit.specs.Tables.{RoomyLists}
use Rattle.nl_commit.specs.Volume.{Lists, latest_root}
use Rattle.nl_commit.specs.Facts.Events.{change-follows, refused_change-follows}
use Rattle.nl_events.proofs.tables.Tables.change.Goals as goal
use Rattle.nl_events.proofs.tables.Tables.change.Goals.{then-self, else-self}

pub returns-in_err-answer-clause-follows : goal.returns-in_err-answer-clause-follows
returns-in_err-answer-clause-follows g c =
    let p = err_from_is_err_and c.from_residual.result c.from_residual.ensures.1 in
    let pages = g.V.VRead.pages c.args.store.now in
    let inside = lists_of c.self.inside in
    let before : inside ≡ c.args.self.now.lists = ap (λ (r : RoomyLists). r.lists) c.self.view_is in
    let root : c.base_root.result ≡ latest_root inside = c.base_root.ensures ∙ ap latest_root (sym before) in
    let over : (base : Holding) → HoldsTree pages (root_of (latest_root inside)) base
    → HoldsTree pages (root_of c.base_root.result) base =
    λ base holds. subst (λ (r : Root). HoldsTree pages (root_of r) base) (sym root) holds in
    let call = c.args.change.now in
    let e = c.in_err-answer.field-0.0 in
    let refused : StepsWorldsOver pages inside (Apply call) (Err e) inside =
    refused_change-follows pages inside call e
    (λ base tree holds stands.
    c.in_err-answer.ensures.done base tree (c.new-base.ensures base (over base holds)) stands) in
    let follows : StepsWorldsOver pages c.args.self.now.lists (Apply call) (Err e)
    (record inside { current = c.change.new.self }) =
    subst (λ (now : Current).
    StepsWorldsOver pages c.args.self.now.lists (Apply call) (Err e) (record inside { current = now }))
    (sym c.in_err-answer.ensures.same)
    (subst (λ (lists : Lists). StepsWorldsOver pages lists (Apply call) (Err e) inside) before refused) in
    λ cleaned w m. rw (p.1, p.2) (follows cleaned w m)

pub returns-clause-follows : goal.returns-clause-follows
returns-clause-follows g c =
    let pages = g.V.VRead.pages c.args.store.now in
    let inside = lists_of c.self.inside in
    let before : inside ≡ c.args.self.now.lists = ap (λ (r : RoomyLists). r.lists) c.self.view_is in
    let root : c.base_root.result ≡ latest_root inside = c.base_root.ensures ∙ ap latest_root (sym before) in
    let over : (base : Holding) → HoldsTree pages (root_of (latest_root inside)) base
    → HoldsTree pages (root_of c.base_root.result) base =
    λ base holds. subst (λ (r : Root). HoldsTree pages (root_of r) base) (sym root) holds in
    let call = c.args.change.now in
    let now = c.change.new.self in
    let dirty : c.if-self.self ≡ inside.dirty || calls.is_dirtying call = elim c.if-self.branch [
      | then-self w ↦
          w.self-is ∙ (w.if-self.true ∙ ap (λ (b : Bool). b || calls.is_dirtying call) (sym w.if-self.true))
      | else-self w ↦
          w.self-is
          ∙ (w.is_dirtying-self-inside.ensures
          ∙ ap (λ (b : Bool). b || calls.is_dirtying call) (sym w.if-self.false))
    ] in
    subst (λ (lists : Lists).
    StepsWorldsOver pages lists (Apply call) (Ok c.in_ok-answer.answer)
    (record inside { current = now; dirty = c.if-self.self }))
    before
    (subst (λ (b : Bool).
    StepsWorldsOver pages inside (Apply call) (Ok c.in_ok-answer.answer)
    (record inside { current = now; dirty = b }))
    (sym dirty)
    (change-follows pages inside call c.in_ok-answer.answer now
    (λ base tree holds stands.
    c.in_ok-answer.ensures.done base tree (c.new-base.ensures base (over base holds)) stands)))

pub returns-clause-changed : goal.returns-clause-changed
returns-clause-changed g c =
    let pages = g.V.VRead.pages c.args.store.now in
    let inside = lists_of c.self.inside in
    let before : inside ≡ c.args.self.now.lists = ap (λ (r : RoomyLists). r.lists) c.self.view_is in
    let root : c.base_root.result ≡ latest_root inside = c.base_root.ensures ∙ ap latest_root (sym before) in
    let over : (base : Holding) → HoldsTree pages (root_of (latest_root inside)) base
    → HoldsTree pages (root_of c.base_root.result) base =
    λ base holds. subst (λ (r : Root). HoldsTree pages (root_of r) base) (sym root) holds in
    let call = c.args.change.now in
    let new : Lists = record inside { current = c.change.new.self; dirty = c.if-self.self } in
    let m : Means pages inside c.requires.0 =
    subst (λ (lists : Lists). Means pages lists c.requires.0) (sym before) c.requires.1 in
    let changed : HasChanged pages call inside new = record {
      base = m.tree.base;
      holds = m.tree.holds;
      changed =
          c.in_ok-answer.ensures.changes m.tree.base c.requires.0.tree
          (c.new-base.ensures m.tree.base (over m.tree.base m.tree.holds)) m.tree.stands;
    } in
    subst (λ (lists : Lists). HasChanged pages call lists new) before changed

use Rattle.std.proofs.Common.{subst, sym, ◌∙◌}
use Rattle.std.specs.Prelude.{◌↔◌, IsTrue}
use Rattle.nl_cpfile.specs.Tables.{Table}
use Rattle.nl_commit.specs.Layout.{Layout, layout_of, layout_pages}
use Rattle.nl_events.specs.SameFiles.{AreHeld, IsOneInode}
use Rattle.nl_core.specs.SameFiles.{HaveOneInode}
use Rattle.nl_core.specs.Facts.SameFiles.{are_held}
use Rattle.nl_core.specs.Facts.EqualInodes.{have_one_file}
use Rattle.nl_core.proofs.pen.Pen.is_same_file.Goals as goal

pub is_same_file-requires : goal.is_same_file-requires
is_same_file-requires g c =
    let inside = layout_of c.parts.inside.tables.lists c.parts.inside.store.store in
    subst (λ (t : Table). AreHeld (layout_pages inside) t) (sym c.checkpoints.ensures)
    (are_held inside c.parts.invariant.pen)

pub returns-clause-exact : goal.returns-clause-exact
returns-clause-exact g c =
    let inside = layout_of c.parts.inside.tables.lists c.parts.inside.store.store in
    subst (λ (l : Layout). IsTrue c.is_same_file.result
    ↔ HaveOneInode l c.args.old c.args.new c.args.path.now)
    (c.parts.view_is ∙ c.self.view_is)
    (subst (λ (t : Table). IsTrue c.is_same_file.result
    ↔ IsOneInode (layout_pages inside) t c.args.old c.args.new c.args.path.now)
    c.checkpoints.ensures c.is_same_file.ensures)

pub returns-clause-same : goal.returns-clause-same
returns-clause-same g c is =
    have_one_file c.args.self.now c.args.old c.args.new c.args.path.now ((returns-clause-exact g c).0 is)

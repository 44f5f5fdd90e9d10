use Rattle.std.proofs.Common.{subst, ◌∙◌}
use Rattle.std.specs.Prelude.{◌↔◌, IsTrue}
use Rattle.nl_cpfile.specs.Tables.{Table}
use Rattle.nl_commit.specs.Layout.{Layout, layout_of}
use Rattle.nl_events.specs.SameTrees.{IsOneRoot}
use Rattle.nl_core.specs.SameTrees.{HaveOneRoot}
use Rattle.nl_core.proofs.EqualTrees.{have_one_tree}
use Rattle.nl_core.proofs.pen.Pen.is_same_tree.Goals as goal

pub returns-clause-exact : goal.returns-clause-exact
returns-clause-exact g c =
    let inside = layout_of c.parts.inside.tables.lists c.parts.inside.store.store in
    subst (λ (l : Layout). IsTrue c.is_same_tree.result ↔ HaveOneRoot l c.args.old c.args.new)
    (c.parts.view_is ∙ c.self.view_is)
    (subst (λ (t : Table). IsTrue c.is_same_tree.result ↔ IsOneRoot t c.args.old c.args.new)
    c.checkpoints.ensures c.is_same_tree.ensures)

pub returns-clause-same : goal.returns-clause-same
returns-clause-same g c is =
    have_one_tree c.args.self.now c.args.old c.args.new ((returns-clause-exact g c).0 is)

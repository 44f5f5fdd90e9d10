use Rattle.std.proofs.Common.{◌≡◌, ◌∙◌, rules}
use Rattle.nl_commit.specs.Layout.{layout_pages}
use Rattle.nl_commit.specs.Volume.{boundary_in}
use Rattle.nl_core.proofs.Views.{boundary-means}
use Rattle.nl_core.proofs.pen.Pen.boundary.Goals as goal

pub returns-clause-world : goal.returns-clause-world
returns-clause-world g c = λ w m.
    let told : c.boundary.result ≡ boundary_in c.args.self.now.lists.table c.args.now c.args.period = search rules in
    told ∙ boundary-means (layout_pages c.args.self.now) c.args.self.now.lists w m c.args.now c.args.period

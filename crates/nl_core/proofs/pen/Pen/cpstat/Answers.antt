use Rattle.std.proofs.Common.{◌≡◌, ◌∙◌, rules}
use Rattle.nl_cpfile.specs.Tables.{cpstat_of}
use Rattle.nl_commit.specs.Layout.{layout_pages}
use Rattle.nl_core.proofs.Views.{counts-means}
use Rattle.nl_core.proofs.pen.Pen.cpstat.Goals as goal

pub returns-clause-world : goal.returns-clause-world
returns-clause-world g c = λ w m.
    let told : c.cpstat.result ≡ cpstat_of c.args.self.now.lists.table = search rules in
    told ∙ counts-means (layout_pages c.args.self.now) c.args.self.now.lists w m

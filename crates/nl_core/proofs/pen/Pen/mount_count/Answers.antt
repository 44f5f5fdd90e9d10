use Rattle.std.proofs.Common.{◌≡◌, ◌∙◌, length, rules}
use Rattle.nl_commit.specs.Layout.{layout_pages}
use Rattle.nl_core.proofs.Views.{mounts-means}
use Rattle.nl_core.proofs.pen.Pen.mount_count.Goals as goal

pub returns-clause-world : goal.returns-clause-world
returns-clause-world g c = λ w m.
    let told : c.mount_count.result ≡ length c.args.self.now.lists.mounts = search rules in
    told ∙ mounts-means (layout_pages c.args.self.now) c.args.self.now.lists w m

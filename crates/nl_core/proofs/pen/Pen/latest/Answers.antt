use Rattle.std.proofs.Common.{◌≡◌, ◌∙◌, rules}
use Rattle.nl_commit.specs.Layout.{layout_pages}
use Rattle.nl_events.specs.Facts.CheckpointEvents.{latest-same}
use Rattle.nl_core.proofs.pen.Pen.latest.Goals as goal

pub returns-clause-world : goal.returns-clause-world
returns-clause-world g c = λ w m.
    let told : c.latest.result ≡ c.args.self.now.lists.table.latest.number = search rules in
    told ∙ latest-same (layout_pages c.args.self.now) c.args.self.now.lists w m

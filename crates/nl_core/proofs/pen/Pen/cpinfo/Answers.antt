use Rattle.std.proofs.Common.{◌≡◌, ◌∙◌, ap, rules}
use Rattle.nl_types.specs.Plain.Rows.{kept_row}
use Rattle.nl_cpfile.specs.Tables.{rows}
use Rattle.nl_commit.specs.Layout.{layout_pages}
use Rattle.nl_events.specs.Facts.CheckpointEvents.{rows-means}
use Rattle.nl_core.proofs.pen.Pen.cpinfo.Goals as goal

pub returns-clause-world : goal.returns-clause-world
returns-clause-world g c = λ w m.
    let told : c.cpinfo.result ≡ kept_row c.args.number (rows c.args.self.now.lists.table) = search rules in
    told ∙ ap (kept_row c.args.number) (rows-means (layout_pages c.args.self.now) c.args.self.now.lists w m)

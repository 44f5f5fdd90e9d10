use Rattle.std.proofs.Common.{ap, ◌∙◌}
use Rattle.std.specs.Prelude.{Ok}
use Rattle.nl_types.specs.declared.reply.Answer.TheVariants as answer
use Rattle.nl_types.specs.Plain.Rows as told
use Rattle.nl_cpfile.specs.Tables as tables
use Rattle.nl_commit.specs.Tables.{RoomyLists}
use Rattle.nl_events.specs.Facts.CheckpointEvents.{listing-follows}
use Rattle.nl_events.proofs.tables.Tables.listing.Goals as goal

pub returns : goal.returns
returns c = λ pages.
    let rows = c.in_ok-rows.ensures
    ∙ ap (λ (r : RoomyLists). told.listing c.args.options.now (tables.rows r.lists.table)) c.self.view_is in
    listing-follows pages c.args.self.now.lists c.args.options.now (Ok (answer.Rows c.in_ok-rows.rows))
    (λ other. ap (λ rs. Ok (answer.Rows rs)) rows)

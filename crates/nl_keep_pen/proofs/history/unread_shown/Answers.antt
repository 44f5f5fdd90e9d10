use Rattle.std.proofs.Common.{ap, ◌∙◌}
use Rattle.nl_manifests.specs.HostTrees.{refused}
use Rattle.nl_pins.specs.Trees.{without_pins}
use Rattle.nl_keep_pen.proofs.PinlessTrees.{unread_pinless}
use Rattle.nl_keep_pen.proofs.Changes.{shows_pinless}
use Rattle.nl_keep_pen.proofs.history.unread_shown.Goals as goal

pub returns-clause-shows : goal.returns-clause-shows
returns-clause-shows g c w copy means kept =
    let is_read = c.in_ok-tree.ensures.tree w copy means kept in
    let is_rest = c.as_slice.ensures ∙ c.in_ok-tree-2.ensures in
    record {
      shows = shows_pinless copy.tree c.in_ok-tree.tree c.as_slice.result.now c.in_ok-opened.opened.tree
          (means.world.trees c.args.number copy kept) is_read is_rest c.in_ok-opened.ensures.shows;
      told = c.in_ok-opened.ensures.refused
          ∙ ap refused (is_rest ∙ ap without_pins is_read ∙ unread_pinless copy.tree);
    }

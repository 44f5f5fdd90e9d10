use Rattle.std.proofs.Common.{Some, ap, ◌∙◌}
use Rattle.nl_tree.specs.Records.{record_named}
use Rattle.nl_tree.specs.Shown.{itself, shown_entries}
use Rattle.nl_tree.proofs.ByName.{put_shown}
use Rattle.nl_tree.proofs.listing.Listing.put.Goals as goal

pub returns-in-Some : goal.returns-in-Some
returns-in-Some c =
    ap (λ es. shown_entries (record_named (λ k. k.items)) itself es)
    (c.get_mut.follows.holds (Some c.args.link)).0
    ∙ put_shown (λ k. k.items) c.args.name.now c.args.link c.args.self.now.map.entries
    c.get_mut.ensures.ordered c.requires

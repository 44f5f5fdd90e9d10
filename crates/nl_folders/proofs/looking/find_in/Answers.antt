use Rattle.std.proofs.Common.{sym, ◌∙◌}
use Rattle.nl_folders.proofs.SortedTrees.{first_left}
use Rattle.nl_folders.proofs.looking.find_in.Goals as goal

pub returns : goal.returns
returns g c sorted =
    let entries = c.args.entries.now in
    let path = c.args.path.now in
    c.first_at.ensures
    ∙ first_left entries c.place_in.result path
    ∙ sym (c.place_in.ensures.found sorted)

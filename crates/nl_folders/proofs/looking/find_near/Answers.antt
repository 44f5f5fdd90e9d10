use Rattle.std.proofs.Common.{sym, ◌∙◌}
use Rattle.nl_folders.proofs.SortedTrees.{first_found_from, first_left}
use Rattle.nl_folders.proofs.looking.find_near.Goals as goal

pub returns : goal.returns
returns c sorted =
    let entries = c.args.entries.now in
    let path = c.args.path.now in
    let place = c.sunk-place.result in
    c.first_at.ensures
    ∙ first_left entries place path
    ∙ sym (c.sunk-place.ensures.passed sorted
    ∙ first_found_from entries place path sorted c.sunk-place.ensures.ended)

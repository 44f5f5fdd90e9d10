use Rattle.nl_mounts.proofs.Looking.{found_at}
use Rattle.nl_mounts.proofs.looks.find.Goals as goal

pub returns-in-Some-clause-finds : goal.returns-in-Some-clause-finds
returns-in-Some-clause-finds g c =
    found_at c.args.mount.now c.args.seen.now c.in-Some.front c.args.state.now
    c.histories_show_states.ensures c.mounts_stay.ensures c.mounts_begin.ensures c.requires.claim
    c.requires.begun c.requires.volume c.requires.whole
    c.in-Some.ensures.later c.in-Some.ensures.log c.tree_from-tree.result c.tree_from-tree.ensures

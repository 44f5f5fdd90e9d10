use Rattle.std.proofs.Common.{ℕ}
use Rattle.nl_types.specs.Blocks.Roots.{Pages}
use Rattle.nl_layout.specs.Root.{root_of}
use Rattle.nl_check.specs.Private.ChangedFiles.{of_height}
use Rattle.nl_check.proofs.FilesBeside.{shape-beside-file, stands-top, tree-met}
use Rattle.nl_check.proofs.meeting_anew.meet_tree.Goals as goal

pub returns-then-branch-clause-yes : goal.returns-then-branch-clause-yes
returns-then-branch-clause-yes g c =
    let pages : Pages = g.V.VRead.pages c.args.store.now in
    let height : ℕ = c.args.height in
    let top : ℕ = c.args.top in
    let yes = rw c.get.ensures.value at c.in_ok-meet_below.ensures.yes in
    let end = c.in-Some.ensures.end in
    let there =
    stands-top pages height top (root_of c.args.before) c.top_beside.result end.top_there
    (c.top_beside.ensures pages) in
    tree-met pages height top (root_of c.args.before) c.requires.before c.args.met.now c.meet_below.new.met
    (yes c.if-branch.true height top 0 (of_height height (root_of c.args.before)) there
    (shape-beside-file pages height (root_of c.args.before) c.requires.before)).0
    c.in-Some.count end

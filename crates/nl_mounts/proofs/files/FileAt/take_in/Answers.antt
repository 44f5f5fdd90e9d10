use Rattle.std.proofs.Common.{Ok, sym, subst}
use Rattle.nl_commit.specs.Shown.{pages_shown}
use Rattle.nl_mounts.specs.OpenFiles.{FileView, HoldsAsTold, IsTakenOf}
use Rattle.nl_mounts.proofs.Looking.{of_tree}
use Rattle.nl_mounts.proofs.TakenFiles.{taken_if}
use Rattle.nl_mounts.proofs.files.FileAt.take_in.Goals as goal

pub returns-in-Some-clause-taken : goal.returns-in-Some-clause-taken
returns-in-Some-clause-taken g c =
    let as_told = subst (λ (f : FileView). HoldsAsTold f.mount (pages_shown c.args.state.now.tables) c.args.tree)
    (sym c.self.view_is) c.requires.holds in
    of_tree _ c.args.tree c.in-Some.found _ _ c.in-Some.is (λ t means.
    subst (λ (f : FileView). IsTakenOf t f.path c.args.offset c.args.len (Ok c.ok.result))
    c.self.view_is
    (taken_if means.held t means.means c.self.inside.path.now c.self.inside.inode c.args.offset c.args.len
    c.of_file.result _ c.ok.ensures.value
    (c.self.invariant means.held ((as_told c.in-Some.found means.held c.in-Some.is).0 means.holds))
    (c.of_file.ensures.taken means.held (c.new-tree.ensures means.held means.holds))))

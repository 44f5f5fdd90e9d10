use Rattle.std.proofs.Common.{Ok, sym, subst}
use Rattle.nl_commit.specs.Shown.{pages_shown}
use Rattle.nl_mounts.specs.OpenFiles.{FileView, HoldsAsTold, IsFileRead}
use Rattle.nl_mounts.proofs.Looking.{of_tree}
use Rattle.nl_mounts.proofs.OpenFiles.{file_read}
use Rattle.nl_mounts.proofs.files.FileAt.read_in.Goals as goal

pub returns-in-Some-clause-reads : goal.returns-in-Some-clause-reads
returns-in-Some-clause-reads g c =
    let as_told = subst (λ (f : FileView). HoldsAsTold f.mount (pages_shown c.args.state.now.tables) c.args.tree)
    (sym c.self.view_is) c.requires in
    of_tree _ c.args.tree c.in-Some.found _ _ c.in-Some.is (λ t means.
    subst (λ (f : FileView).
    IsFileRead t f.path c.args.offset c.args.into.now (Ok c.read_file_into.result) c.read_file_into.new.into)
    c.self.view_is
    (file_read means.held t means.means c.self.inside.path.now c.self.inside.inode c.args.offset
    c.read_file_into.result c.args.into.now c.read_file_into.new.into
    (c.self.invariant means.held ((as_told c.in-Some.found means.held c.in-Some.is).0 means.holds))
    (c.read_file_into.ensures.reads means.held (c.new-tree.ensures means.held means.holds))
    c.read_file_into.ensures.within c.read_file_into.ensures.rest))

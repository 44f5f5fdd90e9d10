use Rattle.std.proofs.Common.{Some, sym, ap, ◌∙◌}
use Rattle.std.specs.Option.{option_and_then}
use Rattle.nl_ifile.specs.Inodes.{in_use}
use Rattle.nl_check.proofs.InodeBlocks.{entry-inode}
use Rattle.nl_check.proofs.shape.inode_at_place.Goals as goal

pub returns-in_err-entry_in : goal.returns-in_err-entry_in
returns-in_err-entry_in c =
    c.from_residual.ensures
    ∙ sym (entry-inode c.args.page.now c.args.place c.entry_in.result c.entry_in.ensures
    ∙ ap (option_and_then in_use) c.in_err-entry_in.was)

pub returns-in-Free : goal.returns-in-Free
returns-in-Free c =
    sym (entry-inode c.args.page.now c.args.place c.entry_in.result c.entry_in.ensures
    ∙ ap (option_and_then in_use) (c.in_ok-entry_in.was ∙ ap Some c.in-Free.is))

pub returns-in-InUse : goal.returns-in-InUse
returns-in-InUse c =
    sym (entry-inode c.args.page.now c.args.place c.entry_in.result c.entry_in.ensures
    ∙ ap (option_and_then in_use) (c.in_ok-entry_in.was ∙ ap Some c.in-InUse.is))

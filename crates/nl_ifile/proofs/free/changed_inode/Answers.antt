use Rattle.std.proofs.Common.{ℕ, ◌%◌, sym, ap, ◌∙◌, option_copied}
use Rattle.nl_ifile.specs.Inodes.{inode_in}
use Rattle.nl_ifile.specs.Free.{inode_of_page}
use Rattle.nl_ifile.proofs.Finding.{inodes_with-Some, inodes_with-None}
use Rattle.nl_ifile.proofs.free.changed_inode.Goals as goal

pub returns-in_err-page-in-None : goal.returns-in_err-page-in-None
returns-in_err-page-in-None c =
    let before = inode_of_page (option_copied c.args.page) in
    c.from_residual.ensures
    ∙ (sym (ap (λ p. inode_of_page (option_copied p) c.args.number) c.in_err-page-in-None.was)
    ∙ inodes_with-None c.args.changes.now before c.args.number c.in-None.ensures)

pub returns-in-Some : goal.returns-in-Some
returns-in-Some c =
    inodes_with-Some c.args.changes.now
    (inode_of_page (option_copied c.args.page)) c.args.number c.in-Some.change.now c.in-Some.ensures

pub returns-in_ok-page-in-None : goal.returns-in_ok-page-in-None
returns-in_ok-page-in-None c =
    let before = inode_of_page (option_copied c.args.page) in
    c.inode_in_page.ensures
    ∙ (ap (λ (n : ℕ). inode_in c.in_ok-page-in-None.field-0.now (n % 8)) c.get.ensures
    ∙ (sym (ap (λ p. inode_of_page (option_copied p) c.args.number) c.in_ok-page-in-None.was)
    ∙ inodes_with-None c.args.changes.now before c.args.number c.in-None.ensures))

use Rattle.std.proofs.Common.{◌+◌, ◌-◌, ◌*◌, Some, sym, ap, ◌∙◌, arith}
use Rattle.std.specs.Option.{option_and_then}
use Rattle.nl_ifile.specs.Inodes.{in_use}
use Rattle.nl_ifile.proofs.Spelling.{inode_in-read}
use Rattle.nl_ifile.proofs.read.inode_in_page.Goals as goal

pub returns-in_err-read : goal.returns-in_err-read
returns-in_err-read c =
    c.from_residual.ensures
    ∙ sym (inode_in-read _ _ _ (c.args.place * 128 + 128 - c.args.place * 128) c.read.result c.bytes.ensures
    (omega arith) c.read.ensures.found c.read.ensures.only
    ∙ ap (option_and_then in_use) c.in_err-read.was)

pub returns-in-Free : goal.returns-in-Free
returns-in-Free c =
    sym (inode_in-read _ _ _ (c.args.place * 128 + 128 - c.args.place * 128) c.read.result c.bytes.ensures
    (omega arith) c.read.ensures.found c.read.ensures.only
    ∙ ap (option_and_then in_use) (c.in_ok-read.was ∙ ap Some c.in-Free.is))

pub returns-in-InUse : goal.returns-in-InUse
returns-in-InUse c =
    sym (inode_in-read _ _ _ (c.args.place * 128 + 128 - c.args.place * 128) c.read.result c.bytes.ensures
    (omega arith) c.read.ensures.found c.read.ensures.only
    ∙ ap (option_and_then in_use) (c.in_ok-read.was ∙ ap Some c.in-InUse.is))

use Rattle.std.proofs.Common.{ap, subst, sym}
use Rattle.std.specs.Prelude.{option_copied}
use Rattle.nl_check.specs.Private.ChangedFiles.{IsOfInodes}
use Rattle.nl_check.proofs.differing.is_of_inodes.Goals as goal

pub returns-in-Some : goal.returns-in-Some
returns-in-Some c = λ is. subst IsOfInodes (sym (ap option_copied c.in-Some.is)) (c.is_inode_block.ensures.0 is)

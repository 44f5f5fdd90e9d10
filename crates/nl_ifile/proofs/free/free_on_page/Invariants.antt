use Rattle.std.proofs.Common.{option_copied}
use Rattle.nl_types.specs.Inodes.{AreInUseFrom}
use Rattle.nl_ifile.specs.Changing.{inodes_with}
use Rattle.nl_ifile.specs.Free.{inode_of_page}
use Rattle.nl_ifile.proofs.free.free_on_page.Given as goal

abbrev pub invariant-loop-number : goal.invariant-loop-number
invariant-loop-number l =
    AreInUseFrom (inodes_with l.changes (inode_of_page (option_copied l.page))) l.first l.number

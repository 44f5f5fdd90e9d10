use Rattle.nl_types.specs.Facts.Inodes.Changed.{creates_insert, rewrites_insert, removes_remove, renames_move, replaces_move}
use Rattle.nl_types.proofs.inode_laws.changes_of_inodes_change_paths.Goals as goal

pub returns-clause-creates : goal.returns-clause-creates
returns-clause-creates c = creates_insert

pub returns-clause-rewrites : goal.returns-clause-rewrites
returns-clause-rewrites c = rewrites_insert

pub returns-clause-removes : goal.returns-clause-removes
returns-clause-removes c = removes_remove

pub returns-clause-renames : goal.returns-clause-renames
returns-clause-renames c = renames_move

pub returns-clause-replaces : goal.returns-clause-replaces
returns-clause-replaces c = replaces_move

use Rattle.nl_types.specs.Facts.KeptTrees.{creates_keep_trees, mkdirs_keep_trees, writes_keep_trees, truncates_keep_trees, unlinks_keep_trees, rmdirs_keep_trees, renames_keep_trees}
use Rattle.nl_types.proofs.laws.file_calls_keep_trees.Goals as goal

pub returns-clause-create : goal.returns-clause-create
returns-clause-create c = creates_keep_trees

pub returns-clause-mkdir : goal.returns-clause-mkdir
returns-clause-mkdir c = mkdirs_keep_trees

pub returns-clause-write : goal.returns-clause-write
returns-clause-write c = writes_keep_trees

pub returns-clause-truncate : goal.returns-clause-truncate
returns-clause-truncate c = truncates_keep_trees

pub returns-clause-unlink : goal.returns-clause-unlink
returns-clause-unlink c = unlinks_keep_trees

pub returns-clause-rmdir : goal.returns-clause-rmdir
returns-clause-rmdir c = rmdirs_keep_trees

pub returns-clause-rename : goal.returns-clause-rename
returns-clause-rename c = renames_keep_trees

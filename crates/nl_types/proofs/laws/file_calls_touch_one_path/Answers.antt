use Rattle.nl_types.specs.Facts.CallLookups.{creates_add_one, writes_change_one, truncates_change_one, unlinks_remove_one, rmdirs_remove_one}
use Rattle.nl_types.proofs.laws.file_calls_touch_one_path.Goals as goal

pub returns-clause-create : goal.returns-clause-create
returns-clause-create c = creates_add_one

pub returns-clause-write : goal.returns-clause-write
returns-clause-write c = writes_change_one

pub returns-clause-truncate : goal.returns-clause-truncate
returns-clause-truncate c = truncates_change_one

pub returns-clause-unlink : goal.returns-clause-unlink
returns-clause-unlink c = unlinks_remove_one

pub returns-clause-rmdir : goal.returns-clause-rmdir
returns-clause-rmdir c = rmdirs_remove_one

use Rattle.nl_types.specs.Facts.Inodes.Judging.{files_are_judged, creates_are_judged, rmdirs_are_judged, renames_are_judged, lists_are_judged, stats_are_judged}
use Rattle.nl_types.proofs.inode_laws.calls_are_judged_by_inodes.Goals as goal

pub returns-clause-files : goal.returns-clause-files
returns-clause-files c = files_are_judged

pub returns-clause-creates : goal.returns-clause-creates
returns-clause-creates c = creates_are_judged

pub returns-clause-rmdirs : goal.returns-clause-rmdirs
returns-clause-rmdirs c = rmdirs_are_judged

pub returns-clause-renames : goal.returns-clause-renames
returns-clause-renames c = renames_are_judged

pub returns-clause-lists : goal.returns-clause-lists
returns-clause-lists c = lists_are_judged

pub returns-clause-stats : goal.returns-clause-stats
returns-clause-stats c = stats_are_judged

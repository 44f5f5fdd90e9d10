use Rattle.nl_types.specs.Facts.Inodes.CallsDone.{creates_lead, writes_lead, truncates_lead, unlinks_lead, rmdirs_lead, renames_lead, renames_onto_lead}
use Rattle.nl_types.proofs.inode_laws.calls_change_trees_by_inodes.Goals as goal

pub returns-clause-creates : goal.returns-clause-creates
returns-clause-creates c = creates_lead

pub returns-clause-writes : goal.returns-clause-writes
returns-clause-writes c = writes_lead

pub returns-clause-truncates : goal.returns-clause-truncates
returns-clause-truncates c = truncates_lead

pub returns-clause-unlinks : goal.returns-clause-unlinks
returns-clause-unlinks c = unlinks_lead

pub returns-clause-rmdirs : goal.returns-clause-rmdirs
returns-clause-rmdirs c = rmdirs_lead

pub returns-clause-renames : goal.returns-clause-renames
returns-clause-renames c = renames_lead

pub returns-clause-renames_onto : goal.returns-clause-renames_onto
returns-clause-renames_onto c = renames_onto_lead

use Rattle.nl_types.specs.Facts.Inodes.Resolving.{objects_by_inodes, parents_by_inodes, children_by_records, directories_hold_records, files_hold_bytes}
use Rattle.nl_types.proofs.inode_laws.walks_over_inodes_are_walks.Goals as goal

pub returns-clause-objects : goal.returns-clause-objects
returns-clause-objects c = objects_by_inodes

pub returns-clause-parents : goal.returns-clause-parents
returns-clause-parents c = parents_by_inodes

pub returns-clause-children : goal.returns-clause-children
returns-clause-children c = children_by_records

pub returns-clause-directories : goal.returns-clause-directories
returns-clause-directories c = directories_hold_records

pub returns-clause-files : goal.returns-clause-files
returns-clause-files c = files_hold_bytes

use Rattle.nl_types.specs.Facts.Inodes.ChildRecords.{children_are_records}
use Rattle.nl_types.proofs.inode_laws.children_are_records.Goals as goal

pub returns : goal.returns
returns c = children_are_records

use Rattle.nl_types.specs.Facts.CallLookups.{empty_writes_stay}
use Rattle.nl_types.specs.Facts.FileSizes.{written_sizes, truncated_sizes}
use Rattle.nl_types.proofs.laws.files_end_where_they_are_set.Goals as goal

pub returns-clause-written : goal.returns-clause-written
returns-clause-written c = written_sizes

pub returns-clause-nothing : goal.returns-clause-nothing
returns-clause-nothing c = empty_writes_stay

pub returns-clause-truncated : goal.returns-clause-truncated
returns-clause-truncated c = truncated_sizes

use Rattle.nl_dirs.specs.Facts.Blocks.{directories-one}
use Rattle.nl_dirs.specs.Facts.Spelling.{blocks_hold_their_records, bytes_hold_one_list}
use Rattle.nl_dirs.proofs.laws.directories_hold_one_list.Goals as goal

pub returns : goal.returns
returns c = directories-one bytes_hold_one_list blocks_hold_their_records

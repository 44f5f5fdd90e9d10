use Rattle.std.proofs.Common.{length, arith}
use Rattle.nl_dirs.proofs.Holding.{some_list}
use Rattle.nl_dirs.specs.Facts.Spelling.{blocks_hold_their_records, bytes_hold_one_list}
use Rattle.nl_dirs.proofs.laws.blocks_hold_one_list.Goals as goal

pub returns-clause-some : goal.returns-clause-some
returns-clause-some c = λ bytes small. some_list (length bytes) bytes (omega arith) small

pub returns-clause-one : goal.returns-clause-one
returns-clause-one c = bytes_hold_one_list

pub returns-clause-own : goal.returns-clause-own
returns-clause-own c = blocks_hold_their_records

use Rattle.nl_types.specs.Facts.WrittenEntries.{written-at}
use Rattle.nl_types.proofs.laws.writes_are_by_number.Goals as goal

pub returns : goal.returns
returns c births ends number v content once = written-at births ends number content v once

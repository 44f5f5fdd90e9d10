use Rattle.std.proofs.Common.{◌++◌, ◌≡◌, drop}
use Rattle.nl_tree.specs.Records.{records_of}
use Rattle.nl_tree.proofs.listing.Listing.from_records.Given as goal

abbrev pub invariant-loop-next : goal.invariant-loop-next
invariant-loop-next l = records_of l.listing ++ drop l.next-index l.records ≡ l.records

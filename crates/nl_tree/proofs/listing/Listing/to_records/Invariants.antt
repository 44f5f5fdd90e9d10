use Rattle.std.proofs.Common.{◌≡◌, ◌++◌}
use Rattle.nl_tree.specs.Records.{record_named, records_of}
use Rattle.nl_tree.specs.Shown.{itself, shown_entries}
use Rattle.nl_tree.proofs.listing.Listing.to_records.Given as goal

abbrev pub invariant-loop-name : goal.invariant-loop-name
invariant-loop-name l =
    l.records.items ++ shown_entries (record_named (λ k. k.items)) itself l.name-iterator ≡ records_of l.self

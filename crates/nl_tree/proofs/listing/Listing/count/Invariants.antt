use Rattle.std.proofs.Common.{◌≡◌, ◌+◌, ◌<◌, ◌^◌, length}
use Rattle.nl_tree.specs.Records.{record_named, records_of}
use Rattle.nl_tree.specs.Shown.{itself, shown_entries}
use Rattle.nl_tree.proofs.listing.Listing.count.Given as goal

-- so many records so far, and those that are left
abbrev pub invariant-loop-link : goal.invariant-loop-link
invariant-loop-link l =
    length (records_of l.self) < 2 ^ 64
    → l.count + length (shown_entries (record_named (λ k. k.items)) itself l.link-iterator)
    ≡ length (records_of l.self)

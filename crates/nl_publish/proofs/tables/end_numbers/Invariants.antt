use Rattle.std.proofs.Common.{◌≡◌, drop}
use Rattle.nl_commit.specs.Commits.{with_ends}
use Rattle.nl_publish.proofs.tables.end_numbers.Given as goal

-- with the numbers that are left, the table is the one that is promised
abbrev pub invariant-loop-number : goal.invariant-loop-number
invariant-loop-number l =
    with_ends l.checkpoint (drop l.number-index l.ends) l.numbers ≡ with_ends l.checkpoint l.ends l.fn.numbers

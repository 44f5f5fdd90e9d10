use Rattle.std.proofs.Common.{◌≡◌, drop}
use Rattle.nl_commit.specs.Commits.{without_numbers}
use Rattle.nl_publish.proofs.tables.free_numbers.Given as goal

abbrev pub invariant-loop-number : goal.invariant-loop-number
invariant-loop-number l =
    without_numbers (drop l.number-index l.gone) l.numbers ≡ without_numbers l.gone l.fn.numbers

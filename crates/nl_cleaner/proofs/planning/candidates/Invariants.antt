use Rattle.std.proofs.Common.{◌≡◌, ℕ}
use Rattle.nl_commit.specs.CleanerViews.{counts_after}
use Rattle.nl_cleaner.specs.Private.Choice.{candidates_in}
use Rattle.nl_cleaner.specs.Plan.{candidate_in}
use Rattle.nl_cleaner.proofs.planning.candidates.Given as goal

abbrev pub invariant-loop-number : goal.invariant-loop-number
invariant-loop-number g l =
    (below : ℕ) → l.needed ≡ counts_after l.pen below
    → l.found.items ≡ candidates_in (candidate_in l.pen below l.least) l.number

use Rattle.std.proofs.Common.{ℕ, Result, ap, ◌∙◌}
use Rattle.std.specs.Result.{result_unwrap_or}
use Rattle.nl_types.specs.declared.error.VolError.{VolError}
use Rattle.nl_cleaner.proofs.ByCounts.{told-count}
use Rattle.nl_cleaner.proofs.planning.needed_of.Goals as goal

pub returns : goal.returns
returns c =
    c.unwrap_or.ensures ∙ ap (λ (told : Result ℕ VolError). result_unwrap_or told 0) c.get.ensures
    ∙ told-count c.args.needed.now c.args.segment

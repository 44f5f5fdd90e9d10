use Rattle.std.proofs.Common.{ℕ, ◌∙◌, ap, arith}
use Rattle.std.specs.Prelude.{Err}
use Rattle.nl_types.specs.declared.error.VolError.TheVariants.{BadConfig}
use Rattle.nl_protect.specs.Configuration.{lines_in, standard}
use Rattle.nl_protect.proofs.ConfigurationLaws.{told, alone}
use Rattle.nl_protect.proofs.laws.the_first_bad_line_is_told.Goals as goal

pub returns-clause-told : goal.returns-clause-told
returns-clause-told c = λ text i first.
    told (lines_in text) i 1 standard first ∙ ap (λ (m : ℕ). Err (BadConfig m)) (omega arith)

pub returns-clause-alone : goal.returns-clause-alone
returns-clause-alone c = λ text e is.
    let found = alone (lines_in text) 1 standard e is in
    (found.0, found.1, found.2 ∙ ap BadConfig (omega arith))

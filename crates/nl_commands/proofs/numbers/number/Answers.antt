use Rattle.std.proofs.Common.{◌∙◌, ap, ℕ, Option}
use Rattle.std.specs.Option.{ok_or}
use Rattle.nl_commands.specs.declared.error.LineError.TheVariants.{Usage}
use Rattle.nl_commands.proofs.numbers.number.Goals as goal

pub returns : goal.returns
returns c = c.ok_or.ensures.value ∙ ap (λ (o : Option ℕ). ok_or o Usage) c.decimal.ensures

-- Numbers in words.
use Rattle.std.specs.Prelude.{ℕ, Result}
use Rattle.std.specs.Option.{ok_or}
use Rattle.clap.specs.Words.{Text}
use Rattle.nl_types.specs.Plain.Decimals.{decimal_in}
use Rattle.nl_commands.specs.declared.error.LineError.{LineError}
use Rattle.nl_commands.specs.declared.error.LineError.TheVariants.{Usage}

abbrev pub number_in : Text → Result ℕ LineError
number_in word = ok_or (decimal_in word) Usage

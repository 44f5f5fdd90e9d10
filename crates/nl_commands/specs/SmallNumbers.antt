-- Numbers in words.
use Rattle.std.specs.Prelude.{◌^◌, nat_lt, if◌then◌else◌, ℕ, List, Option, None, Some, option_and_then}
use Rattle.nl_types.specs.Plain.Decimals.{decimal_in}

-- a number of 32 bits
abbrev pub small : ℕ → Option ℕ
small n = if nat_lt n (2 ^ 32) then Some n else None

abbrev pub number_in : List ℕ → Option ℕ
number_in word = option_and_then small (decimal_in word)

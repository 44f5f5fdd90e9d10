-- Decimal numbers in words.
use Rattle.std.specs.Prelude.{◌<◌, ◌^◌, ◌&&◌, cond, nat_lt, ℕ, Bool, List, length, Option, None, Some}
use Rattle.std.specs.List.{list_all}
use Rattle.std.specs.Char.{digit_value}
use Rattle.std.specs.Str.Parse.{IsNumeral, digits_value}

-- the word is digits that write a number of 64 bits
abbrev pub IsDecimal : List ℕ → Type 0
IsDecimal word = IsNumeral 10 word × (digits_value 10 word < 2 ^ 64)

-- the same as a test
abbrev pub is_decimal : List ℕ → Bool
is_decimal word =
    nat_lt 0 (length word)
    && (list_all (λ d. nat_lt (digit_value d) 10) word && nat_lt (digits_value 10 word) (2 ^ 64))

abbrev pub decimal_in : List ℕ → Option ℕ
decimal_in word = cond (is_decimal word) (Some (digits_value 10 word)) None

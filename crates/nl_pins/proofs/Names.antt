-- A decimal number is text.
use Rattle.std.proofs.Common.{◌≡◌, ◌<◌, ℕ, zero, suc, Bool, true, false, cond, ◌&&◌, nat_lt, List, [], ◌∷◌, Option, None, Some, refl, sym, true≢false, arith}
use Rattle.std.proofs.lemmas.Bool.Decides.{nat_tests}
use Rattle.std.proofs.lemmas.Str.{IsUtf8-from_ascii}
use Rattle.std.specs.Char.{digit_value}
use Rattle.std.specs.List.{list_all}
use Rattle.std.specs.Str.{IsAscii, IsUtf8}
use Rattle.std.specs.Str.Parse.{digits_value}
use Rattle.nl_types.specs.Plain.Decimals.{decimal_in, is_decimal}

both : (a b : Bool) → (a && b) ≡ true → (a ≡ true) × (b ≡ true)
both true b e = (refl, e)
both false b e = absurd (true≢false (sym e))

digit_ascii : (d : ℕ) → nat_lt (digit_value d) 10 ≡ true → d < 128
digit_ascii d e = grind (arith, nat_tests)

digits_ascii : (word : List ℕ) → list_all (λ d. nat_lt (digit_value d) 10) word ≡ true → IsAscii word
digits_ascii [] all i = omega arith
digits_ascii (d ∷ ds) all zero = digit_ascii d (both _ _ all).0
digits_ascii (d ∷ ds) all (suc i) = digits_ascii ds (both _ _ all).1 i

pub no_number : (word : List ℕ) → (IsUtf8 word → ⊥) → None ≡ decimal_in word
no_number word odd =
    elim (is_decimal word) as (λ b. is_decimal word ≡ b → None ≡ cond {A = Option ℕ} b (Some (digits_value 10 word)) None) [
      | true ↦ λ e. absurd (odd (IsUtf8-from_ascii word (digits_ascii word (both _ _ (both _ _ e).1).0)))
      | false ↦ λ e. refl
    ] refl

-- What is no text is no number.
use Rattle.std.proofs.Common.{◌≡◌, ◌&&◌, refl, sym, ltb-true, true≢false, nat_lt, Bool, true, false, cond, List, [], ◌∷◌, ℕ, None, Some}
use Rattle.std.specs.Prelude.{IsUtf8}
use Rattle.std.specs.List.{list_all}
use Rattle.std.specs.Char.{digit_value}
use Rattle.std.specs.Str.Parse.{AllDigits, digits_value}
use Rattle.std.proofs.lemmas.Fmt.{IsAscii-from_digits}
use Rattle.std.proofs.lemmas.Str.{IsUtf8-from_ascii}
use Rattle.nl_types.specs.Plain.Decimals.{is_decimal, decimal_in}

both : (a b : Bool) → (a && b) ≡ true → (a ≡ true) × (b ≡ true)
both true b e = (refl, e)
both false b e = absurd (true≢false (sym e))

digits-true : (word : List ℕ) → list_all (λ d. nat_lt (digit_value d) 10) word ≡ true → AllDigits 10 word
digits-true [] all = tt
digits-true (d ∷ ds) all = let two = both _ _ all in (ltb-true (digit_value d) 10 two.0, digits-true ds two.1)

is_text : (word : List ℕ) → is_decimal word ≡ true → IsUtf8 word
is_text word is =
    let one = both _ _ is in
    let two = both _ _ one.1 in
    IsUtf8-from_ascii word (IsAscii-from_digits word (digits-true word two.0))

pub none_read : (word : List ℕ) → (IsUtf8 word → ⊥) → None ≡ decimal_in word
none_read word none =
    elim (is_decimal word) as (λ b. is_decimal word ≡ b → None ≡ cond b (Some (digits_value 10 word)) None) [
      | true ↦ λ is. absurd (none (is_text word is))
      | false ↦ λ is. refl
    ] refl

-- The test of a decimal number, and what it says.
use Rattle.std.proofs.Common.{◌≡◌, ◌∙◌, ◌^◌, ◌&&◌, ap, refl, sym, nat_lt, lt-ltb, ltb-true, true≢false, Bool, true, false, cond, List, [], ◌∷◌, ℕ, length, Option, None, Some, SomeIff}
use Rattle.std.specs.List.{list_all}
use Rattle.std.specs.Char.{digit_value}
use Rattle.std.specs.Str.Parse.{AllDigits, digits_value}
use Rattle.nl_types.specs.Plain.Decimals.{IsDecimal, is_decimal, decimal_in}

both : (a b : Bool) → (a && b) ≡ true → (a ≡ true) × (b ≡ true)
both true b e = (refl, e)
both false b e = absurd (true≢false (sym e))

all-true : (word : List ℕ) → AllDigits 10 word → list_all (λ d. nat_lt (digit_value d) 10) word ≡ true
all-true [] all = refl
all-true (d ∷ ds) all =
    ap (λ b. b && list_all (λ x. nat_lt (digit_value x) 10) ds) (lt-ltb (digit_value d) 10 all.0)
    ∙ all-true ds all.1

is-decimal : (word : List ℕ) → IsDecimal word → is_decimal word ≡ true
is-decimal word is =
    ap (λ b. b && (list_all (λ d. nat_lt (digit_value d) 10) word && nat_lt (digits_value 10 word) (2 ^ 64)))
    (lt-ltb 0 (length word) is.0.0)
    ∙ ap (λ b. b && nat_lt (digits_value 10 word) (2 ^ 64)) (all-true word is.0.1)
    ∙ lt-ltb (digits_value 10 word) (2 ^ 64) is.1

digits-true : (word : List ℕ) → list_all (λ d. nat_lt (digit_value d) 10) word ≡ true → AllDigits 10 word
digits-true [] all = tt
digits-true (d ∷ ds) all = let two = both _ _ all in (ltb-true (digit_value d) 10 two.0, digits-true ds two.1)

decimal-is : (word : List ℕ) → is_decimal word ≡ true → IsDecimal word
decimal-is word is =
    let one = both _ _ is in
    let two = both _ _ one.1 in
    ((ltb-true 0 (length word) one.0, digits-true word two.0), ltb-true (digits_value 10 word) (2 ^ 64) two.1)

by_test : (b : Bool) (o : Option ℕ) (word : List ℕ) → is_decimal word ≡ b
    → SomeIff o (IsDecimal word) (digits_value 10 word) → o ≡ cond b (Some (digits_value 10 word)) None
by_test true (Some n) word is found = ap (λ (x : ℕ). Some x) found.1
by_test true None word is found = absurd (found (decimal-is word is))
by_test false (Some n) word is found = absurd (true≢false (sym (is-decimal word found.0) ∙ is))
by_test false None word is found = refl

pub read-is : (o : Option ℕ) (word : List ℕ) → SomeIff o (IsDecimal word) (digits_value 10 word)
    → o ≡ decimal_in word
read-is o word found = by_test (is_decimal word) o word refl found

-- Numbers of so many digits, and bytes.
use Rattle.std.proofs.Common.{◌≡◌, ◌≢◌, ℕ, zero, suc, ◌+◌, ◌-◌, ◌*◌, ◌/◌, ◌%◌, ◌^◌, ◌<◌, ◌≤◌, true, List, [], ◌∷◌, ◌++◌, get_or, refl, sym, ap, arith}
use Rattle.std.proofs.Math.Nat.{mul-le-mul_left, pow-le-pow_right, pow-suc}
use Rattle.std.proofs.lemmas.Bool.{and_from, lt-ltb}
use Rattle.nl_manifests.specs.Manifests.{are_bytes, in_digits}

pub digits_more : (base width number : ℕ) → width ≢ 0
    → in_digits base width number ≡ in_digits base (width - 1) (number / base) ++ (48 + number % base) ∷ []
unfolding in_digits
digits_more base zero number some = absurd (some refl)
digits_more base (suc width) number some =
    let k : suc width - 1 ≡ width = omega arith in
    ap (λ (w : ℕ). in_digits base w (number / base) ++ (48 + number % base) ∷ []) (sym k)

-- a digit more
pub digit_fits : (front last base width : ℕ) → front < 10 ^ (width - 1) → last < base → base ≤ 10 → width ≢ 0
    → front * base + last < 10 ^ width
digit_fits front last base zero below digit low some = absurd (some refl)
digit_fits front last base (suc width) below digit low some =
    let k : suc width - 1 ≡ width = omega arith in
    let less : front < 10 ^ width = rw k at below in
    let most : front * base ≤ front * 10 = mul-le-mul_left front low in
    omega (arith, pow-suc 10 width, less, most)

pub digits_fit : (n width : ℕ) → n < 10 ^ width → width ≤ 9 → n < 2 ^ 32
digits_fit n width below few =
    let most : 10 ^ width ≤ 10 ^ 9 = pow-le-pow_right (omega arith) few in
    omega (arith, most)

pub bytes_fit : (bytes : List ℕ) → ((i : ℕ) → get_or bytes i 0 < 256) → are_bytes bytes ≡ true
bytes_fit [] fits = refl
bytes_fit (b ∷ bytes) fits = and_from _ (are_bytes bytes) (lt-ltb b 256 (fits 0)) (bytes_fit bytes (λ i.
    fits (suc i)))

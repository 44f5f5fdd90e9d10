-- What a width writes: blanks before a number, and as many blanks as the width before nothing.
use Rattle.std.proofs.Common.{◌≡◌, ◌∙◌, ◌-◌, ◌++◌, ap, sym, refl, arith, cond, ◌==◌, ◌&&◌, true, false, Bool, [], ◌∷◌, ℕ, length, zero, suc, append-nil}
use Rattle.std.specs.Prelude.{replicate}
use Rattle.std.specs.List.{repeat}
use Rattle.std.specs.Char.{encode_utf8}
use Rattle.std.specs.Fmt.{char_count, take_chars, decimal, format_spec, padded, padded_integral, styled_decimal, styled_text}
use Rattle.std.proofs.lemmas.Bool.{eqb-true}
use Rattle.nl_script.specs.Texts.{Text, right}

filled : (n : ℕ) → repeat n (encode_utf8 32) ≡ replicate n 32
unfolding encode_utf8
filled zero = refl
filled (suc n) = ap (λ (t : Text). 32 ∷ t) (filled n)

padded-right : (width : ℕ) (t : Text)
    → padded_integral (format_spec 32 3 0 width 18446744073709551615) false [] t ≡ right width t
unfolding padded_integral char_count
padded-right width t =
    let all : width - length t - 0 - 0 ≡ width - length t = omega arith in
    let none : width - length t - 0 - 0 - (width - length t - 0 - 0) ≡ 0 = omega arith in
    let blank : Text = repeat (width - length t - 0 - 0) (encode_utf8 32) in
    ap (λ (xs : Text).
    xs ++ (t ++ repeat (width - length t - 0 - 0 - (width - length t - 0 - 0)) (encode_utf8 32)))
    (append-nil (blank ++ [] ++ []) ∙ append-nil (blank ++ []) ∙ append-nil blank)
    ∙ ap (λ (n : ℕ). blank ++ (t ++ repeat n (encode_utf8 32))) none
    ∙ ap (λ (xs : Text). blank ++ xs) (append-nil t)
    ∙ ap (λ (n : ℕ). repeat n (encode_utf8 32) ++ t) all
    ∙ ap (λ (xs : Text). xs ++ t) (filled (width - length t))

-- `{number:>width$}`
pub right-is : (width number : ℕ)
    → styled_decimal (format_spec 32 3 0 width 18446744073709551615) number ≡ right width (decimal number)
right-is width number = by (width == 0) refl
  where
    by : (bare : Bool) → (width == 0) ≡ bare
        → cond (bare && true && true) (decimal number)
        (padded_integral (format_spec 32 3 0 width 18446744073709551615) false [] (decimal number))
        ≡ right width (decimal number)
    by true e =
        let none : 0 ≡ width - length (decimal number) = omega (arith, eqb-true width 0 e) in
        ap (λ (n : ℕ). replicate n 32 ++ decimal number) none
    by false e = padded-right width (decimal number)

padded-nothing : (width : ℕ) → padded (format_spec 32 0 0 width 18446744073709551615) [] ≡ replicate width 32
unfolding padded take_chars char_count
padded-nothing width =
    let all : width - 0 - 0 ≡ width = omega arith in
    ap (λ (n : ℕ). repeat n (encode_utf8 32)) all ∙ filled width

-- `{:width$}` of nothing
pub blanks-are : (width : ℕ)
    → styled_text (format_spec 32 0 0 width 18446744073709551615) [] ≡ replicate width 32
blanks-are width = by (width == 0) refl
  where
    by : (bare : Bool) → (width == 0) ≡ bare
        → cond (bare && true) [] (padded (format_spec 32 0 0 width 18446744073709551615) [])
        ≡ replicate width 32
    by true e = ap (λ (n : ℕ). replicate n 32) (sym (eqb-true width 0 e))
    by false e = padded-nothing width

-- Reading items one after another, as a loop does.
use Rattle.std.proofs.Common.{◌≡◌, ℕ, suc, ◌+◌, ◌-◌, ◌<◌, ◌≤◌, Bool, true, false, ◌&&◌, cond, leb, List, [], ◌∷◌, ◌++◌, length, Option, Some, None, refl, sym, ap, ◌∙◌, append_assoc, append-nil, true≢false, arith}
use Rattle.nl_manifests.specs.declared.fields.ReadError.{ReadError}
use Rattle.nl_manifests.specs.declared.fields.ReadError.TheVariants as errors
use Rattle.nl_manifests.specs.Private.Reading.{◌>>=◌, Fails, decimal_digit_at, decimal_from, lines_at, many, next_line_at, pushed}

-- ---- items

-- what was read before, and what is still read
abbrev pub with_front : {X : Type 0} → List X → Option (List X × List ℕ) → Option (List X × List ℕ)
with_front front read = read >>= λ x. Some (front ++ x.0, x.1)

pub begins : {X : Type 0} (read : Option (List X × List ℕ)) → with_front [] read ≡ read
begins (Some x) = refl
begins None = refl

regroup : {X : Type 0} (front : List X) (item : X) (read : Option (List X × List ℕ))
    → with_front front (read >>= λ x. Some (item ∷ x.0, x.1)) ≡ with_front (front ++ item ∷ []) read
regroup {X} front item (Some x) = ap (λ (items : List X). Some (items, x.1)) (sym (append_assoc front
    (item ∷ []) x.0))
regroup front item None = refl

module _ {X : Type 0} (next : List ℕ → Option (Option (X × List ℕ))) (front : List X) (limit i : ℕ)
    (bytes : List ℕ) (total : Option (List X × List ℕ))
    (so_far : with_front front (many next (limit - i) bytes) ≡ total) where
  pub goes_on : (item : X) (rest : List ℕ) → i < limit → next bytes ≡ Some (Some (item, rest))
      → with_front (front ++ item ∷ []) (many next (limit - (i + 1)) rest) ≡ total
  unfolding many
  goes_on item rest more found =
      let k : limit - i ≡ suc (limit - (i + 1)) = omega arith in
      let one : with_front front (many next (limit - i) bytes)
      ≡ with_front (front ++ item ∷ []) (many next (limit - (i + 1)) rest) =
      rw (k, found) (regroup front item (many next (limit - (i + 1)) rest)) in
      sym one ∙ so_far

  pub ends : i < limit → next bytes ≡ Some None → total ≡ Some (front, bytes)
  unfolding many
  ends more found =
      let k : limit - i ≡ suc (limit - (i + 1)) = omega arith in
      let one : with_front front (many next (limit - i) bytes) ≡ Some (front, bytes) =
      rw (k, found) (ap (λ (items : List X). Some (items, bytes)) (append-nil front)) in
      sym so_far ∙ one

  pub fails : (e : ReadError) → i < limit → Fails e (next bytes) → Fails e total
  unfolding many
  fails errors.Memory more failed = tt
  fails errors.NoManifest more failed =
      let k : limit - i ≡ suc (limit - (i + 1)) = omega arith in
      let one : with_front front (many next (limit - i) bytes) ≡ None = rw (k, failed) refl in
      sym so_far ∙ one

  pub is_spent : limit ≤ i → total ≡ None
  unfolding many
  is_spent none =
      let k : limit - i ≡ 0 = omega arith in
      let one : with_front front (many next (limit - i) bytes) ≡ None = rw k refl in
      sym so_far ∙ one

pub lines_fail : (e : ReadError) (limit : ℕ) (bytes : List ℕ) → Fails e (many next_line_at limit bytes)
    → Fails e (lines_at limit bytes)
lines_fail errors.Memory limit bytes failed = tt
lines_fail errors.NoManifest limit bytes failed = rw failed refl

-- ---- digits

abbrev Read : Type 0
Read = Option (ℕ × List ℕ)

abbrev Met : Read → Read → Type 0
Met a b = a ≡ b

abbrev value_in : Read → ℕ
value_in None = 0
value_in (Some x) = x.0

abbrev rest_in : Read → List ℕ
rest_in None = []
rest_in (Some x) = x.1

abbrev is_there : Read → Bool
is_there None = false
is_there (Some x) = true

pub digit_goes : (number : ℕ) (left : List ℕ) (digit : ℕ) (rest : List ℕ)
    → Met (Some (digit, rest)) (decimal_digit_at left)
    → decimal_from number left ≡ (pushed number digit >>= λ next. decimal_from next rest)
unfolding decimal_from
digit_goes number [] digit rest is = absurd (true≢false (ap is_there is))
digit_goes number (b ∷ bytes) digit rest is = by (leb 48 b && leb b 57) is
  where
    by : (t : Bool) → Met (Some (digit, rest)) (cond t (Some (b - 48, bytes)) None)
        → cond t (pushed number (b - 48) >>= λ next. decimal_from next bytes) (Some (number, b ∷ bytes))
        ≡ (pushed number digit >>= λ next. decimal_from next rest)
    by true found =
        let first : b - 48 ≡ digit = sym (ap value_in found) in
        let second : bytes ≡ rest = sym (ap rest_in found) in
        λ i. pushed number (first i) >>= λ next. decimal_from next (second i)
    by false found = absurd (true≢false (ap is_there found))

pub digits_stop : (number : ℕ) (left : List ℕ) → Met None (decimal_digit_at left)
    → decimal_from number left ≡ Some (number, left)
unfolding decimal_from
digits_stop number [] is = refl
digits_stop number (b ∷ bytes) is = by (leb 48 b && leb b 57) is
  where
    by : (t : Bool) → Met None (cond t (Some (b - 48, bytes)) None)
        → cond t (pushed number (b - 48) >>= λ next. decimal_from next bytes) (Some (number, b ∷ bytes))
        ≡ Some (number, b ∷ bytes)
    by true found = absurd (true≢false (sym (ap is_there found)))
    by false found = refl

pub digit_shortens : (left : List ℕ) (digit : ℕ) (rest : List ℕ) → Met (Some (digit, rest))
    (decimal_digit_at left)
    → length rest < length left
digit_shortens [] digit rest is = absurd (true≢false (ap is_there is))
digit_shortens (b ∷ bytes) digit rest is = by (leb 48 b && leb b 57) is
  where
    by : (t : Bool) → Met (Some (digit, rest)) (cond t (Some (b - 48, bytes)) None) → length rest < length
        (b ∷ bytes)
    by true found =
        let same : length rest ≡ length bytes = ap (λ r. length (rest_in r)) found in
        omega arith
    by false found = absurd (true≢false (ap is_there found))

-- Reading items one after another, as a loop does.
use Rattle.std.proofs.Common.{◌≡◌, ℕ, suc, ◌+◌, ◌-◌, ◌<◌, ◌≤◌, Bool, true, false, ◌&&◌, cond, leb, List, [], ◌∷◌, ◌++◌, codes, length, Option, Some, None, refl, sym, ap, ◌∙◌, append_assoc, append-nil, true≢false, arith}
use Rattle.std.specs.Prelude.{filter, map}
use Rattle.std.specs.List.{range_with_len}
use Rattle.std.proofs.lemmas.List.FromFn.{filter_of_map_range_with_len_more, map-range_with_len_more}
use Rattle.nl_damage.specs.declared.sums.digests.Digest.{Digest}
use Rattle.nl_damage.specs.ImageSums.{digest_of_segment}
use Rattle.nl_damage.specs.Private.SumReading.{◌>>=◌, decimal_digit_at, decimal_from, digest_at, pushed, segments_at}

-- ---- segments

-- what was read before, and what is still read
abbrev pub with_front : List Digest → Option (List Digest) → Option (List Digest)
with_front front read = read >>= λ more. Some (front ++ more)

regroup : (front : List Digest) (item : Digest) (read : Option (List Digest))
    → with_front front (read >>= λ more. Some (item ∷ more)) ≡ with_front (front ++ item ∷ []) read
regroup front item (Some more) = ap (λ (items : List Digest). Some items) (sym (append_assoc front (item ∷
    []) more))
regroup front item None = refl

-- ---- digits

abbrev Read : Type 0
Read = Option (ℕ × List ℕ)

abbrev Met : Read → Read → Type 0
Met a b = a ≡ b

abbrev value_in : Read → ℕ
value_in None = 0
value_in (Some x) = x.0

abbrev rest_in : Read → List ℕ
rest_in None = []
rest_in (Some x) = x.1

abbrev is_there : Read → Bool
is_there None = false
is_there (Some x) = true

pub digit_goes : (number : ℕ) (left : List ℕ) (digit : ℕ) (rest : List ℕ)
    → Met (Some (digit, rest)) (decimal_digit_at left)
    → decimal_from number left ≡ (pushed number digit >>= λ next. decimal_from next rest)
unfolding decimal_from
digit_goes number [] digit rest is = absurd (true≢false (ap is_there is))
digit_goes number (b ∷ bytes) digit rest is = by (leb 48 b && leb b 57) is
  where
    by : (t : Bool) → Met (Some (digit, rest)) (cond t (Some (b - 48, bytes)) None)
        → cond t (pushed number (b - 48) >>= λ next. decimal_from next bytes) (Some (number, b ∷ bytes))
        ≡ (pushed number digit >>= λ next. decimal_from next rest)
    by true found =
        let first : b - 48 ≡ digit = sym (ap value_in found) in
        let second : bytes ≡ rest = sym (ap rest_in found) in
        λ i. pushed number (first i) >>= λ next. decimal_from next (second i)
    by false found = absurd (true≢false (ap is_there found))

pub digits_stop : (number : ℕ) (left : List ℕ) → Met None (decimal_digit_at left)
    → decimal_from number left ≡ Some (number, left)
unfolding decimal_from
digits_stop number [] is = refl
digits_stop number (b ∷ bytes) is = by (leb 48 b && leb b 57) is
  where
    by : (t : Bool) → Met None (cond t (Some (b - 48, bytes)) None)
        → cond t (pushed number (b - 48) >>= λ next. decimal_from next bytes) (Some (number, b ∷ bytes))
        ≡ Some (number, b ∷ bytes)
    by true found = absurd (true≢false (sym (ap is_there found)))
    by false found = refl

pub digit_shortens : (left : List ℕ) (digit : ℕ) (rest : List ℕ) → Met (Some (digit, rest))
    (decimal_digit_at left)
    → length rest < length left
digit_shortens [] digit rest is = absurd (true≢false (ap is_there is))
digit_shortens (b ∷ bytes) digit rest is = by (leb 48 b && leb b 57) is
  where
    by : (t : Bool) → Met (Some (digit, rest)) (cond t (Some (b - 48, bytes)) None) → length rest < length
        (b ∷ bytes)
    by true found =
        let same : length rest ≡ length bytes = ap (λ r. length (rest_in r)) found in
        omega arith
    by false found = absurd (true≢false (ap is_there found))

-- ---- one more segment

abbrev pub LineRead : Type 0
LineRead = Option (Digest × List ℕ)

abbrev pub LineMet : LineRead → LineRead → Type 0
LineMet a b = a ≡ b

abbrev pub segment_label : List ℕ
segment_label = codes "segment "

module _ (front : List Digest) (count i : ℕ) (bytes : List ℕ) (total : Option (List Digest))
    (so_far : with_front front (segments_at (count - i) bytes) ≡ total) where
  pub goes_on : (digest : Digest) (rest : List ℕ) → i < count
      → LineMet (Some (digest, rest)) (digest_at segment_label bytes)
      → with_front (front ++ digest ∷ []) (segments_at (count - (i + 1)) rest) ≡ total
  unfolding segments_at
  goes_on digest rest more found =
      let k : count - i ≡ suc (count - (i + 1)) = omega arith in
      let one : with_front front (segments_at (count - i) bytes)
      ≡ with_front (front ++ digest ∷ []) (segments_at (count - (i + 1)) rest) =
      rw (k, sym found) (regroup front digest (segments_at (count - (i + 1)) rest)) in
      sym one ∙ so_far

  pub fails : i < count → LineMet None (digest_at segment_label bytes) → total ≡ None
  unfolding segments_at
  fails more missing =
      let k : count - i ≡ suc (count - (i + 1)) = omega arith in
      let one : with_front front (segments_at (count - i) bytes) ≡ None = rw (k, sym missing) refl in
      sym so_far ∙ one

  pub ends : count ≤ i → total ≡ Some front
  unfolding segments_at
  ends all =
      let k : count - i ≡ 0 = omega arith in
      let one : with_front front (segments_at (count - i) bytes) ≡ Some front =
      rw k (ap (λ (items : List Digest). Some items) (append-nil front)) in
      sym so_far ∙ one

-- ---- one more place

pub segments_more : (image : List ℕ) (front size n : ℕ)
    → map (digest_of_segment image front size) (range_with_len 0 (n + 1))
    ≡ map (digest_of_segment image front size) (range_with_len 0 n) ++ digest_of_segment image front size n ∷ []
segments_more image front size n = map-range_with_len_more (digest_of_segment image front size) 0 n n (omega arith)

map_same : (xs : List ℕ) → map (λ (k : ℕ). k) xs ≡ xs
map_same [] = refl
map_same (x ∷ xs) = ap (λ (ys : List ℕ). x ∷ ys) (map_same xs)

pub differing_more : (p : ℕ → Bool) (n : ℕ)
    → filter p (range_with_len 0 (n + 1)) ≡ filter p (range_with_len 0 n) ++ cond (p n) (n ∷ []) []
differing_more p n =
    ap (filter p) (sym (map_same (range_with_len 0 (n + 1))))
    ∙ filter_of_map_range_with_len_more p (λ (k : ℕ). k) 0 n n (omega arith)
    ∙ ap (λ (ys : List ℕ). filter p ys ++ cond (p n) (n ∷ []) []) (map_same (range_with_len 0 n))

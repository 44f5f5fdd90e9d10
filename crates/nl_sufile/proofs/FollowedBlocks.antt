-- Counts that follow blocks.
use Rattle.std.proofs.Common.{◌≡◌, ◌≢◌, ℕ, zero, suc, ◌+◌, ◌-◌, ◌*◌, ◌<◌, ◌≤◌, ◌⊎◌, Bool, true, false, cond, List, length, get_or, Option, Some, None, inl, inr, sym, refl, ap, ◌∙◌, arith}
use Rattle.std.specs.Prelude.{nat_le, nat_lt, slice_index_or}
use Rattle.std.proofs.Math.Nat.{mul-le-mul_right}
use Rattle.std.proofs.lemmas.Bool.{cases_eq, cases_lt, and_parts, leb-true, ltb-true}
use Rattle.std.proofs.lemmas.Grind.{get_or-set_at}
use Rattle.std.proofs.lemmas.List.{get_or-set_other, length-set}
use Rattle.nl_types.specs.Blocks.PartialMaps.{Partial}
use Rattle.nl_sufile.specs.BySegment.{AddedIsCounted, AreCounts, CountsAreFew, CountsChangeByOne, HasBlock, TakenIsCounted, TakenWasCounted, bit, count_in, count_to, lies_in, one_less, one_more}

same-counts : (old new : ℕ → Bool) (n : ℕ) → ((w : ℕ) → w ≤ n → new w ≡ old w)
    → count_to new n ≡ count_to old n
same-counts old new zero same = refl
same-counts old new (suc n) same =
    let rest = same-counts old new n (λ w low. same w (omega (arith, low))) in
    omega (arith, rest, ap bit (same (suc n) (omega arith)))

pub counts-change : CountsChangeByOne
counts-change old new zero v low high same = absurd (omega (arith, low, high))
counts-change old new (suc n) v low high same = elim (cases_eq v (suc n)) [
  | inl at ↦
      let rest : count_to new n ≡ count_to old n =
      same-counts old new n (λ w few. same w (λ is. absurd (omega (arith, is, at, few)))) in
      omega (arith, rest, ap (λ k. bit (old k)) at, ap (λ k. bit (new k)) at)
  | inr other ↦
      let rest = counts-change old new n v low (omega (arith, high, other)) same in
      omega (arith, rest, ap bit (same (suc n) (λ is. other (sym is))))
]

counted-few : (test : ℕ → Bool) (n : ℕ) → count_to test n ≤ n
counted-few test zero = omega arith
counted-few test (suc n) = by (test (suc n)) (counted-few test n)
  where
    by : (b : Bool) → count_to test n ≤ n → cond {A = ℕ} b 1 0 + count_to test n ≤ suc n
    by true few = omega (arith, few)
    by false few = omega (arith, few)

counted-some : (test : ℕ → Bool) (n v : ℕ) → 1 ≤ v → v ≤ n → test v ≡ true → 0 < count_to test n
counted-some test zero v low high passes = absurd (omega (arith, low, high))
counted-some test (suc n) v low high passes = elim (cases_eq v (suc n)) [
  | inl at ↦ let here : bit (test (suc n)) ≡ 1 = ap bit (sym (ap test at) ∙ passes) in omega (arith, here)
  | inr other ↦
      let some = counted-some test n v low (omega (arith, high, other)) passes in omega (arith, some)
]

-- ---- segments

-- a block lies in one segment
inside-one : (blocks i j b : ℕ) → lies_in blocks i (Some b) ≡ true → lies_in blocks j (Some b) ≡ true → i ≡ j
inside-one blocks i j b one other =
    let (low_i, high_i) = and_parts (nat_le (i * blocks) b) (nat_lt b (i * blocks + blocks)) one in
    let (low_j, high_j) = and_parts (nat_le (j * blocks) b) (nat_lt b (j * blocks + blocks)) other in
    by (leb-true (i * blocks) b low_i) (ltb-true b (i * blocks + blocks) high_i)
    (leb-true (j * blocks) b low_j) (ltb-true b (j * blocks + blocks) high_j)
  where
    by : i * blocks ≤ b → b < i * blocks + blocks → j * blocks ≤ b → b < j * blocks + blocks → i ≡ j
    by a c d e = elim (cases_lt i j) [
      | inl low ↦
          absurd (let m : (i + 1) * blocks ≤ j * blocks = mul-le-mul_right blocks (omega (arith, low)) in
          omega (arith, m, c, d))
      | inr high ↦ elim (cases_lt j i) [
        | inl low ↦
            absurd (let m : (j + 1) * blocks ≤ i * blocks = mul-le-mul_right blocks (omega (arith, low)) in
            omega (arith, m, a, e))
        | inr low ↦ omega (arith, high, low)
      ]
    ]

-- a number without a block lies nowhere
nowhere : (blocks i : ℕ) (o : Option ℕ) → o ≡ None → lies_in blocks i o ≡ false
nowhere blocks i o is = ap (lies_in blocks i) is

bit-of : {b : Bool} {t : Bool} → b ≡ t → bit b ≡ bit t
bit-of is = ap bit is

module _ (blocks n v b segment : ℕ) (old new : Partial ℕ) (low : 1 ≤ v) (high : v ≤ n)
    (has : HasBlock v b old new) (inside : lies_in blocks segment (Some b) ≡ true) where
  -- the count of each segment, by whether it is the block's
  counted : (i : ℕ) → count_in blocks n new i ≡ count_in blocks n old i + bit (lies_in blocks i (Some b))
  counted i =
      let one =
      counts-change (λ w. lies_in blocks i (old w)) (λ w. lies_in blocks i (new w)) n v low high
      (λ w other. ap (lies_in blocks i) (has.others w other)) in
      omega (arith, one, bit-of (nowhere blocks i (old v) has.before), bit-of (ap (lies_in blocks i) has.now))

  here : count_in blocks n new segment ≡ count_in blocks n old segment + 1
  here = omega (arith, counted segment, bit-of inside)

  elsewhere : (i : ℕ) → i ≢ segment → count_in blocks n new i ≡ count_in blocks n old i
  elsewhere i other = omega (arith, counted i, bit-of (apart (lies_in blocks i (Some b)) refl))
    where
      apart : (t : Bool) → lies_in blocks i (Some b) ≡ t → lies_in blocks i (Some b) ≡ false
      apart true is = absurd (other (inside-one blocks i segment b is inside))
      apart false is = is

  pub added : (counts : List ℕ) → segment < length counts → AreCounts blocks n old counts
      → AreCounts blocks n new (one_more segment counts)
  added counts there are = record {
    each = λ i in_range.
        by i (omega (arith, in_range, length-set counts segment (get_or counts segment 0 + 1)))
        (cases_eq i segment);
  }
    where
      by : (i : ℕ) → i < length counts → (i ≡ segment) ⊎ (i ≢ segment)
          → slice_index_or (one_more segment counts) i 0 ≡ count_in blocks n new i
      by i in_range (inl same) =
          get_or-set_at counts segment i (get_or counts segment 0 + 1) 0 same there
          ∙ (omega (arith, are.each segment there, here) ∙ ap (count_in blocks n new) (sym same))
      by i in_range (inr other) =
          get_or-set_other counts segment i (get_or counts segment 0 + 1) 0 other
          ∙ (are.each i in_range ∙ sym (elsewhere i other))

  pub taken : (counts : List ℕ) → segment < length counts → AreCounts blocks n new counts
      → AreCounts blocks n old (one_less segment counts)
  taken counts there are = record {
    each = λ i in_range.
        by i (omega (arith, in_range, length-set counts segment (get_or counts segment 0 - 1)))
        (cases_eq i segment);
  }
    where
      by : (i : ℕ) → i < length counts → (i ≡ segment) ⊎ (i ≢ segment)
          → slice_index_or (one_less segment counts) i 0 ≡ count_in blocks n old i
      by i in_range (inl same) =
          get_or-set_at counts segment i (get_or counts segment 0 - 1) 0 same there
          ∙ (omega (arith, are.each segment there, here) ∙ ap (count_in blocks n old) (sym same))
      by i in_range (inr other) =
          get_or-set_other counts segment i (get_or counts segment 0 - 1) 0 other
          ∙ (are.each i in_range ∙ elsewhere i other)

pub added-is-counted : AddedIsCounted
added-is-counted blocks n v b segment old new counts low high has inside there are =
    added blocks n v b segment old new low high has inside counts there are

pub taken-is-counted : TakenIsCounted
taken-is-counted blocks n v b segment old new counts low high has inside there are =
    taken blocks n v b segment new old low high has inside counts there are

pub counts-are-few : CountsAreFew
counts-are-few blocks n segment at counts there are =
    let few = counted-few (λ v. lies_in blocks segment (at v)) n in omega (arith, few, are.each segment there)

pub taken-was-counted : TakenWasCounted
taken-was-counted blocks n v b segment at counts low high is inside there are =
    let some =
    counted-some (λ w. lies_in blocks segment (at w)) n v low high
    (ap (lies_in blocks segment) is ∙ inside) in
    omega (arith, some, are.each segment there)

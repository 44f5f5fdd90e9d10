-- Why virtual numbers do not run out before blocks do: each in use has a used block of its own.
use Rattle.std.proofs.Common.{◌≡◌, ℕ, zero, suc, ◌+◌, ◌*◌, ◌<◌, ◌≤◌, Bool, true, false, cond, List, [], ◌∷◌, ◌++◌, Some, None, Option, inl, inr, ⊎_elim, sym, refl, ap, subst, ◌∙◌, length, is_some, arith}
use Rattle.std.specs.Prelude.{◌==◌, ◌||◌, nat_eq}
use Rattle.std.specs.Cmp.{nat_eq_equiv}
use Rattle.std.specs.List.{AllByRecursion, IsDistinct}
use Rattle.std.specs.Set.{is_member}
use Rattle.std.proofs.lemmas.Bool.{cases_Bool, eqb-true, eq-eqb, ne_eqb, or_cases}
use Rattle.std.proofs.lemmas.List.{length-append}
use Rattle.std.proofs.lemmas.List.Folds.{list_any-append}
use Rattle.std.proofs.lemmas.Map.Made.{length-le_from_is_member}
use Rattle.nl_types.specs.declared.segment.SegmentInfo.{SegmentInfo}
use Rattle.nl_types.specs.Blocks.Segments.{Segments, info_of, IsUsed, used_in, used_blocks}
use Rattle.nl_types.specs.Blocks.Placing.{blocks_from}
use Rattle.nl_types.specs.Blocks.PartialMaps.{Partial}
use Rattle.nl_types.specs.Blocks.Entries.{Birth, Content, number_of}
use Rattle.nl_sufile.specs.BySegment.{count_to}
use Rattle.nl_vstore.specs.Batches.{is_born, is_taken}

-- ---- how many numbers pass a test

count-all : (test : ℕ → Bool) (n : ℕ) → ((v : ℕ) → 1 ≤ v → v ≤ n → test v ≡ true) → count_to test n ≡ n
count-all test zero each = refl
count-all test (suc n) each =
    let rest : count_to test n ≡ n = count-all test n (λ v low high. each v low (omega (arith, high))) in
    ap (λ b. cond {A = ℕ} b 1 0 + count_to test n) (each (suc n) (omega arith) (omega arith))
    ∙ omega (arith, rest)

count-either : (one other : ℕ → Bool) (n : ℕ)
    → count_to (λ v. one v || other v) n ≤ count_to one n + count_to other n
count-either one other zero = omega arith
count-either one other (suc n) =
    let rest = count-either one other n in
    omega (arith, rest, parts (one (suc n)) (other (suc n)))
  where
    parts : (a b : Bool) → cond {A = ℕ} (a || b) 1 0 ≤ cond {A = ℕ} a 1 0 + cond {A = ℕ} b 1 0
    parts true b = omega arith
    parts false b = omega arith

-- ---- different values are at most as many as the members of a list that has them all

abbrev with_value : Option ℕ → List ℕ → List ℕ
with_value None bs = bs
with_value (Some b) bs = b ∷ bs

-- the values of the numbers 1 to n
abbrev values : Partial ℕ → ℕ → List ℕ
values m zero = []
values m (suc n) = with_value (m (suc n)) (values m n)

length-with_value : (o : Option ℕ) (bs : List ℕ)
    → length (with_value o bs) ≡ cond {A = ℕ} (is_some o) 1 0 + length bs
length-with_value None bs = omega arith
length-with_value (Some b) bs = omega arith

length-values : (m : Partial ℕ) (n : ℕ) → length (values m n) ≡ count_to (λ v. is_some (m v)) n
length-values m zero = refl
length-values m (suc n) = omega (arith, length-with_value (m (suc n)) (values m n), length-values m n)

-- each value is one of a number's
value_from : (m : Partial ℕ) (n b : ℕ) → is_member nat_eq (values m n) b ≡ true
    → (v : ℕ) × (v ≤ n) × (m v ≡ Some b)
value_from m zero b h = cc
value_from m (suc n) b h =
    elim (m (suc n)) as (λ o.
    m (suc n) ≡ o → is_member nat_eq (with_value o (values m n)) b ≡ true
    → (v : ℕ) × (v ≤ suc n) × (m v ≡ Some b)) [
      | None ↦ λ is h. later (value_from m n b h)
      | Some a ↦ λ is h. ⊎_elim
          (λ e. (suc n, omega arith, is ∙ ap Some (sym (eqb-true b a e))))
          (λ e. later (value_from m n b e))
          (or_cases (nat_eq b a) (is_member nat_eq (values m n) b) h)
    ] refl h
  where
    later : (v : ℕ) × (v ≤ n) × (m v ≡ Some b) → (v : ℕ) × (v ≤ suc n) × (m v ≡ Some b)
    later (v, low, is) = (v, omega (arith, low), is)

-- what no member is equal to stands before them all
distinct-from : (bs : List ℕ) (b : ℕ) → is_member nat_eq bs b ≡ false
    → AllByRecursion (λ a. nat_eq b a ≡ false) bs
distinct-from [] b none = tt
distinct-from (a ∷ bs) b none = elim (cases_Bool (nat_eq b a)) [
  | inl e ↦ let some : true ≡ false = sym (ap (λ t. t || is_member nat_eq bs b) e) ∙ none in cc
  | inr e ↦ (e, distinct-from bs b (sym (ap (λ t. t || is_member nat_eq bs b) e) ∙ none))
]

distinct-values : (m : Partial ℕ) (n : ℕ) → ((v w b : ℕ) → m v ≡ Some b → m w ≡ Some b → v ≡ w)
    → IsDistinct nat_eq (values m n)
unfolding IsDistinct
distinct-values m zero apart = tt
distinct-values m (suc n) apart =
    elim (m (suc n)) as (λ o. m (suc n) ≡ o → IsDistinct nat_eq (with_value o (values m n))) [
      | None ↦ λ is. distinct-values m n apart
      | Some b ↦ λ is. (
        distinct-from (values m n) b (elim (cases_Bool (is_member nat_eq (values m n) b)) [
          | inl e ↦
              let other = value_from m n b e in
              let same : suc n ≡ other.0 = apart (suc n) other.0 b is other.2 in
              absurd (omega (arith, same, other.1))
          | inr e ↦ e
        ]),
        distinct-values m n apart,
      )
    ] refl

-- so many numbers have values as a list has members, at most
pub values-at-most : (m : Partial ℕ) (n : ℕ) (bs : List ℕ)
    → ((v w b : ℕ) → m v ≡ Some b → m w ≡ Some b → v ≡ w)
    → ((v b : ℕ) → m v ≡ Some b → is_member nat_eq bs b ≡ true) → count_to (λ v. is_some (m v)) n ≤ length bs
values-at-most m n bs apart members =
    let few =
    length-le_from_is_member nat_eq_equiv (values m n) bs (distinct-values m n apart)
    (λ b h. let v = value_from m n b h in members v.0 b v.2) in
    omega (arith, few, length-values m n)

-- ---- the used blocks of all segments

abbrev used_list : ℕ → ℕ → List SegmentInfo → List ℕ
used_list blocks i [] = []
used_list blocks i (info ∷ infos) = blocks_from (i * blocks) info.used ++ used_list blocks (suc i) infos

length-row_of : (b n : ℕ) → length (blocks_from b n) ≡ n
length-row_of b zero = refl
length-row_of b (suc n) = ap suc (length-row_of (suc b) n)

length-used_list : (blocks i : ℕ) (infos : List SegmentInfo)
    → length (used_list blocks i infos) ≡ used_in infos
length-used_list blocks i [] = refl
length-used_list blocks i (info ∷ infos) =
    length-append (blocks_from (i * blocks) info.used) (used_list blocks (suc i) infos)
    ∙ omega (arith, length-row_of (i * blocks) info.used, length-used_list blocks (suc i) infos)

in_row : (b n k : ℕ) → k < n → is_member nat_eq (blocks_from b n) (b + k) ≡ true
in_row b zero k low = absurd (omega (arith, low))
in_row b (suc n) zero low =
    let here : b + 0 ≡ b = omega arith in
    ap (λ t. t || is_member nat_eq (blocks_from (suc b) n) (b + 0)) (eq-eqb (b + 0) b here)
in_row b (suc n) (suc k) low =
    let next : suc b + k ≡ b + suc k = omega arith in
    or_right (nat_eq (b + suc k) b)
    (subst (λ c. is_member nat_eq (blocks_from (suc b) n) c ≡ true) next
    (in_row (suc b) n k (omega (arith, low))))
  where
    or_right : (a : Bool) {c : Bool} → c ≡ true → (a || c) ≡ true
    or_right true h = refl
    or_right false h = h

member-append-left : (xs ys : List ℕ) (b : ℕ) → is_member nat_eq xs b ≡ true
    → is_member nat_eq (xs ++ ys) b ≡ true
member-append-left xs ys b h = list_any-append (nat_eq b) xs ys ∙ ap (λ t. t || is_member nat_eq ys b) h

member-append-right : (xs ys : List ℕ) (b : ℕ) → is_member nat_eq ys b ≡ true
    → is_member nat_eq (xs ++ ys) b ≡ true
member-append-right xs ys b h = list_any-append (nat_eq b) xs ys ∙ or_right (is_member nat_eq xs b) h
  where
    or_right : (a : Bool) {c : Bool} → c ≡ true → (a || c) ≡ true
    or_right true h = refl
    or_right false h = h

in_used_list : (blocks i : ℕ) (infos : List SegmentInfo) (j k : ℕ) → k < (info_of infos j).used
    → is_member nat_eq (used_list blocks i infos) ((i + j) * blocks + k) ≡ true
in_used_list blocks i [] j k low = absurd (none j low)
  where
    none : (j : ℕ) → k < (info_of [] j).used → ⊥
    none zero low = omega (arith, low)
    none (suc j) low = omega (arith, low)
in_used_list blocks i (info ∷ infos) zero k low =
    let here : i * blocks + k ≡ (i + 0) * blocks + k = ap (λ n. n * blocks + k) (omega arith) in
    member-append-left (blocks_from (i * blocks) info.used) (used_list blocks (suc i) infos)
    ((i + 0) * blocks + k)
    (subst (λ b. is_member nat_eq (blocks_from (i * blocks) info.used) b ≡ true) here
    (in_row (i * blocks) info.used k low))
in_used_list blocks i (info ∷ infos) (suc j) k low =
    let next : (suc i + j) * blocks + k ≡ (i + suc j) * blocks + k = ap (λ n. n * blocks + k) (omega arith) in
    member-append-right (blocks_from (i * blocks) info.used) (used_list blocks (suc i) infos)
    ((i + suc j) * blocks + k)
    (subst (λ b. is_member nat_eq (used_list blocks (suc i) infos) b ≡ true) next
    (in_used_list blocks (suc i) infos j k low))

-- ---- numbers in use, and numbers of a batch

-- numbers with used blocks of their own are at most as many as the used blocks
in_use-at-most : (s : Segments) (addresses : Partial ℕ) (n : ℕ)
    → ((v w b : ℕ) → addresses v ≡ Some b → addresses w ≡ Some b → v ≡ w)
    → ((v b : ℕ) → addresses v ≡ Some b → IsUsed s b)
    → count_to (λ v. is_some (addresses v)) n ≤ used_blocks s
in_use-at-most s addresses n apart used =
    let few =
    values-at-most addresses n (used_list s.blocks 0 s.each) apart (λ v b is. member (used v b is)) in
    omega (arith, few, length-used_list s.blocks 0 s.each)
  where
    member : {b : ℕ} → IsUsed s b → is_member nat_eq (used_list s.blocks 0 s.each) b ≡ true
    member {b} (place, at, low) =
        let here : (0 + place.segment) * s.blocks + place.block ≡ b =
        ap (λ n. n * s.blocks + place.block) (omega arith) ∙ sym at in
        subst (λ c. is_member nat_eq (used_list s.blocks 0 s.each) c ≡ true) here
        (in_used_list s.blocks 0 s.each place.segment place.block low)

-- numbers given to births are at most as many as these
born-at-most : (births : List Birth) (n : ℕ) → count_to (is_born births) n ≤ length births
born-at-most [] n = omega (arith, none n)
  where
    none : (n : ℕ) → count_to (is_born []) n ≡ 0
    none zero = refl
    none (suc n) = omega (arith, none n)
born-at-most (b ∷ births) n =
    let one = count-either (λ v. number_of b == v) (is_born births) n in
    omega (arith, one, born-at-most births n, count-one n)
  where
    none_yet : (n : ℕ) → n < number_of b → count_to (λ v. number_of b == v) n ≡ 0
    none_yet zero low = refl
    none_yet (suc n) low =
        let other : nat_eq (number_of b) (suc n) ≡ false =
        ne_eqb (number_of b) (suc n) (λ same. absurd (omega (arith, low, same))) in
        ap (λ t. cond {A = ℕ} t 1 0 + count_to (λ v. number_of b == v) n) other
        ∙ omega (arith, none_yet n (omega (arith, low)))

    count-one : (n : ℕ) → count_to (λ v. number_of b == v) n ≤ 1
    count-one zero = omega arith
    count-one (suc n) = elim (cases_Bool (nat_eq (number_of b) (suc n))) [
      | inl e ↦
          let here : number_of b ≡ suc n = eqb-true (number_of b) (suc n) e in
          let rest = none_yet n (omega (arith, here)) in
          let now : count_to (λ v. number_of b == v) (suc n) ≡ 1 + count_to (λ v. number_of b == v) n =
          ap (λ t. cond {A = ℕ} t 1 0 + count_to (λ v. number_of b == v) n) e in
          omega (arith, now, rest)
      | inr e ↦
          let now : count_to (λ v. number_of b == v) (suc n) ≡ 0 + count_to (λ v. number_of b == v) n =
          ap (λ t. cond {A = ℕ} t 1 0 + count_to (λ v. number_of b == v) n) e in
          omega (arith, now, count-one n)
    ]

-- where all numbers are taken, the used blocks and the births are as many, or more
pub taken-need-blocks : (s : Segments) (addresses : Partial ℕ) (content : Content) (births : List Birth)
    (n : ℕ)
    → ((v w b : ℕ) → addresses v ≡ Some b → addresses w ≡ Some b → v ≡ w)
    → ((v b : ℕ) → addresses v ≡ Some b → IsUsed s b)
    → ((v : ℕ) → is_some (addresses v) ≡ is_some (content v))
    → ((v : ℕ) → 1 ≤ v → v ≤ n → is_taken content births v ≡ true) → n ≤ used_blocks s + length births
taken-need-blocks s addresses content births n apart used same taken =
    let all : count_to (λ v. is_some (addresses v) || is_born births v) n ≡ n =
    count-all (λ v. is_some (addresses v) || is_born births v) n
    (λ v low high. ap (λ t. t || is_born births v) (same v) ∙ taken v low high) in
    omega (
      arith,
      all,
      count-either (λ v. is_some (addresses v)) (is_born births) n,
      in_use-at-most s addresses n apart used,
      born-at-most births n,
    )

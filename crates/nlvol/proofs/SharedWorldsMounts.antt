-- Lists of the mounts that are held.
use Rattle.std.proofs.Common.{◌≡◌, ◌≢◌, ℕ, ◌+◌, suc, Bool, true, false, not, cond, List, [], ◌∷◌, ◌++◌, length, map, Option, Some, None, refl, sym, ap, ◌∙◌, subst, inl, inr, eqb-true, arith, lt-ltb}
use Rattle.std.specs.Prelude.{nat_lt}
use Rattle.std.proofs.lemmas.Bool.{cases_Bool, eqb-false}
use Rattle.std.proofs.lemmas.Bool.Decides.{nat_tests}
use Rattle.std.proofs.lemmas.Option.{same_Some}
use Rattle.std.specs.List.{AllByRecursion, position_or_len}
use Rattle.std.specs.Option.{option_and_then}
use Rattle.std.specs.Prelude.{slice_get}
use Rattle.nl_publish.specs.Locks.{listed}
use Rattle.nl_publish.specs.Mounts.{Claim}
use Rattle.nlvol.specs.SharedLaws.{DifferAll, number_of}
use Rattle.nlvol.specs.SharedVolumes.{is_numbered, mount_of, removed_at, without_mount}

-- ---- what holds of all

pub each_so : (P Q : Claim → Type 0) → ((m : Claim) → P m → Q m) → (claims : List Claim)
    → AllByRecursion P claims → AllByRecursion Q claims
each_so P Q so [] all = tt
each_so P Q so (m ∷ claims) all = (so m all.0, each_so P Q so claims all.1)

pub all_and_one : (P : Claim → Type 0) (claims : List Claim) (m : Claim) → AllByRecursion P claims → P m
    → AllByRecursion P (claims ++ m ∷ [])
all_and_one P [] m all one = (one, tt)
all_and_one P (c ∷ claims) m all one = (all.0, all_and_one P claims m all.1 one)

-- of numbers as of mounts
pub numbers_so : (P : ℕ → Type 0) (claims : List Claim) → AllByRecursion P (map number_of claims)
    → AllByRecursion (λ (m : Claim). P m.number) claims
numbers_so P [] all = tt
numbers_so P (m ∷ claims) all = (all.0, numbers_so P claims all.1)

pub so_numbers : (P : ℕ → Type 0) (claims : List Claim) → AllByRecursion (λ (m : Claim). P m.number) claims
    → AllByRecursion P (map number_of claims)
so_numbers P [] all = tt
so_numbers P (m ∷ claims) all = (all.0, so_numbers P claims all.1)

-- ---- numbers that differ

-- one more mount, of a number that none has
pub differ_more : (claims : List Claim) (m : Claim) → DifferAll (map number_of claims)
    → AllByRecursion (λ (c : Claim). c.number ≢ m.number) claims
    → DifferAll (map number_of (claims ++ m ∷ []))
differ_more [] m differ new = (tt, tt)
differ_more (c ∷ claims) m differ new = (
  so_numbers (λ (n : ℕ). n ≢ c.number) (claims ++ m ∷ [])
      (all_and_one (λ (d : Claim). d.number ≢ c.number) claims m
      (numbers_so (λ (n : ℕ). n ≢ c.number) claims differ.0) (λ same. new.0 (sym same))),
  differ_more claims m differ.1 new.1,
)

pub differ_rest : (lost : Option ℕ) (numbers : List ℕ) → DifferAll (listed lost ++ numbers)
    → DifferAll numbers
differ_rest None numbers differ = differ
differ_rest (Some n) numbers differ = differ.1

-- where nothing is lost
pub differ_none : (lost : Option ℕ) (numbers : List ℕ) → lost ≡ None → DifferAll numbers
    → DifferAll (listed lost ++ numbers)
differ_none lost numbers none differ =
    subst (λ (o : Option ℕ). DifferAll (listed o ++ numbers)) (sym none) differ

pub differ_some : (lost : Option ℕ) (n : ℕ) (claims : List Claim) → lost ≡ Some n
    → DifferAll (map number_of claims)
    → AllByRecursion (λ (c : Claim). c.number ≢ n) claims → DifferAll (listed lost ++ map number_of claims)
differ_some lost n claims some differ new =
    subst (λ (o : Option ℕ). DifferAll (listed o ++ map number_of claims)) (sym some)
    (so_numbers (λ (j : ℕ). j ≢ n) claims new, differ)

-- the lost mount is none of them
pub none_is_lost : (lost : Option ℕ) (n : ℕ) (claims : List Claim) → lost ≡ Some n
    → DifferAll (listed lost ++ map number_of claims)
    → AllByRecursion (λ (c : Claim). c.number ≢ n) claims
none_is_lost lost n claims some differ =
    let with_it : DifferAll (n ∷ map number_of claims) =
    subst (λ (o : Option ℕ). DifferAll (listed o ++ map number_of claims)) some differ in
    numbers_so (λ (j : ℕ). j ≢ n) claims with_it.0

-- ---- the mount of a number

shifted : (k n : ℕ) → nat_lt (1 + k) (suc n) ≡ nat_lt k n
shifted k n = grind (arith, nat_tests)

module _ (n : ℕ) (c : Claim) (claims : List Claim) where
  -- where it stands, by whether it is the first one
  abbrev stands : Bool → ℕ
  stands b = cond (not b) (1 + position_or_len (is_numbered n) claims) 0

  abbrev place : Bool → Option ℕ
  place b = cond (nat_lt (stands b) (length (c ∷ claims))) (Some (stands b)) None

  place_first : place true ≡ Some 0
  place_first = ap (λ b. cond {A = Option ℕ} b (Some 0) None) (lt-ltb 0 (suc (length claims)) (omega arith))

  place_later : place false
      ≡ cond (nat_lt (position_or_len (is_numbered n) claims) (length claims))
      (Some (suc (position_or_len (is_numbered n) claims))) None
  place_later =
      let before = position_or_len (is_numbered n) claims in
      let next : 1 + before ≡ suc before = omega arith in
      ap (λ b. cond {A = Option ℕ} b (Some (1 + before)) None) (shifted before (length claims))
      ∙ ap (λ k. cond {A = Option ℕ} (nat_lt before (length claims)) (Some k) None) next

  found_first : is_numbered n c ≡ true → mount_of n (c ∷ claims) ≡ Some c
  found_first here =
      ap (λ b. option_and_then (slice_get (c ∷ claims)) (place b)) here
      ∙ ap (option_and_then (slice_get (c ∷ claims))) place_first

  later_get : (b : Bool) (k : ℕ)
      → option_and_then (slice_get (c ∷ claims)) (cond b (Some (suc k)) None)
      ≡ option_and_then (slice_get claims) (cond b (Some k) None)
  later_get true k = refl
  later_get false k = refl

  found_later : is_numbered n c ≡ false → mount_of n (c ∷ claims) ≡ mount_of n claims
  found_later other =
      ap (λ b. option_and_then (slice_get (c ∷ claims)) (place b)) other
      ∙ ap (option_and_then (slice_get (c ∷ claims))) place_later
      ∙ later_get (nat_lt (position_or_len (is_numbered n) claims) (length claims))
      (position_or_len (is_numbered n) claims)

  first_out : is_numbered n c ≡ true → without_mount n (c ∷ claims) ≡ claims
  first_out here = ap (λ b. removed_at (c ∷ claims) (place b)) here ∙ ap (removed_at (c ∷ claims)) place_first

  later_removed : (b : Bool) (k : ℕ)
      → removed_at (c ∷ claims) (cond b (Some (suc k)) None) ≡ c ∷ removed_at claims (cond b (Some k) None)
  later_removed true k = refl
  later_removed false k = refl

  later_out : is_numbered n c ≡ false → without_mount n (c ∷ claims) ≡ c ∷ without_mount n claims
  later_out other =
      ap (λ b. removed_at (c ∷ claims) (place b)) other
      ∙ ap (removed_at (c ∷ claims)) place_later
      ∙ later_removed (nat_lt (position_or_len (is_numbered n) claims) (length claims))
      (position_or_len (is_numbered n) claims)

-- what is found is one of the mounts, of that number
pub found_so : (P : Claim → Type 0) (n : ℕ) (claims : List Claim) (m : Claim) → AllByRecursion P claims
    → mount_of n claims ≡ Some m → P m × (m.number ≡ n)
found_so P n [] m all found = absurd (cc found)
found_so P n (c ∷ claims) m all found = elim (cases_Bool (is_numbered n c)) [
  | inl here ↦
      let same : c ≡ m = same_Some c m (sym (found_first n c claims here) ∙ found) in
      subst (λ (d : Claim). P d × (d.number ≡ n)) same (all.0, eqb-true c.number n here)
  | inr other ↦ found_so P n claims m all.1 (sym (found_later n c claims other) ∙ found)
]

-- ---- the mounts without that of a number

-- what holds of all holds of those that are left
pub left_so : (P : Claim → Type 0) (n : ℕ) (claims : List Claim) → AllByRecursion P claims
    → AllByRecursion P (without_mount n claims)
left_so P n [] all = tt
left_so P n (c ∷ claims) all = elim (cases_Bool (is_numbered n c)) [
  | inl here ↦ subst (AllByRecursion P) (sym (first_out n c claims here)) all.1
  | inr other ↦ subst (AllByRecursion P) (sym (later_out n c claims other)) (all.0, left_so P n claims all.1)
]

-- their numbers differ still
pub left_differ : (n : ℕ) (claims : List Claim) → DifferAll (map number_of claims)
    → DifferAll (map number_of (without_mount n claims))
left_differ n [] differ = tt
left_differ n (c ∷ claims) differ = elim (cases_Bool (is_numbered n c)) [
  | inl here ↦
      subst (λ (left : List Claim). DifferAll (map number_of left)) (sym (first_out n c claims here)) differ.1
  | inr other ↦
      subst (λ (left : List Claim). DifferAll (map number_of left)) (sym (later_out n c claims other)) (
        so_numbers (λ (j : ℕ). j ≢ c.number) (without_mount n claims)
            (left_so (λ (d : Claim). d.number ≢ c.number) n claims
            (numbers_so (λ (j : ℕ). j ≢ c.number) claims differ.0)),
        left_differ n claims differ.1,
      )
]

-- and none of them has the number
pub left_others : (n : ℕ) (claims : List Claim) → DifferAll (map number_of claims)
    → AllByRecursion (λ (c : Claim). c.number ≢ n) (without_mount n claims)
left_others n [] differ = tt
left_others n (c ∷ claims) differ = elim (cases_Bool (is_numbered n c)) [
  | inl here ↦
      subst (AllByRecursion (λ (d : Claim). d.number ≢ n)) (sym (first_out n c claims here))
      (numbers_so (λ (j : ℕ). j ≢ n) claims
      (subst (λ (k : ℕ). AllByRecursion (λ (j : ℕ). j ≢ k) (map number_of claims))
      (eqb-true c.number n here) differ.0))
  | inr other ↦
      subst (AllByRecursion (λ (d : Claim). d.number ≢ n)) (sym (later_out n c claims other))
      ((λ same. eqb-false c.number n other same), left_others n claims differ.1)
]

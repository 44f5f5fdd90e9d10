-- What stands at a block, as a function of the store.
use Rattle.std.proofs.Common.{◌≡◌, ◌≢◌, ℕ, zero, suc, ◌+◌, ◌*◌, ◌<◌, ◌≤◌, Bool, true, false, cond, eqb, List, [], ◌∷◌, Some, None, Option, inl, inr, sym, refl, ap, subst, ◌∙◌, get_or, length, arith, leb, ltb}
use Rattle.std.specs.Prelude.{◌||◌, MatchOption, nat_eq}
use Rattle.std.specs.Cmp.{nat_eq_equiv}
use Rattle.std.specs.List.{AllByRecursion, IsDistinct}
use Rattle.std.specs.Option.{option_map}
use Rattle.std.specs.Set.{is_member}
use Rattle.std.proofs.lemmas.Bool.{cases_Bool, cases_eq, or_cases, eqb-true, eq-eqb, both_ways, and_from, and_parts, le-leb, leb-true, lt-ltb, ltb-true}
use Rattle.std.proofs.lemmas.Map.Made.{length-le_from_is_member}
use Rattle.nl_types.specs.Blocks.Segments.{Segments}
use Rattle.nl_types.specs.Blocks.Entries.{Entry}
use Rattle.nl_types.specs.Plain.NumberLists.{is_one_of, NoneTwice}
use Rattle.nl_types.specs.Blocks.PartialMaps.{Partial}
use Rattle.nl_vstore.specs.Stores.{Numbered, Store, IsStore, IsReclaimed, block_now, address_in, content_in, numbered_in, is_inside}
use Rattle.nl_vstore.specs.Located.{stands_at, first_at, number_at, onto, picked, numbers_in, if_needed, needs, needed_at, needed_in}

-- ---- the first place of a list

first_at-found : (b : ℕ) (os : List (Option Numbered)) (v : ℕ) → first_at b os ≡ Some v
    → stands_at b (get_or os v None) ≡ true
first_at-found b [] v is = cc
first_at-found b (o ∷ os) v is = elim (cases_Bool (stands_at b o)) [
  | inl e ↦ here (sym (ap (λ t. cond {A = Option ℕ} t (Some 0) (option_map suc (first_at b os))) e) ∙ is) e
  | inr e ↦
      later (first_at b os) (λ w r. first_at-found b os w r)
      (sym (ap (λ t. cond {A = Option ℕ} t (Some 0) (option_map suc (first_at b os))) e) ∙ is)
]
  where
    here : Some 0 ≡ Some v → stands_at b o ≡ true → stands_at b (get_or (o ∷ os) v None) ≡ true
    here some e =
        let same : ◌≡◌ {A = ℕ} 0 v = cc in
        subst (λ (w : ℕ). stands_at b (get_or (o ∷ os) w None) ≡ true) same e

    later : (r : Option ℕ) → ((w : ℕ) → r ≡ Some w → stands_at b (get_or os w None) ≡ true)
        → option_map suc r ≡ Some v → stands_at b (get_or (o ∷ os) v None) ≡ true
    later None more h = cc
    later (Some w) more h =
        let same : suc w ≡ v = cc in
        subst (λ (u : ℕ). stands_at b (get_or (o ∷ os) u None) ≡ true) same (more w refl)

first_at-none : (b : ℕ) (os : List (Option Numbered)) (v : ℕ) → first_at b os ≡ None
    → stands_at b (get_or os v None) ≡ false
first_at-none b [] v is = refl
first_at-none b (o ∷ os) v is = elim (cases_Bool (stands_at b o)) [
  | inl e ↦
      absurd (some 0 (sym (ap (λ t. cond {A = Option ℕ} t (Some 0) (option_map suc (first_at b os))) e) ∙ is))
  | inr e ↦
      at_place v e (λ w.
      first_at-none b os w
      (rest (first_at b os)
      (sym (ap (λ t. cond {A = Option ℕ} t (Some 0) (option_map suc (first_at b os))) e) ∙ is)))
]
  where
    some : (w : ℕ) → Some w ≡ None → ⊥
    some w e = cc

    rest : (r : Option ℕ) → option_map suc r ≡ None → r ≡ None
    rest None h = refl
    rest (Some w) h = cc

    at_place : (v : ℕ) → stands_at b o ≡ false → ((w : ℕ) → stands_at b (get_or os w None) ≡ false)
        → stands_at b (get_or (o ∷ os) v None) ≡ false
    at_place zero e more = e
    at_place (suc w) e more = more w

addressed : (o : Option Numbered) (b : ℕ) → option_map block_now o ≡ Some b → stands_at b o ≡ true
addressed None b h = cc
addressed (Some n) b h = let same : n.block ≡ b = cc in eq-eqb n.block b same

standing : (o : Option Numbered) (b : ℕ) → stands_at b o ≡ true → option_map block_now o ≡ Some b
standing None b h = cc
standing (Some n) b h = ap Some (eqb-true n.block b h)

-- ---- the number at a block

pub number_at-some : (s : Store) (v b : ℕ) → number_at s b ≡ Some v → address_in s v ≡ Some b
number_at-some s v b is = standing (numbered_in s v) b (first_at-found b s.numbers v is)

pub number_at-none : (s : Store) (v b : ℕ) → number_at s b ≡ None → address_in s v ≢ Some b
number_at-none s v b is at =
    both_ways (stands_at b (numbered_in s v)) (first_at-none b s.numbers v is)
    (addressed (numbered_in s v) b at)

pub number_at-is : (s : Store) (v b : ℕ) → IsStore s → address_in s v ≡ Some b → number_at s b ≡ Some v
number_at-is s v b store at = by_found (number_at s b) refl
  where
    by_found : (o : Option ℕ) → number_at s b ≡ o → number_at s b ≡ Some v
    by_found None is = absurd (number_at-none s v b is at)
    by_found (Some w) is = is ∙ ap Some (store.apart w v b (number_at-some s w b is) at)

-- so a search is told by it
pub at-is : (s : Store) (b : ℕ) (r : Option ℕ) → IsStore s
    → MatchOption r ((v : ℕ) → address_in s v ≢ Some b) (λ v. address_in s v ≡ Some b) → r ≡ number_at s b
at-is s b None store h = sym (by_found (number_at s b) refl)
  where
    by_found : (o : Option ℕ) → number_at s b ≡ o → number_at s b ≡ None
    by_found None is = is
    by_found (Some w) is = absurd (h w (number_at-some s w b is))
at-is s b (Some v) store h = sym (number_at-is s v b store h)

-- ---- rows

pub record PickedAt (m : Partial ℕ) (f : ℕ → Option ℕ) (b n v : ℕ) : Type 0 where
  pub block : ℕ
  pub there : m v ≡ Some block
  pub given : f block ≡ Some v
  pub low : b ≤ block
  pub high : block < b + n

module _ (m : Partial ℕ) (f : ℕ → Option ℕ) (at : (b v : ℕ) → f b ≡ Some v → m v ≡ Some b) where
  pub picked-at : (b n v : ℕ) → is_one_of (picked f b n) v ≡ true → PickedAt m f b n v
  picked-at b zero v h = cc
  picked-at b (suc n) v h = by_first (f b) refl h (picked-at (suc b) n v)
    where
      later : PickedAt m f (suc b) n v → PickedAt m f b (suc n) v
      later p = record {
        block = p.block;
        there = p.there;
        given = p.given;
        low = omega (arith, p.low);
        high = omega (arith, p.high);
      }

      here : (w : ℕ) → f b ≡ Some w → v ≡ w → PickedAt m f b (suc n) v
      here w is same = record {
        block = b;
        there = at b v (is ∙ ap Some (sym same));
        given = is ∙ ap Some (sym same);
        low = omega arith;
        high = omega arith;
      }

      by_first : (o : Option ℕ) → f b ≡ o → is_one_of (onto o (picked f (suc b) n)) v ≡ true
          → (is_one_of (picked f (suc b) n) v ≡ true → PickedAt m f (suc b) n v) → PickedAt m f b (suc n) v
      by_first None is h more = later (more h)
      by_first (Some w) is h more = elim (or_cases (eqb v w) (is_one_of (picked f (suc b) n) v) h) [
        | inl e ↦ here w is (eqb-true v w e)
        | inr e ↦ later (more e)
      ]

  pub picked-once : (b n : ℕ) → NoneTwice (picked f b n)
  picked-once b zero = tt
  picked-once b (suc n) = by_first (f b) refl (picked-once (suc b) n)
    where
      apart : (v c : ℕ) → m v ≡ Some c → m v ≡ Some b → c ≡ b
      apart v c one other = let same : Some c ≡ Some b = sym one ∙ other in cc

      by_first : (o : Option ℕ) → f b ≡ o → NoneTwice (picked f (suc b) n)
          → NoneTwice (onto o (picked f (suc b) n))
      by_first None is rest = rest
      by_first (Some v) is rest = (
        elim (cases_Bool (is_one_of (picked f (suc b) n) v)) [
          | inl e ↦
              let p = picked-at (suc b) n v e in
              absurd (omega (arith, p.low, apart v p.block p.there (at b v is)))
          | inr e ↦ e
        ],
        rest,
      )

pub picked-member : (f : ℕ → Option ℕ) (b n c v : ℕ) → f c ≡ Some v → b ≤ c → c < b + n
    → is_one_of (picked f b n) v ≡ true
picked-member f b zero c v is low high = absurd (omega (arith, low, high))
picked-member f b (suc n) c v is low high = elim (cases_eq c b) [
  | inl same ↦ here (f b) (ap f (sym same) ∙ is)
  | inr other ↦
      later (f b) (picked-member f (suc b) n c v is (omega (arith, low, other)) (omega (arith, high)))
]
  where
    or_right : (a : Bool) {c : Bool} → c ≡ true → (a || c) ≡ true
    or_right true h = refl
    or_right false h = h

    here : (o : Option ℕ) → o ≡ Some v → is_one_of (onto o (picked f (suc b) n)) v ≡ true
    here None e = cc
    here (Some w) e =
        let same : v ≡ w = cc in ap (λ t. t || is_one_of (picked f (suc b) n) v) (eq-eqb v w same)

    later : (o : Option ℕ) → is_one_of (picked f (suc b) n) v ≡ true
        → is_one_of (onto o (picked f (suc b) n)) v ≡ true
    later None h = h
    later (Some w) h = or_right (eqb v w) h

-- ---- inside of a segment

pub inside-low : (s : Segments) (segment b : ℕ) → is_inside s segment (Some b) ≡ true → segment * s.blocks ≤ b
inside-low s segment b h =
    leb-true (segment * s.blocks) b
    (and_parts (leb (segment * s.blocks) b) (ltb b (segment * s.blocks + s.blocks)) h).0

pub inside-high : (s : Segments) (segment b : ℕ) → is_inside s segment (Some b) ≡ true
    → b < segment * s.blocks + s.blocks
inside-high s segment b h =
    ltb-true b (segment * s.blocks + s.blocks)
    (and_parts (leb (segment * s.blocks) b) (ltb b (segment * s.blocks + s.blocks)) h).1

pub inside-of : (s : Segments) (segment b : ℕ) → segment * s.blocks ≤ b → b < segment * s.blocks + s.blocks
    → is_inside s segment (Some b) ≡ true
inside-of s segment b low high = and_from (leb (segment * s.blocks) b) (ltb b (segment * s.blocks + s.blocks))
    (le-leb (segment * s.blocks) b low) (lt-ltb b (segment * s.blocks + s.blocks) high)

pub same_bool : (a b : Bool) → (a ≡ true → b ≡ true) → (b ≡ true → a ≡ true) → a ≡ b
same_bool true b f g = sym (f refl)
same_bool false true f g = g refl
same_bool false false f g = refl

-- the numbers in a segment are those whose block is inside
pub in-numbers : (s : Store) (segment v : ℕ) → IsStore s
    → is_one_of (numbers_in s segment) v ≡ is_inside s.segments segment (address_in s v)
in-numbers s segment v store =
    same_bool (is_one_of (numbers_in s segment) v) (is_inside s.segments segment (address_in s v)) inside
    (λ h. member (address_in s v) refl h)
  where
    inside : is_one_of (numbers_in s segment) v ≡ true → is_inside s.segments segment (address_in s v) ≡ true
    inside h =
        let p =
        picked-at (address_in s) (number_at s) (λ b w is. number_at-some s w b is)
        (segment * s.segments.blocks) s.segments.blocks v h in
        ap (is_inside s.segments segment) p.there ∙ inside-of s.segments segment p.block p.low p.high

    member : (o : Option ℕ) → address_in s v ≡ o → is_inside s.segments segment o ≡ true
        → is_one_of (numbers_in s segment) v ≡ true
    member None is h = cc
    member (Some b) is h =
        picked-member (number_at s) (segment * s.segments.blocks) s.segments.blocks b v
        (number_at-is s v b store is) (inside-low s.segments segment b h)
        (inside-high s.segments segment b h)

-- no number stands twice in it
pub numbers-once : (s : Store) (segment : ℕ) → NoneTwice (numbers_in s segment)
numbers-once s segment =
    picked-once (address_in s) (number_at s) (λ b w is. number_at-some s w b is)
    (segment * s.segments.blocks) s.segments.blocks

-- ---- those that are needed

pub record NeededAt (s : Store) (needed : Entry → Bool) (b v : ℕ) : Type 0 where
  pub there : number_at s b ≡ Some v
  pub for : needs needed (content_in s) v ≡ true

pub needed_at-some : (s : Store) (needed : Entry → Bool) (b v : ℕ) → needed_at s needed b ≡ Some v
    → NeededAt s needed b v
needed_at-some s needed b v is = by_number (number_at s b) refl is
  where
    by_test : (w : ℕ) → number_at s b ≡ Some w → (t : Bool) → needs needed (content_in s) w ≡ t
        → cond {A = Option ℕ} t (Some w) None ≡ Some v → NeededAt s needed b v
    by_test w at true test is = let same : w ≡ v = cc in record {
      there = at ∙ ap Some same;
      for = subst (λ (u : ℕ). needs needed (content_in s) u ≡ true) same test;
    }
    by_test w at false test is = cc

    by_number : (o : Option ℕ) → number_at s b ≡ o → if_needed (needs needed (content_in s)) o ≡ Some v
        → NeededAt s needed b v
    by_number None at is = cc
    by_number (Some w) at is = by_test w at (needs needed (content_in s) w) refl is

pub needed-once : (s : Store) (needed : Entry → Bool) (segment : ℕ) → NoneTwice (needed_in s needed segment)
needed-once s needed segment =
    picked-once (address_in s) (needed_at s needed)
    (λ b w is. number_at-some s w b (needed_at-some s needed b w is).there)
    (segment * s.segments.blocks) s.segments.blocks

-- a needed number of a segment stands inside of it
pub needed-inside : (s : Store) (needed : Entry → Bool) (segment v : ℕ)
    → is_one_of (needed_in s needed segment) v ≡ true → is_inside s.segments segment (address_in s v) ≡ true
needed-inside s needed segment v h =
    let p =
    picked-at (address_in s) (needed_at s needed)
    (λ b w is. number_at-some s w b (needed_at-some s needed b w is).there)
    (segment * s.segments.blocks) s.segments.blocks v h in
    ap (is_inside s.segments segment) p.there ∙ inside-of s.segments segment p.block p.low p.high

pub needed-needs : (s : Store) (needed : Entry → Bool) (segment v : ℕ)
    → is_one_of (needed_in s needed segment) v ≡ true → needs needed (content_in s) v ≡ true
needed-needs s needed segment v h =
    let p =
    picked-at (address_in s) (needed_at s needed)
    (λ b w is. number_at-some s w b (needed_at-some s needed b w is).there)
    (segment * s.segments.blocks) s.segments.blocks v h in
    (needed_at-some s needed p.block v p.given).for

-- a needed number whose block is inside is one of them
pub needed-member : (s : Store) (needed : Entry → Bool) (segment v b : ℕ) → IsStore s
    → address_in s v ≡ Some b → is_inside s.segments segment (Some b) ≡ true
    → needs needed (content_in s) v ≡ true → is_one_of (needed_in s needed segment) v ≡ true
needed-member s needed segment v b store at h test =
    picked-member (needed_at s needed) (segment * s.segments.blocks) s.segments.blocks b v
    (ap (if_needed (needs needed (content_in s))) (number_at-is s v b store at)
    ∙ ap (λ t. cond {A = Option ℕ} t (Some v) None) test)
    (inside-low s.segments segment b h) (inside-high s.segments segment b h)

-- ---- lists without repeats and with the same members

member-one_of : (xs : List ℕ) (v : ℕ) → is_member nat_eq xs v ≡ is_one_of xs v
member-one_of [] v = refl
member-one_of (x ∷ xs) v = ap (λ t. eqb v x || t) (member-one_of xs v)

distinct-head : (xs : List ℕ) (b : ℕ) → is_one_of xs b ≡ false → AllByRecursion (λ a. nat_eq b a ≡ false) xs
distinct-head [] b none = tt
distinct-head (a ∷ xs) b none = elim (cases_Bool (eqb b a)) [
  | inl e ↦ absurd (both_ways true (sym (ap (λ t. t || is_one_of xs b) e) ∙ none) refl)
  | inr e ↦ (e, distinct-head xs b (sym (ap (λ t. t || is_one_of xs b) e) ∙ none))
]

distinct-once : (xs : List ℕ) → NoneTwice xs → IsDistinct nat_eq xs
unfolding IsDistinct
distinct-once [] once = tt
distinct-once (x ∷ xs) once = (distinct-head xs x once.0, distinct-once xs once.1)

length-once : (xs ys : List ℕ) → NoneTwice xs → ((v : ℕ) → is_one_of xs v ≡ is_one_of ys v)
    → length xs ≤ length ys
length-once xs ys once same =
    length-le_from_is_member nat_eq_equiv xs ys (distinct-once xs once)
    (λ v h. member-one_of ys v ∙ sym (same v) ∙ sym (member-one_of xs v) ∙ h)

pub same-length : (xs ys : List ℕ) → NoneTwice xs → NoneTwice ys → ((v : ℕ) → is_one_of xs v ≡ is_one_of ys v)
    → length xs ≡ length ys
same-length xs ys once_x once_y same =
    omega (arith, length-once xs ys once_x same, length-once ys xs once_y (λ v. sym (same v)))

-- what a segment is emptied of is counted
pub gone-is : (segment count : ℕ) (old new : Store) → IsStore old → IsReclaimed segment count old new
    → count ≡ length (numbers_in old segment)
gone-is segment count old new store is =
    is.count_is
    ∙ same-length is.gone (numbers_in old segment) is.each_once (numbers-once old segment)
    (λ v. is.gone_are v ∙ sym (in-numbers old segment v store))

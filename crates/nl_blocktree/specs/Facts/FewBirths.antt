-- Births of a file are few: they rise in rank, which stays low.
use Rattle.std.proofs.Common.{◌≡◌, ℕ, zero, suc, ◌+◌, ◌-◌, ◌/◌, ◌<◌, ◌≤◌, ◌⊎◌, min, Bool, true, false, List, [], ◌∷◌, length, Some, refl, ap, sym, subst, ◌∙◌, arith, inl, inr}
use Rattle.std.specs.Prelude.{◌||◌, ◌==◌, IsSome, slice_index_or}
use Rattle.std.specs.List.{Contains}
use Rattle.std.specs.Option.{option_and_then}
use Rattle.std.proofs.lemmas.Bool.{cases_lt, eqb-true}
use Rattle.std.proofs.lemmas.List.Elements.{Contains-get_or}
use Rattle.nl_types.specs.Plain.NumberLists.{is_one_of}
use Rattle.nl_types.specs.Blocks.Entries.{Birth}
use Rattle.nl_types.specs.Blocks.RootChanges.{HasData, InPayloadOrder, IsSound, IsWrittenPlace}
use Rattle.nl_types.specs.Blocks.Roots.{Chain, Empty, Pages, Root, Tree, height_of, kind_of, page_at, place_at}
use Rattle.nl_blocktree.specs.Bounds.{BirthsAreFew, IsBelow, IsNewAt, most_nodes}
use Rattle.nl_blocktree.specs.Facts.Staying.{some-of}
use Rattle.nl_blocktree.specs.Facts.TreeLevels.{tree_above}

-- ---- how many of some numbers are below one

abbrev count_below : ℕ → List ℕ → ℕ
count_below n [] = 0
count_below n (k ∷ ks) = min 1 (n - k) + count_below n ks

one_of-cases : (n k : ℕ) (ks : List ℕ) → is_one_of (k ∷ ks) n ≡ true → (n ≡ k) ⊎ (is_one_of ks n ≡ true)
one_of-cases n k ks is = go (n == k) refl
  where
    go : (b : Bool) → (n == k) ≡ b → (n ≡ k) ⊎ (is_one_of ks n ≡ true)
    go true e = inl (eqb-true n k e)
    go false e = inr (sym (ap (λ (b : Bool). b || is_one_of ks n) e) ∙ is)

below-rises : (a b : ℕ) (ks : List ℕ) → a ≤ b → count_below a ks ≤ count_below b ks
below-rises a b [] l = omega arith
below-rises a b (k ∷ ks) l = omega (arith, below-rises a b ks l)

below-higher : (a b : ℕ) (ks : List ℕ) → a < b → is_one_of ks a ≡ true → count_below a ks < count_below b ks
below-higher a b [] l is = absurd (cc)
below-higher a b (k ∷ ks) l is = elim (one_of-cases a k ks is) [
  | inl e ↦ omega (arith, e, below-rises a b ks (omega (arith, l)))
  | inr more ↦ omega (arith, below-higher a b ks l more)
]

below-all : (a : ℕ) (ks : List ℕ) → count_below a ks ≤ length ks
below-all a [] = omega arith
below-all a (k ∷ ks) = omega (arith, below-all a ks)

below-some : (a : ℕ) (ks : List ℕ) → is_one_of ks a ≡ true → count_below a ks < length ks
below-some a [] is = absurd (cc)
below-some a (k ∷ ks) is = elim (one_of-cases a k ks is) [
  | inl e ↦ omega (arith, e, below-all a ks)
  | inr more ↦ omega (arith, below-some a ks more)
]

-- ---- ranks

module _ (indices : List ℕ) (blocks : ℕ) where
  -- how many places a level has
  abbrev width : ℕ → ℕ
  width zero = length indices
  width (suc zero) = blocks / 127 + 1
  width (suc (suc zero)) = blocks / 16384 + 1
  width (suc (suc (suc zero))) = 1
  width (suc (suc (suc (suc level)))) = 0

  -- and how many the levels below it
  abbrev start : ℕ → ℕ
  start zero = 0
  start (suc level) = start level + width level

  -- one of the places
  abbrev IsLow : ℕ → ℕ → Type 0
  IsLow zero offset = is_one_of indices offset ≡ true
  IsLow (suc level) offset = offset < width (suc level)

  abbrev rank : ℕ → ℕ → ℕ
  rank zero offset = count_below offset indices
  rank (suc level) offset = start (suc level) + offset

  rank-from : (level offset : ℕ) → start level ≤ rank level offset
  rank-from zero offset = omega arith
  rank-from (suc level) offset = omega arith

  rank-below : (level offset : ℕ) → IsLow level offset → rank level offset < start (suc level)
  rank-below zero offset low = omega (arith, below-some offset indices low)
  rank-below (suc level) offset low = omega (arith, low)

  starts-rise : (level m : ℕ) → level < m → start (suc level) ≤ start m
  starts-rise level zero l = absurd (omega (arith, l))
  starts-rise level (suc m) l = elim (cases_lt level m) [
    | inl less ↦ omega (arith, starts-rise level m less)
    | inr most ↦ let e : level ≡ m = omega (arith, l, most) in
        subst (λ (k : ℕ). start (suc level) ≤ start (suc k)) e (omega arith)
  ]

  rank-higher : (level offset m other : ℕ) → IsLow level offset
      → (level < m) ⊎ ((level ≡ m) × (offset < other)) → rank level offset < rank m other
  rank-higher level offset m other low (inl less) =
      omega (arith, rank-below level offset low, starts-rise level m less, rank-from m other)
  rank-higher zero offset m other low (inr same) =
      subst (λ (k : ℕ). rank zero offset < rank k other) same.0 (below-higher offset other indices same.1 low)
  rank-higher (suc level) offset m other low (inr same) =
      subst (λ (k : ℕ). rank (suc level) offset < rank k other) same.0 (omega (arith, same.1))

  rank-limit : (level offset : ℕ) → IsLow level offset → rank level offset < length indices + most_nodes blocks
  rank-limit zero offset low = omega (arith, below-some offset indices low)
  rank-limit (suc zero) offset low = omega (arith, low)
  rank-limit (suc (suc zero)) offset low = omega (arith, low)
  rank-limit (suc (suc (suc zero))) offset low = omega (arith, low)
  rank-limit (suc (suc (suc (suc level)))) offset low = absurd (omega (arith, low))

  -- ---- births

  abbrev rank_of : Birth → ℕ
  rank_of b = rank b.place.level b.place.offset

  ranks-rise : (births : List Birth) (d : Birth) → InPayloadOrder births
      → ((b : Birth) → Contains births b → IsLow b.place.level b.place.offset)
      → (i : ℕ) → i < length births → i ≤ rank_of (slice_index_or births i d)
  ranks-rise births d in_order low zero inside = omega arith
  ranks-rise births d in_order low (suc i) inside =
      let a = slice_index_or births i d in
      let b = slice_index_or births (suc i) d in
      let before = ranks-rise births d in_order low i (omega (arith, inside)) in
      let higher =
      rank-higher a.place.level a.place.offset b.place.level b.place.offset
      (low a (Contains-get_or births i d (omega (arith, inside))))
      (in_order i (suc i) d (omega arith) inside) in
      omega (arith, before, higher)

  few-ranks : (births : List Birth) → InPayloadOrder births
      → ((b : Birth) → Contains births b → IsLow b.place.level b.place.offset)
      → length births ≤ length indices + most_nodes blocks
  few-ranks [] in_order low = omega arith
  few-ranks (d ∷ births) in_order low =
      let last = length births in
      let all : List Birth = d ∷ births in
      let b = slice_index_or all last d in
      let reached = ranks-rise all d in_order low last (omega arith) in
      let limit =
      rank-limit b.place.level b.place.offset (low b (Contains-get_or all last d (omega arith))) in
      omega (arith, reached, limit)

  -- ---- where births of a file are

  module _ (pages : Pages) (root : Root) (sound : IsSound pages root) (below : IsBelow pages root blocks) where
    data-page : (i : ℕ) → HasData pages root i → IsSome (page_at pages root i)
    data-page i is =
        let v = some-of (place_at pages root 0 i) is in
        subst IsSome (sym (ap (option_and_then pages) v.1)) (sound.stored 0 i v.0 v.1)

    data-below : (i : ℕ) → HasData pages root i → i < blocks
    data-below i is = below i (data-page i is)

    data-limit : (i : ℕ) → HasData pages root i → i < 262144
    data-limit i is = let v = some-of (place_at pages root 0 i) is in sound.in_range 0 i v.0 v.1

    nowhere : (level offset v : ℕ) → root ≡ Empty → place_at pages root level offset ≡ Some v → ⊥
    unfolding place_at
    nowhere level offset v is at = let e = sym (ap (λ (r : Root). place_at pages r level offset) is) ∙ at in cc

    above-chain : (top level offset v : ℕ) → root ≡ Chain top
        → place_at pages root (suc (suc level)) offset ≡ Some v → ⊥
    unfolding place_at
    above-chain top level offset v is at =
        let e = sym (ap (λ (r : Root). place_at pages r (suc (suc level)) offset) is) ∙ at in cc

    chain-low : (top level offset v : ℕ) → root ≡ Chain top → place_at pages root (suc level) offset ≡ Some v
        → IsLow (suc level) offset
    chain-low top zero offset v is at =
        let last = sound.ends_full (ap kind_of is) offset v at in
        let limit = data-below last.0 last.2 in
        omega (arith, last.1, limit)
    chain-low top (suc level) offset v is at = absurd (above-chain top level offset v is at)

    above-tree : (height top level offset v : ℕ) → root ≡ Tree height top → 3 < level
        → place_at pages root level offset ≡ Some v → ⊥
    above-tree height top level offset v is high at =
        let shape = sound.tree_shape (ap kind_of is) in
        let limit = data-limit shape.least.0 shape.least.1 in
        let low = shape.least.2 3 (omega arith) (omega (arith, limit)) in
        let none =
        tree_above pages height top level offset
        (subst (λ (r : Root). height_of r < level) is (omega (arith, low, high))) in
        let e = sym (ap (λ (r : Root). place_at pages r level offset) is) ∙ at in
        cc

    tree-low : (height top level offset v : ℕ) → root ≡ Tree height top
        → place_at pages root (suc level) offset ≡ Some v → IsLow (suc level) offset
    tree-low height top zero offset v is at =
        let under = (sound.tree_shape (ap kind_of is)).above_data 0 offset v at in
        let limit = data-below under.0 under.2 in
        omega (arith, under.1, limit)
    tree-low height top (suc zero) offset v is at =
        let under = (sound.tree_shape (ap kind_of is)).above_data 1 offset v at in
        let limit = data-below under.0 under.2 in
        omega (arith, under.1, limit)
    tree-low height top (suc (suc zero)) offset v is at =
        let under = (sound.tree_shape (ap kind_of is)).above_data 2 offset v at in
        let limit = data-limit under.0 under.2 in
        omega (arith, under.1, limit)
    tree-low height top (suc (suc (suc level))) offset v is at =
        absurd (above-tree height top (suc (suc (suc (suc level)))) offset v is (omega arith) at)

    node-low : (level offset v : ℕ) → place_at pages root (suc level) offset ≡ Some v → IsLow (suc level) offset
    node-low level offset v at = by root refl
      where
        by : (r : Root) → root ≡ r → IsLow (suc level) offset
        by Empty is = absurd (nowhere (suc level) offset v is at)
        by (Chain top) is = chain-low top level offset v is at
        by (Tree height top) is = tree-low height top level offset v is at

    place-low : (old_pages : Pages) (old : Root) (level offset v : ℕ) → IsNewAt old_pages pages old root indices
        → place_at pages root level offset ≡ Some v → IsWrittenPlace old_pages pages old root level offset
        → IsLow level offset
    place-low old_pages old zero offset v new_at at written =
        new_at offset (data-page offset written.0) written.1
    place-low old_pages old (suc level) offset v new_at at written = node-low level offset v at

pub births_are_few : BirthsAreFew
births_are_few old_pages new_pages inode old new births ends indices blocks sound rewrites new_at below =
    few-ranks indices blocks births rewrites.in_order
    (λ b is.
    place-low indices blocks new_pages new sound below old_pages old b.place.level b.place.offset b.number new_at
    (rewrites.born_placed b is) (rewrites.born_written b is))

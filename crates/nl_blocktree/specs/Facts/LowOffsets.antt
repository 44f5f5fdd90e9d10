-- How far the blocks of a file reach on each level.
use Rattle.std.proofs.Common.{◌≡◌, ℕ, zero, suc, ◌*◌, ◌/◌, ◌^◌, ◌<◌, ◌≤◌, Some, refl, ap, sym, ◌∙◌, inl, inr, arith}
use Rattle.std.specs.Option.{option_and_then}
use Rattle.std.proofs.lemmas.Bool.{cases_lt}
use Rattle.nl_types.specs.Blocks.RootChanges.{HasData}
use Rattle.nl_types.specs.Blocks.Roots.{Chain, Empty, Pages, Root, Tree, kind_of, page_at, place_at}
use Rattle.nl_blocktree.specs.FileShapes.{HasShape, IsSizeOf}
use Rattle.nl_blocktree.specs.Facts.Staying.{some-of}

-- an empty root has no block
empty-nowhere : (pages : Pages) (level offset v : ℕ) → place_at pages Empty level offset ≡ Some v → ⊥
unfolding place_at
empty-nowhere pages level offset v h = cc

-- and a chain none above its nodes
chain-nowhere : (pages : Pages) (top level offset v : ℕ)
    → place_at pages (Chain top) (suc (suc level)) offset ≡ Some v → ⊥
unfolding place_at
chain-nowhere pages top level offset v h = cc

-- where the indices of a file stay below a limit, so do the offsets of all its blocks
pub low-offsets : (pages : Pages) (root : Root) (limit : ℕ) → HasShape pages root
    → ((i v : ℕ) → place_at pages root 0 i ≡ Some v → i < limit)
    → (level offset v : ℕ) → place_at pages root level offset ≡ Some v → offset < limit
low-offsets pages root limit shape low zero offset v at = low offset v at
low-offsets pages root limit shape low (suc level) offset v at = by root refl
  where
    from_data : (i : ℕ) → HasData pages root i → i < limit
    from_data i data_is = let v = some-of (place_at pages root 0 i) data_is in low i v.0 v.1

    in_chain : (level : ℕ) (top : ℕ) → root ≡ Chain top → place_at pages root (suc level) offset ≡ Some v
        → offset < limit
    in_chain zero top is h =
        let d = shape.ends_full (ap kind_of is) offset v h in
        let high = from_data d.0 d.2 in
        let below : d.0 / 127 ≤ d.0 = omega arith in
        omega (arith, d.1, high, below)
    in_chain (suc level) top is h =
        absurd (chain-nowhere pages top level offset v
        (sym (ap (λ (r : Root). place_at pages r (suc (suc level)) offset) is) ∙ h))

    divided : (i n offset : ℕ) → i / n ≡ offset → i < limit → offset < limit
    divided i n offset e h = let below : i / n ≤ i = omega arith in omega (arith, e, h, below)

    by : (r : Root) → root ≡ r → offset < limit
    by Empty is =
        absurd (empty-nowhere pages (suc level) offset v
        (sym (ap (λ (r : Root). place_at pages r (suc level) offset) is) ∙ at))
    by (Chain top) is = in_chain level top is at
    by (Tree height top) is =
        let d = (shape.tree_shape (ap kind_of is)).above_data level offset v at in
        let high = from_data d.0 d.2 in
        divided d.0 (128 ^ suc level) offset d.1 high

-- no data stands from the count on
pub data-low : (pages : Pages) (root : Root) (count : ℕ) → HasShape pages root
    → IsSizeOf pages root (1024 * count) → (i v : ℕ) → place_at pages root 0 i ≡ Some v → i < count
data-low pages root count shape sized i v at = elim (cases_lt i count) [
  | inl low ↦ low
  | inr high ↦ (
      let same : count ≡ sized.count = let e = sized.is in omega (arith, e) in
      let page = some-of (pages v) (shape.stored 0 i v at) in
      let there : page_at pages root i ≡ Some page.0 = ap (option_and_then pages) at ∙ page.1 in
      let none = sized.none_past i (omega (arith, same, high)) in
      cc
      )
]

-- The shape of a tree whose nodes each have a block below them.
use Rattle.std.proofs.Common.{◌≡◌, ℕ, zero, suc, ◌+◌, ◌*◌, ◌/◌, ◌%◌, ◌^◌, ◌<◌, ◌≤◌, Some, None, ap, sym, ◌∙◌, arith, inl, inr, ◌⊎◌}
use Rattle.std.specs.Option.{IsSome}
use Rattle.std.proofs.Math.Nat.{div-mul-le_self, div-one}
use Rattle.std.proofs.lemmas.Bool.{cases_lt}
use Rattle.nl_types.specs.Blocks.Roots.{Pages, Tree, place_at}
use Rattle.nl_types.specs.Blocks.RootChanges.{HasTreeShape}
use Rattle.nl_blocktree.specs.Facts.Staying.{some-is, some-of}
use Rattle.nl_blocktree.specs.Facts.TreeLevels.{div-pow-suc, least_by, node_above, tree_above}

-- the top of a tree that is as low as can be
pub data NeedsHeight (pages : Pages) (top : ℕ) : ℕ → Type 0 where
  one_level : IsSome (place_at pages (Tree 1 top) 1 0) → NeedsHeight pages top 1
  beyond : (height s : ℕ) → 1 ≤ s → IsSome (place_at pages (Tree (suc (suc height)) top) (suc height) s)
      → NeedsHeight pages top (suc (suc height))

module _ (pages : Pages) (height top : ℕ)
    (full : (l offset v : ℕ) → l < height → place_at pages (Tree height top) (suc l) offset ≡ Some v
    → (s : ℕ) × (s < 128) × IsSome (place_at pages (Tree height top) l (128 * offset + s))) where
  within : (l offset v : ℕ) → place_at pages (Tree height top) l offset ≡ Some v → l ≤ height
  within l offset v e = elim (cases_lt height l) [
    | inl far ↦ let no : None ≡ Some v = sym (tree_above pages height top l offset far) ∙ e in cc
    | inr low ↦ low
  ]

  pub above_data : (level offset v : ℕ) → place_at pages (Tree height top) (suc level) offset ≡ Some v
      → (i : ℕ) × (i / 128 ^ suc level ≡ offset) × IsSome (place_at pages (Tree height top) 0 i)
  above_data zero offset v e =
      let low = within 1 offset v e in
      let s = full 0 offset v (omega arith) e in
      let q : (128 * offset + s.0) / 128 ≡ offset = (let l = s.1 in omega arith) in (
        128 * offset + s.0,
        div-pow-suc (128 * offset + s.0) 0 ∙ (ap (λ (x : ℕ). x / 128) (div-one (128 * offset + s.0)) ∙ q),
        s.2,
      )
  above_data (suc level) offset v e =
      let low = within (suc (suc level)) offset v e in
      let s = full (suc level) offset v (omega arith) e in
      let x = some-of (place_at pages (Tree height top) (suc level) (128 * offset + s.0)) s.2 in
      let r = above_data level (128 * offset + s.0) x.0 x.1 in
      let q : (128 * offset + s.0) / 128 ≡ offset = (let l = s.1 in omega arith) in
      (r.0, div-pow-suc r.0 (suc level) ∙ (ap (λ (y : ℕ). y / 128) r.1 ∙ q), r.2)

power_below : (i k q : ℕ) → i / k ≡ q → 1 ≤ q → k ≤ i
power_below i k q e l = let m : i / k * k ≤ i = div-mul-le_self i k in times (i / k) k i m (omega arith)
  where
    times : (a b c : ℕ) → a * b ≤ c → 1 ≤ a → b ≤ c
    times zero b c l one = absurd (omega arith)
    times (suc a) b c l one = omega (arith, l)

least_of : (pages : Pages) (height top : ℕ) → NeedsHeight pages top height →
    ((l offset v : ℕ) → l < height → place_at pages (Tree height top) (suc l) offset ≡ Some v
    → (s : ℕ) × (s < 128) × IsSome (place_at pages (Tree height top) l (128 * offset + s)))
    →
    (1 ≤ height)
    × ((i : ℕ) × IsSome (place_at pages (Tree height top) 0 i) × ((h : ℕ) → 1 ≤ h → i < 128 ^ h → height ≤ h))
least_of pages _ top (one_level some) full =
    let x = some-of (place_at pages (Tree 1 top) 1 0) some in
    let r = above_data pages 1 top full 0 0 x.0 x.1 in
    (omega arith, (r.0, r.2, λ h one near. one))
least_of pages _ top (beyond height s one some) full =
    let x = some-of (place_at pages (Tree (suc (suc height)) top) (suc height) s) some in
    let r = above_data pages (suc (suc height)) top full height s x.0 x.1 in (
      omega arith,
      (
        r.0,
        r.2,
        λ h low near. least_by (suc height) r.0 (power_below r.0 (128 ^ suc height) s r.1 one) h low near,
      ),
    )

pub tree_shape : (pages : Pages) (height top : ℕ) → NeedsHeight pages top height →
    ((l offset v : ℕ) → l < height → place_at pages (Tree height top) (suc l) offset ≡ Some v
    → (s : ℕ) × (s < 128) × IsSome (place_at pages (Tree height top) l (128 * offset + s)))
    →
    HasTreeShape pages (Tree height top)
tree_shape pages height top needs full =
    let l = least_of pages height top needs full in
    record { low = l.0; above_data = above_data pages height top full; least = l.1 }

-- a shape gives back that each node has a block below it
pub full_of : (pages : Pages) (height top : ℕ) → HasTreeShape pages (Tree height top) →
    (l offset v : ℕ) → place_at pages (Tree height top) (suc l) offset ≡ Some v
    → (s : ℕ) × (s < 128) × IsSome (place_at pages (Tree height top) l (128 * offset + s))
full_of pages height top shape l offset v e =
    let r = shape.above_data l offset v e in
    let x = some-of (place_at pages (Tree height top) 0 r.0) r.2 in
    let low : l ≤ height = below_top_level (cases_lt height (suc l)) in
    let n = node_above pages height top r.0 x.0 x.1 l low in
    let q : 128 * offset + r.0 / 128 ^ l % 128 ≡ r.0 / 128 ^ l =
    (let k : r.0 / 128 ^ l / 128 ≡ offset = sym (div-pow-suc r.0 l) ∙ r.1 in
    let p = r.0 / 128 ^ l in
    omega arith) in (
      r.0 / 128 ^ l % 128,
      omega arith,
      some-is (place_at pages (Tree height top) l (128 * offset + r.0 / 128 ^ l % 128)) n.0
          (ap (place_at pages (Tree height top) l) q ∙ n.1),
    )
  where
    below_top_level : (height < suc l) ⊎ (suc l ≤ height) → l ≤ height
    below_top_level (inl far) =
        let no : None ≡ Some v = sym (tree_above pages height top (suc l) offset far) ∙ e in cc
    below_top_level (inr low) = omega arith

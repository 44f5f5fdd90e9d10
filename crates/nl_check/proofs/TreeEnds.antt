-- Where the data of a tree ends: under the last slots that name something.
use Rattle.std.proofs.Common.{◌≡◌, ℕ, suc, ◌+◌, ◌*◌, ◌-◌, ◌/◌, ◌^◌, ◌<◌, ◌≤◌, List, Option, Some, None, refl, ap, sym, subst, ◌∙◌, inl, inr, arith}
use Rattle.std.specs.Option.{IsSome, option_and_then}
use Rattle.std.proofs.lemmas.Bool.{cases_eq, cases_lt}
use Rattle.nl_types.specs.Blocks.Roots.{Pages, Tree, child, place_at, slot}
use Rattle.nl_check.specs.Private.BesideTrees.{IsLastSlot}
use Rattle.nl_blocktree.specs.Facts.MetRanges.{range-right, slots-whole, whole-step}
use Rattle.nl_blocktree.specs.Facts.TreePlaces.{above-rises, above-same, beyond-lower, none-under}
use Rattle.nl_blocktree.specs.TreePlaces.{IsEnd, IsUnder}
use Rattle.nl_check.proofs.BesidePlaces.{tree-slot}

module _ (pages : Pages) (height top : ℕ) where
  -- a block of data
  pub end-data : (level offset number : ℕ) → level ≡ 0
      → place_at pages (Tree height top) level offset ≡ Some number
      → IsEnd pages (Tree height top) (IsUnder level offset (suc offset)) (offset + 1)
  end-data level offset number zero_is stands = record {
    last = offset;
    is = omega arith;
    visited = subst (λ (k : ℕ). IsUnder level offset (suc offset) (k, offset)) zero_is here;
    has_data =
        subst (λ (o : Option ℕ). IsSome o)
        (sym stands ∙ ap (λ (k : ℕ). place_at pages (Tree height top) k offset) zero_is) refl;
    none_past = λ i high n.
        absurd (let same_index = above-same level 0 i (sym zero_is) in
        let under = n.below in
        omega (arith, same_index, under, high));
  }
    where
      here : IsUnder level offset (suc offset) (level, offset)
      here =
          let over : offset / 128 ^ (level - level) ≡ offset = above-same level level offset refl in
          record { low = omega arith; from = omega (arith, over); below = omega (arith, over) }

  -- a node ends where what its last slot names does
  module _ (level below offset number s v count : ℕ) (page : List ℕ) (e : level ≡ suc below)
      (low : level ≤ height) (stored : pages number ≡ Some page) (last : IsLastSlot page s v)
      (stands : place_at pages (Tree height top) level offset ≡ Some number) where
    in-slot : (t : ℕ) → t < 128 → place_at pages (Tree height top) below (128 * offset + t) ≡ slot t page
    in-slot t within =
        tree-slot pages height top level below offset t e low within
        ∙ (ap (child pages t) stands ∙ ap (option_and_then (λ (bytes : List ℕ). slot t bytes)) stored)

    pub child-there : place_at pages (Tree height top) below (128 * offset + s) ≡ Some v
    child-there = in-slot s last.low ∙ last.names

    past-slot : (t i : ℕ) → s < t → t < 128 → i / 128 ^ (below - 0) ≡ 128 * offset + t
        → place_at pages (Tree height top) 0 i ≡ None
    past-slot t i more within over =
        none-under pages height top below (128 * offset + t) 0 i (omega (arith, low, e)) (omega arith) over
        (in-slot t within ∙ last.none_past t more within)

    pub end-node : IsEnd pages (Tree height top) (IsUnder below (128 * offset + s) (suc (128 * offset + s)))
        count
        → IsEnd pages (Tree height top) (IsUnder level offset (suc offset)) count
    end-node k = record {
      last = k.last;
      is = k.is;
      visited =
          slots-whole level below offset e (0, k.last) (128 * offset + s + 1)
          (let within = last.low in omega (arith, within))
          (range-right below (128 * offset) (128 * offset + s) (omega arith) (0, k.last) k.visited);
      has_data = k.has_data;
      none_past = λ i high n. elim (whole-step level below offset e (0, i) n) [
        | inl here ↦ absurd (let at = ap (λ (x : ℕ × ℕ). x.0) here in omega (arith, at, e))
        | inr u ↦ past i high u
      ];
    }
      where
        past : (i : ℕ) → count ≤ i → IsUnder below (128 * offset) (128 * offset + 128) (0, i)
            → place_at pages (Tree height top) 0 i ≡ None
        past i high u = elim (cases_lt (i / 128 ^ (below - 0)) (128 * offset + s)) [
          | inl less ↦ absurd (
              let end = k.is in
              let from = k.visited.from in
              let rise = above-rises (below - 0) k.last i (omega (arith, end, high)) in
              omega (arith, less, from, rise))
          | inr more ↦ elim (cases_eq (i / 128 ^ (below - 0)) (128 * offset + s)) [
            | inl here ↦
                k.none_past i high
                (record { low = omega arith; from = more; below = omega (arith, here) })
            | inr other ↦ (let under = u.below in
                past-slot (i / 128 ^ (below - 0) - 128 * offset) i (omega (arith, more, other))
                (omega (arith, under, more)) (omega (arith, more)))
          ]
        ]

-- no lower tree would do, where its data goes on past the first child
pub least-height : (height lower count : ℕ) → height ≡ suc lower → (1 ≤ lower → 128 ^ lower < count) → (h : ℕ)
    → 1 ≤ h → count ≤ 128 ^ h → height ≤ h
least-height height lower count e many h one few = elim (cases_lt lower 1) [
  | inl low ↦ omega (arith, low, e, one)
  | inr high ↦ (let far = many high in
      let more = beyond-lower lower (count - 1) (omega (arith, far)) h (omega (arith, far, few)) in
      omega (arith, more, e))
]

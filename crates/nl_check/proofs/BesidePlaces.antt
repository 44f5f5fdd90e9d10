-- The places of a tree, beside those of another file.
use Rattle.std.proofs.Common.{◌≡◌, ◌⊎◌, ℕ, zero, suc, ◌+◌, ◌*◌, ◌-◌, ◌/◌, ◌%◌, ◌^◌, ◌<◌, ◌≤◌, Option, Some, None, refl, ap, sym, subst, ◌∙◌, inl, inr, arith}
use Rattle.std.proofs.Math.Nat.{div-one}
use Rattle.std.specs.Option.{IsSome}
use Rattle.nl_types.specs.Blocks.RootChanges.{HasData, places}
use Rattle.nl_types.specs.Blocks.Roots.{Empty, OfTree, Pages, Root, Tree, child, kind_of, place_at}
use Rattle.nl_blocktree.specs.Facts.MetPlaces.{empty-place, pair}
use Rattle.nl_blocktree.specs.Facts.MetRanges.{range-left, range-none, range-right, range-step, slots-whole, whole-step}
use Rattle.nl_blocktree.specs.Facts.TreePlaces.{above-same, none-under}
use Rattle.nl_blocktree.specs.FileShapes.{HasShape}
use Rattle.nl_check.specs.Private.BesideTrees.{IsAnew, StandAt, StandsBeside}
use Rattle.nl_check.proofs.SamePlaces.{same-under}
use Rattle.nl_blocktree.specs.Facts.TreeLevels.{tree_child}

-- what a slot of a node names stands below it
pub tree-slot : (pages : Pages) (height top level below offset s : ℕ) → level ≡ suc below → level ≤ height
    → s < 128 → place_at pages (Tree height top) below (128 * offset + s)
    ≡ child pages s (place_at pages (Tree height top) level offset)
tree-slot pages height top level below offset s e low within =
    let up : (128 * offset + s) / 128 ≡ offset = omega (arith, within) in
    let in_slot : (128 * offset + s) % 128 ≡ s = omega (arith, within) in
    tree_child pages height top below (128 * offset + s) (omega (arith, e, low))
    ∙ (ap (λ (k : ℕ). child pages k (place_at pages (Tree height top) (suc below) ((128 * offset + s) / 128)))
    in_slot
    ∙ (ap (λ (q : ℕ). child pages s (place_at pages (Tree height top) (suc below) q)) up
    ∙ ap (λ (k : ℕ). child pages s (place_at pages (Tree height top) k offset)) (sym e)))

module _ (pages : Pages) (height top : ℕ) (other : Root) where
  nothing : other ≡ Empty → (level offset : ℕ) → place_at pages other level offset ≡ None
  nothing is level offset = ap (λ (r : Root). place_at pages r level offset) is ∙ empty-place pages level
      offset

  -- one number at a place of both, and one at each place under it
  pub beside-under : (level offset at q : ℕ) → StandsBeside height other → level ≤ height → at ≤ level
      → q / 128 ^ (level - at) ≡ offset
      → place_at pages (Tree height top) level offset ≡ place_at pages other level offset
      → place_at pages (Tree height top) at q ≡ place_at pages other at q
  beside-under level offset at q (inl (u, is)) low under over one =
      same-under pages height top height u level offset at q low low under over
      (one ∙ ap (λ (r : Root). place_at pages r level offset) is)
      ∙ sym (ap (λ (r : Root). place_at pages r at q) is)
  beside-under level offset at q (inr is) low under over one =
      none-under pages height top level offset at q low under over (one ∙ nothing is level offset)
      ∙ sym (nothing is at q)

  beside-slot : (level below offset s : ℕ) → StandsBeside height other → level ≡ suc below → level ≤ height
      → s < 128
      → place_at pages other below (128 * offset + s) ≡ child pages s (place_at pages other level offset)
  beside-slot level below offset s (inl (u, is)) e low within =
      subst (λ (r : Root). place_at pages r below (128 * offset + s) ≡ child pages s
      (place_at pages r level offset))
      (sym is) (tree-slot pages height u level below offset s e low within)
  beside-slot level below offset s (inr is) e low within =
      nothing is below (128 * offset + s) ∙ sym (ap (child pages s) (nothing is level offset))

  -- what a slot names of a node stands beside what the same slot of the other names
  pub stand-child : (level below offset number : ℕ) (beside next : Option ℕ) (s v : ℕ) → level ≡ suc below
      → s < 128 → child pages s (Some number) ≡ Some v → child pages s beside ≡ next
      → StandAt pages height top other level offset number beside
      → StandAt pages height top other below (128 * offset + s) v next
  stand-child level below offset number beside next s v e within names other_names st = record {
    low = (let low = st.low in omega (arith, low, e));
    other_is = st.other_is;
    here =
        tree-slot pages height top level below offset s e st.low within
        ∙ (ap (child pages s) st.here ∙ names);
    there =
        beside-slot level below offset s st.other_is e st.low within
        ∙ (ap (child pages s) st.there ∙ other_names);
  }

  is-tree : StandsBeside height other → (level offset v : ℕ) → place_at pages other level offset ≡ Some v
      → kind_of other ≡ OfTree
  is-tree (inl (u, is)) level offset v there = ap kind_of is
  is-tree (inr is) level offset v there = absurd (let none = nothing is level offset in cc)

  -- a block that the other has there too stands above data, or is data
  pub kept-above : (level offset v : ℕ) → StandsBeside height other → HasShape pages other → level ≤ height
      → place_at pages (Tree height top) level offset ≡ Some v
      → place_at pages (Tree height top) level offset ≡ place_at pages other level offset
      → (i : ℕ) × (i / 128 ^ level ≡ offset) × HasData pages (Tree height top) i
  kept-above zero offset v b shape low is one =
      (offset, div-one offset, subst (λ (o : Option ℕ). IsSome o) (sym is) refl)
  kept-above (suc level) offset v b shape low is one =
      let there : place_at pages other (suc level) offset ≡ Some v = sym one ∙ is in
      let d = (shape.tree_shape (is-tree b (suc level) offset v there)).above_data level offset v there in
      let over : d.0 / 128 ^ (suc level - 0) ≡ offset =
      ap (λ (x : ℕ). d.0 / 128 ^ x) (omega arith) ∙ d.1 in
      let same_data = beside-under (suc level) offset 0 d.0 b low (omega arith) over one in
      (d.0, d.1, subst (λ (o : Option ℕ). IsSome o) (sym same_data) d.2)

  -- ---- what is anew, range by range

  -- nothing is, under a block that the other has too
  pub none-anew : (level offset number : ℕ) → StandAt pages height top other level offset number (Some number)
      → (at : ℕ × ℕ) → IsAnew pages (Tree height top) other level offset (suc offset) at → ⊥
  none-anew level offset number st at a =
      let from = a.under.from in
      let under = a.under.below in
      a.differs
      (beside-under level offset at.0 at.1 st.other_is st.low a.under.low (omega (arith, from, under))
      (st.here ∙ sym st.there))

  pub anew-step : (level first last : ℕ) (b : ℕ × ℕ)
      → IsAnew pages (Tree height top) other level first (last + 1) b
      → IsAnew pages (Tree height top) other level first last b
      ⊎ IsAnew pages (Tree height top) other level last (suc last) b
  anew-step level first last b a = elim (range-step level first last b a.under) [
    | inl u ↦ inl (record { under = u; differs = a.differs })
    | inr u ↦ inr (record { under = u; differs = a.differs })
  ]

  pub anew-left : (level first last : ℕ) (b : ℕ × ℕ) → IsAnew pages (Tree height top) other level first last b
      → IsAnew pages (Tree height top) other level first (last + 1) b
  anew-left level first last b a =
      record { under = range-left level first last b a.under; differs = a.differs }

  pub anew-right : (level first last : ℕ) → first ≤ last → (b : ℕ × ℕ)
      → IsAnew pages (Tree height top) other level last (suc last) b
      → IsAnew pages (Tree height top) other level first (last + 1) b
  anew-right level first last rises b a =
      record { under = range-right level first last rises b a.under; differs = a.differs }

  pub nowhere-anew : (level first : ℕ) (b : ℕ × ℕ)
      → IsAnew pages (Tree height top) other level first first b → ⊥
  nowhere-anew level first b a = range-none level first b a.under

  -- a block of data
  pub anew-bottom : (level offset : ℕ) → level ≡ 0 → (b : ℕ × ℕ)
      → IsAnew pages (Tree height top) other level offset (suc offset) b → b ≡ (level, offset)
  anew-bottom level offset zero_is b a =
      let low = a.under.low in
      let from = a.under.from in
      let under = a.under.below in
      let at : b.0 ≡ level = omega (arith, low, zero_is) in
      let over = above-same level b.0 b.1 at in
      pair b (level, offset) at (omega (arith, over, from, under))

  module _ (level offset number : ℕ) (beside : Option ℕ)
      (st : StandAt pages height top other level offset number beside) (apart : beside ≡ Some number → ⊥)
    where
      -- the block itself is anew
      pub anew-here : IsAnew pages (Tree height top) other level offset (suc offset) (level, offset)
      anew-here = record {
        under =
            let over : offset / 128 ^ (level - level) ≡ offset = above-same level level offset refl in
            record { low = omega arith; from = omega (arith, over); below = omega (arith, over) };
        differs = λ e. apart (sym st.there ∙ (sym e ∙ st.here));
      }

      pub number-here : (b : ℕ × ℕ) (w : ℕ) → b ≡ (level, offset) → places pages (Tree height top) b ≡ Some w
          → w ≡ number
      number-here b w is stands =
          let one : Some w ≡ Some number = sym stands ∙ (ap (places pages (Tree height top)) is ∙ st.here) in cc

  module _ (level below offset : ℕ) (e : level ≡ suc below) where
    pub anew-whole : (b : ℕ × ℕ) → IsAnew pages (Tree height top) other level offset (suc offset) b
        → (b ≡ (level, offset))
        ⊎ IsAnew pages (Tree height top) other below (128 * offset) (128 * offset + 128) b
    anew-whole b a = elim (whole-step level below offset e b a.under) [
      | inl here ↦ inl here
      | inr u ↦ inr (record { under = u; differs = a.differs })
    ]

    pub anew-slots : (b : ℕ × ℕ)
        → IsAnew pages (Tree height top) other below (128 * offset) (128 * offset + 128) b
        → IsAnew pages (Tree height top) other level offset (suc offset) b
    anew-slots b a = record {
      under = slots-whole level below offset e b (128 * offset + 128) (omega arith) a.under;
      differs = a.differs;
    }

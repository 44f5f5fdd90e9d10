-- What a walk finds wrong with a file.
use Rattle.std.proofs.Common.{◌≡◌, ℕ, suc, ◌+◌, ◌*◌, ◌/◌, ◌%◌, ◌^◌, ◌<◌, Bool, true, List, Some, None, ap, sym, subst, ◌∙◌, inl, inr, arith}
use Rattle.std.specs.Prelude.{IfErr, OnErr, Result, Ok, Err}
use Rattle.std.proofs.lemmas.Bool.{cases_lt}
use Rattle.nl_types.specs.Blocks.RootChanges.{HasData, places}
use Rattle.nl_types.specs.Blocks.Roots.{OfTree, Pages, Root, Chain, Empty, Tree, kind_of, place_at}
use Rattle.nl_blocktree.specs.Walked.{CanBeMet, CanNotMeet, HasMet, IsElsewhere, IsWalkRefusal, is_met}
use Rattle.nl_blocktree.specs.declared.meeting.WalkError.{WalkError}
use Rattle.nl_blocktree.specs.declared.meeting.WalkError.TheVariants.{NoNode, EmptyLastNode, EmptyNode, TooHigh, NotInUse, MetTwice}
use Rattle.nl_blocktree.specs.Private.Walks.{IsRefusalAt}
use Rattle.nl_blocktree.specs.Facts.MetPlaces.{no-some}
use Rattle.nl_blocktree.specs.Facts.Staying.{some-of}
use Rattle.nl_blocktree.specs.Facts.TreeLevels.{div-pow-suc, tree_above}
use Rattle.nl_blocktree.specs.Facts.TreePlaces.{none-under}

-- ---- a number that was met

-- a number that was met meanwhile stands at a place that was visited
met-elsewhere : (pages : Pages) (root : Root) (old now : List Bool) (Visited : ℕ × ℕ → Type 0) (at : ℕ × ℕ)
    (v : ℕ) → (Visited at → ⊥) → HasMet pages root Visited old now → is_met now v ≡ true
    → IsElsewhere pages root old at v
met-elsewhere pages root old now Visited at v new_place m met = elim (m.only v met) [
  | inl o ↦ inl o
  | inr x ↦ inr (x.0, (λ e. new_place (subst Visited e x.1)), x.2)
]

-- a number at a place that wasn't visited can't be met
pub refused-at : (pages : Pages) (root : Root) (old now : List Bool) (Visited : ℕ × ℕ → Type 0) (at : ℕ × ℕ)
    (v : ℕ) (why : WalkError) → (Visited at → ⊥) → places pages root at ≡ Some v
    → HasMet pages root Visited old now → CanNotMeet pages v now why → IsWalkRefusal pages root old why
refused-at pages root old now Visited at v why new_place stands m (inl (which, none)) =
    subst (IsWalkRefusal pages root old) (sym which) ((at, stands), none)
refused-at pages root old now Visited at v why new_place stands m (inr (which, met)) =
    subst (IsWalkRefusal pages root old) (sym which)
    (at, stands, met-elsewhere pages root old now Visited at v new_place m met)

-- ---- what is wrong with the blocks at some places

module _ (pages : Pages) (root : Root) (Visited : ℕ × ℕ → Type 0) where
  pub refused-here : (at : ℕ × ℕ) (v : ℕ) (old : List Bool) (why : WalkError) → Visited at
      → places pages root at ≡ Some v → CanNotMeet pages v old why → IsRefusalAt pages root Visited old why
  refused-here at v old why here stands (inl (which, none)) =
      subst (IsRefusalAt pages root Visited old) (sym which) ((at, stands), none)
  refused-here at v old why here stands (inr (which, met)) =
      subst (IsRefusalAt pages root Visited old) (sym which) (at, here, stands, inl met)

  pub refusal-whole : (old : List Bool) (why : WalkError) → IsRefusalAt pages root Visited old why
      → IsWalkRefusal pages root old why
  refusal-whole old NoNode h = h
  refusal-whole old EmptyLastNode h = h
  refusal-whole old EmptyNode h = h
  refusal-whole old TooHigh h = h
  refusal-whole old (NotInUse v) h = h
  refusal-whole old (MetTwice v) (at, here, stands, other) = (at, stands, other)

  pub refusal-more : (More : ℕ × ℕ → Type 0) → ((b : ℕ × ℕ) → Visited b → More b) → (old : List Bool)
      (why : WalkError) → IsRefusalAt pages root Visited old why → IsRefusalAt pages root More old why
  refusal-more More more old NoNode h = h
  refusal-more More more old EmptyLastNode h = h
  refusal-more More more old EmptyNode h = h
  refusal-more More more old TooHigh h = h
  refusal-more More more old (NotInUse v) h = h
  refusal-more More more old (MetTwice v) (at, here, stands, other) = (at, more at here, stands, other)

  -- what is wrong after other places were met is wrong before
  pub refusal-before : (First : ℕ × ℕ → Type 0) (old mid : List Bool)
      → ((b : ℕ × ℕ) → First b → Visited b → ⊥) → HasMet pages root First old mid → (why : WalkError)
      → IsRefusalAt pages root Visited mid why → IsRefusalAt pages root Visited old why
  refusal-before First old mid apart m NoNode h = h
  refusal-before First old mid apart m EmptyLastNode h = h
  refusal-before First old mid apart m EmptyNode h = h
  refusal-before First old mid apart m TooHigh h = h
  refusal-before First old mid apart m (NotInUse v) h = h
  refusal-before First old mid apart m (MetTwice v) (at, here, stands, inr other) =
      (at, here, stands, inr other)
  refusal-before First old mid apart m (MetTwice v) (at, here, stands, inl met) =
      (at, here, stands, met-elsewhere pages root old mid First at v (λ n. apart at n here) m met)

-- ---- no file with something wrong can be met

-- a node above data names something
names-some : (pages : Pages) (root : Root) (level offset v i : ℕ) → kind_of root ≡ OfTree
    → place_at pages root (suc level) offset ≡ Some v
    → ((s : ℕ) → s < 128 → place_at pages root level (128 * offset + s) ≡ None)
    → i / 128 ^ suc level ≡ offset → HasData pages root i → ⊥
names-some pages Empty level offset v i kind at none over has_data = cc
names-some pages (Chain top) level offset v i kind at none over has_data = cc
names-some pages (Tree height top) level offset v i kind at none over has_data = elim (cases_lt height (suc level)) [
  | inl high ↦ (let nowhere = tree_above pages height top (suc level) offset high in cc)
  | inr low ↦ (
      let q : ℕ = i / 128 ^ level in
      let up : i / 128 ^ suc level ≡ q / 128 = div-pow-suc i level in
      let place : 128 * offset + q % 128 ≡ q = omega (arith, up, over) in
      let here : place_at pages (Tree height top) level q ≡ None =
      ap (place_at pages (Tree height top) level) (sym place) ∙ none (q % 128) (omega arith) in
      no-some (place_at pages (Tree height top) 0 i) has_data
      (none-under pages height top level q 0 i (omega (arith, low)) (omega arith)
      (ap (λ (d : ℕ). i / 128 ^ d) (omega arith)) here))
]

pub refusal-no : (pages : Pages) (root : Root) (old : List Bool) (why : WalkError)
    → IsWalkRefusal pages root old why → CanBeMet pages root old → ⊥
refusal-no pages root old NoNode (kind, none) can = no-some _ (can.shape.has_top kind) none
refusal-no pages root old EmptyLastNode (kind, p, some, none) can =
    let v = some-of (place_at pages root 1 p) some in
    let d = can.shape.ends_full kind p v.0 v.1 in
    no-some (place_at pages root 0 d.0) d.2 (none d.0 d.1)
refusal-no pages root old EmptyNode (kind, level, offset, some, none) can =
    let v = some-of (place_at pages root (suc level) offset) some in
    let d = (can.shape.tree_shape kind).above_data level offset v.0 v.1 in
    names-some pages root level offset v.0 d.0 kind v.1 none d.1 d.2
refusal-no pages root old TooHigh (kind, inl none) can =
    let shape = can.shape.tree_shape kind in let low = shape.low in omega (arith, low, none)
refusal-no pages root old TooHigh (kind, inr (lower, height, one, none)) can =
    let least = (can.shape.tree_shape kind).least in elim (cases_lt least.0 (128 ^ lower)) [
      | inl near ↦ (let most = least.2 lower one near in omega (arith, most, height))
      | inr far ↦ no-some (place_at pages root 0 least.0) least.1 (none least.0 far)
    ]
refusal-no pages root old (NotInUse v) ((at, stands), none) can =
    no-some (pages v) (can.shape.stored at.0 at.1 v stands) none
refusal-no pages root old (MetTwice v) (at, stands, inl met) can = let fresh = can.fresh at v stands in cc
refusal-no pages root old (MetTwice v) (at, stands, inr (b, other, too)) can =
    other (can.once b at v too stands)

pub refused-no : (pages : Pages) (root walked : Root) (old : List Bool) (r : Result ℕ WalkError)
    → root ≡ walked → IfErr r (IsWalkRefusal pages walked old) → OnErr r (CanBeMet pages root old → ⊥)
refused-no pages root walked old (Ok count) is h = tt
refused-no pages root walked old (Err why) is h = λ can.
    refusal-no pages walked old why h (subst (λ (r : Root). CanBeMet pages r old) is can)

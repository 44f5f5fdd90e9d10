-- What a tree of a height is walked beside.
use Rattle.std.proofs.Common.{◌≡◌, ◌⊎◌, ℕ, None, refl, ap, sym, ◌∙◌, inl, inr}
use Rattle.std.proofs.lemmas.Bool.{cases_eq, eq-eqb, ne_eqb}
use Rattle.nl_types.specs.Blocks.Roots.{Chain, Empty, Pages, Root, Tree, numbered, place_at}
use Rattle.nl_check.specs.Private.BesideTrees.{StandsBeside}
use Rattle.nl_check.specs.Private.ChangedFiles.{of_height}
use Rattle.nl_blocktree.specs.Facts.MetPlaces.{empty-place}
use Rattle.nl_blocktree.specs.Facts.TreePlaces.{tree-top}

pub of-height : (height top : ℕ) → of_height height (Tree height top) ≡ Tree height top
of-height height top = rw (eq-eqb height height refl) refl

pub of-other : (height g top : ℕ) → (g ≡ height → ⊥) → of_height height (Tree g top) ≡ Empty
of-other height g top other = rw (ne_eqb g height other) refl

-- another tree of the height, or nothing
pub beside-case : (height : ℕ) (root : Root)
    → ((top : ℕ) × (root ≡ Tree height top) × (of_height height root ≡ root))
    ⊎ ((of_height height root ≡ Empty) × ((top : ℕ) → root ≡ Tree height top → ⊥))
beside-case height Empty = inr (refl, λ top e. cc)
beside-case height (Chain t) = inr (refl, λ top e. cc)
beside-case height (Tree g t) = elim (cases_eq g height) [
  | inl e ↦
      (let root : Tree g t ≡ Tree height t = ap (λ (k : ℕ). Tree k t) e in
      inl (t, root, ap (of_height height) root ∙ (of-height height t ∙ sym root)))
  | inr n ↦ inr (of-other height g t n, λ top e. n (let one : g ≡ height = cc in one))
]

pub stands-beside : (height : ℕ) (root : Root) → StandsBeside height (of_height height root)
stands-beside height root = elim (beside-case height root) [
  | inl (top, is, one) ↦ inl (top, one ∙ is)
  | inr other ↦ inr other.0
]

-- the topmost node there
pub top-same : (pages : Pages) (height g top : ℕ) → g ≡ height
    → place_at pages (of_height height (Tree g top)) height 0 ≡ numbered top
top-same pages height g top e =
    ap (λ (k : ℕ). place_at pages (of_height height (Tree k top)) height 0) e
    ∙ (ap (λ (r : Root). place_at pages r height 0) (of-height height top) ∙ tree-top pages height top)

pub top-other : (pages : Pages) (height g top : ℕ) → (g ≡ height → ⊥)
    → place_at pages (of_height height (Tree g top)) height 0 ≡ None
top-other pages height g top n =
    ap (λ (r : Root). place_at pages r height 0) (of-other height g top n) ∙ empty-place pages height 0

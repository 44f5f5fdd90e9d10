-- A tree whose top names nothing is no tree; and what a renewed tree has below its nodes.
use Rattle.std.proofs.Common.{◌≡◌, ℕ, suc, ◌+◌, ◌*◌, ◌<◌, ◌≤◌, List, Option, Some, None, refl, sym, subst, ◌∙◌, arith, inl, inr, ◌⊎◌}
use Rattle.std.specs.Option.{IsSome}
use Rattle.std.proofs.lemmas.Bool.{cases_eq, cases_lt, ne_eqb, eq-eqb}
use Rattle.nl_types.specs.Blocks.Entries.{Birth, Content}
use Rattle.nl_types.specs.Blocks.RootChanges.{with_births}
use Rattle.nl_types.specs.Blocks.Roots.{Empty, Pages, Tree, numbered, pages_of, place_at}
use Rattle.nl_blocktree.specs.Private.Renewing.{IsRenewed}
use Rattle.nl_blocktree.specs.Private.TreeLevels.{AreLevels, HasFullNodes, Levels, only}
use Rattle.nl_blocktree.specs.declared.tree.Edit.{Edit}
use Rattle.nl_blocktree.specs.Facts.TreeLevels.{levels_are, tree_above}

-- ---- no blocks

none_levels : (pages : Pages) (height top : ℕ) → numbered top ≡ None
    → AreLevels pages height top (λ l offset. None)
none_levels pages height top e = record {
  tops = λ offset. sym (at offset (cases_eq offset 0));
  children = λ level offset low. refl;
}
  where
    at : (offset : ℕ) → (offset ≡ 0) ⊎ (offset ≡ 0 → ⊥) → only top offset ≡ None
    at offset (inl z) = rw (eq-eqb offset 0 z) e
    at offset (inr z) = rw (ne_eqb offset 0 z) refl

pub no_blocks : (pages : Pages) (height top : ℕ) → numbered top ≡ None → (level offset : ℕ)
    → place_at pages (Tree height top) level offset ≡ place_at pages Empty level offset
unfolding place_at
no_blocks pages height top e level offset = elim (cases_lt height level) [
  | inl far ↦ tree_above pages height top level offset far
  | inr low ↦ levels_are pages height top (λ l o. None) (none_levels pages height top e) level offset low
]

-- a climb that ends with nothing leaves the empty root
pub renewed_empty : {content : Content} {inode : ℕ} {prior old : Levels} {asked : List Edit}
    {births all : List Birth} {zs ends : List ℕ} (height top : ℕ)
    → numbered top ≡ None →
    IsRenewed content inode prior old
    (place_at (with_births all (pages_of content)) (Tree height top)) asked births all zs ends
    →
    IsRenewed content inode prior old
    (place_at (with_births all (pages_of content)) Empty) asked births all zs ends
renewed_empty {content} {inode} {prior} {old} {asked} {births} {all} {zs} {ends} height top e h =
    let same : ◌≡◌ {A = Levels} (place_at (with_births all (pages_of content)) (Tree height top))
    (place_at (with_births all (pages_of content)) Empty) =
    λ i. λ l. λ o. no_blocks (with_births all (pages_of content)) height top e l o i in
    subst (λ (new : Levels). IsRenewed content inode prior old new asked births all zs ends) same h

-- ---- each node has a block below it

pub full_places : (pages : Pages) (height top : ℕ) (levels : Levels)
    → ((l offset : ℕ) → l ≤ height → place_at pages (Tree height top) l offset ≡ levels l offset) →
    ((l offset v : ℕ) → l < height → levels (suc l) offset ≡ Some v
    → (s : ℕ) × (s < 128) × IsSome (levels l (128 * offset + s)))
    → HasFullNodes pages height top
full_places pages height top levels same full l offset v low e =
    let r = full l offset v low (sym (same (suc l) offset low) ∙ e) in
    (r.0, r.1, subst (λ (o : Option ℕ). IsSome o) (sym (same l (128 * offset + r.0) (omega arith))) r.2)

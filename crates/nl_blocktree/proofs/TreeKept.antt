-- What can be kept of a root: the levels of a tree, or the data of a chain alone.
use Rattle.std.proofs.Common.{◌≡◌, ◌≢◌, ℕ, zero, suc, ◌<◌, ◌≤◌, Some, None, true, refl, sym, subst, ◌∙◌, arith, inl, inr}
use Rattle.std.specs.Option.{IsSome}
use Rattle.std.proofs.lemmas.Bool.{cases_eq, ne_eqb}
use Rattle.nl_types.specs.Blocks.Entries.{Content}
use Rattle.nl_types.specs.Blocks.RootChanges.{IsSound}
use Rattle.nl_types.specs.Blocks.Roots.{Chain, Empty, Pages, Root, Tree, pages_of, place_at}
use Rattle.nl_vstore.specs.Batches.{is_live}
use Rattle.nl_blocktree.specs.Numbering.{IsLive}
use Rattle.nl_blocktree.specs.Private.TreeLevels.{AreOldLevels, kept_levels, tree_height}
use Rattle.nl_blocktree.proofs.TreeGroups.{old_levels}
use Rattle.nl_blocktree.specs.Facts.TreeLevels.{tree_above, tree_top}

-- what is kept stands there
pub kept_place : (pages : Pages) (root : Root) (l offset v : ℕ) → kept_levels pages root l offset ≡ Some v
    → place_at pages root l offset ≡ Some v
kept_place pages Empty l offset v e = e
kept_place pages (Chain top) zero offset v e = e
kept_place pages (Chain top) (suc l) offset v e = cc
kept_place pages (Tree height top) l offset v e = e

-- all data is kept
pub kept_data : (pages : Pages) (root : Root) (i : ℕ) → kept_levels pages root 0 i ≡ place_at pages root 0 i
kept_data pages Empty i = refl
kept_data pages (Chain top) i = refl
kept_data pages (Tree height top) i = refl

pub kept_stored : (content : Content) (root : Root) → IsSound (pages_of content) root → (l offset v : ℕ)
    → kept_levels (pages_of content) root l offset ≡ Some v → IsSome (pages_of content v)
kept_stored content root sound l offset v e =
    sound.stored l offset v (kept_place (pages_of content) root l offset v e)

pub kept_live : (content : Content) (root : Root) → IsLive content root → (l offset v : ℕ)
    → kept_levels (pages_of content) root l offset ≡ Some v → is_live (content v) ≡ true
kept_live content root live l offset v e = live l offset v (kept_place (pages_of content) root l offset v e)

pub kept_once : (content : Content) (root : Root) → IsSound (pages_of content) root → (p q : ℕ × ℕ) (v : ℕ)
    → kept_levels (pages_of content) root p.0 p.1 ≡ Some v
    → kept_levels (pages_of content) root q.0 q.1 ≡ Some v → p ≡ q
kept_once content root sound p q v a b =
    sound.once p q v (kept_place (pages_of content) root p.0 p.1 v a)
    (kept_place (pages_of content) root q.0 q.1 v b)

empty_none : (pages : Pages) (l offset : ℕ) → place_at pages Empty l offset ≡ None
unfolding place_at
empty_none pages l offset = refl

pub none_over : (pages : Pages) (root : Root) (l offset : ℕ) → tree_height root < l
    → kept_levels pages root l offset ≡ None
none_over pages Empty l offset far = empty_none pages l offset
none_over pages (Chain top) zero offset far = absurd (omega arith)
none_over pages (Chain top) (suc l) offset far = refl
none_over pages (Tree height top) l offset far = tree_above pages height top l offset far

-- and so it is what a climb begins with
pub kept_old : (content : Content) (root : Root) → IsSound (pages_of content) root
    → AreOldLevels content (tree_height root) (kept_levels (pages_of content) root)
kept_old content Empty sound = record {
  stored = kept_stored content Empty sound;
  once = kept_once content Empty sound;
  children = λ l offset low. absurd (omega arith);
  full = λ l offset v e.
      let no : None ≡ Some v = sym (empty_none (pages_of content) (suc l) offset) ∙ e in cc;
  none_above = λ l offset far. empty_none (pages_of content) l offset;
}
kept_old content (Chain top) sound = record {
  stored = kept_stored content (Chain top) sound;
  once = kept_once content (Chain top) sound;
  children = λ l offset low. absurd (omega arith);
  full = λ l offset v e. cc;
  none_above = λ l offset far. none_over (pages_of content) (Chain top) l offset far;
}
kept_old content (Tree height top) sound = old_levels content height top sound

-- above the height of a tree, and beside its top, there is nothing
pub one_top : (pages : Pages) (root : Root) (l offset : ℕ) → 1 ≤ l → tree_height root ≤ l → offset ≢ 0
    → kept_levels pages root l offset ≡ None
one_top pages Empty l offset one low n = empty_none pages l offset
one_top pages (Chain top) zero offset one low n = absurd (omega arith)
one_top pages (Chain top) (suc l) offset one low n = refl
one_top pages (Tree height top) l offset one low n = elim (cases_eq height l) [
  | inl e ↦
      subst (λ (k : ℕ). place_at pages (Tree height top) k offset ≡ None) e
      (tree_top pages height top offset ∙ rw (ne_eqb offset 0 n) refl)
  | inr e ↦ tree_above pages height top l offset (omega (arith, e))
]

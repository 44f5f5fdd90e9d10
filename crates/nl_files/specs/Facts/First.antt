-- Settling can begin: over an empty root, with a root directory without names.
use Rattle.std.proofs.Common.{◌≡◌, ◌⊎◌, ℕ, Option, None, refl, ap, sym, subst, ◌∙◌, inl, inr}
use Rattle.std.proofs.lemmas.Bool.{cases_eq, eq-eqb, ne_eqb}
use Rattle.std.specs.Prelude.{cond}
use Rattle.nl_types.specs.Blocks.Lifetimes.{blank}
use Rattle.nl_types.specs.Blocks.Roots.{Pages, Root, Empty, pages_of, place_at}
use Rattle.nl_types.specs.Blocks.RootChanges.{IsSound}
use Rattle.nl_layout.specs.declared.inode.Inode.{Inode}
use Rattle.nl_types.specs.Facts.ExactLifetimes.{ledger-blank}
use Rattle.nl_ifile.specs.Inodes.{IsInodeFile, inode_at}
use Rattle.nl_blocktree.specs.Facts.Frames.{nothing-sound}
use Rattle.nl_tree.specs.FirstTree.{nothing_held}
use Rattle.nl_tree.specs.Facts.FirstTree.{holds_first, holds_nothing}
use Rattle.nl_files.specs.CheckpointRoots.{IsCheckpointRoot, StandsFor, Stores, inode_root, roots_at}
use Rattle.nl_files.specs.Laws.{FirstCheckpointsHold, IsLatest}
use Rattle.nl_files.specs.Facts.Following.{latest-hold}
use Rattle.nl_files.specs.Facts.Ones.{empty-none}

no_inode : (pages : Pages) (i : ℕ) → inode_at pages Empty i ≡ None
unfolding place_at
no_inode pages i = refl

no_inodes : (pages : Pages) → IsInodeFile pages Empty
unfolding place_at
no_inodes pages i = refl

no_root : (pages : Pages) (i : ℕ) → roots_at pages Empty i ≡ Empty
no_root pages i = step (cases_eq i 6)
  where
    step : (i ≡ 6) ⊎ (i ≡ 6 → ⊥) → roots_at pages Empty i ≡ Empty
    step (inl e) = ap (λ b. cond b Empty (inode_root (inode_at pages Empty i))) (eq-eqb i 6 e)
    step (inr n) =
        ap (λ b. cond b Empty (inode_root (inode_at pages Empty i))) (ne_eqb i 6 n)
        ∙ ap inode_root (no_inode pages i)

pub latest-first : IsLatest blank Empty nothing_held
latest-first = record {
  numbers = λ j.
      λ q.
      sym (ap (λ (r : Root). place_at (pages_of blank.content) r q.level q.offset)
      (no_root (pages_of blank.content) q.inode)
      ∙ empty-none (pages_of blank.content) q.level q.offset)
      j;
  sound = record {
    inode_file = nothing-sound (pages_of blank.content);
    inodes = no_inodes (pages_of blank.content);
    each = λ i.
        subst (λ (o : Option Inode). IsSound (pages_of blank.content) (inode_root o))
        (sym (no_inode (pages_of blank.content) i)) (nothing-sound (pages_of blank.content));
  };
  stores = λ i.
      subst (λ (o : Option Inode). StandsFor (pages_of blank.content) o None)
      (sym (no_inode (pages_of blank.content) i)) refl;
}

pub stores-nothing : (pages : Pages) → Stores pages Empty nothing_held
stores-nothing pages i = subst (λ (o : Option Inode). StandsFor pages o None) (sym (no_inode pages i)) refl

pub checkpoint-first : IsCheckpointRoot blank.content Empty
checkpoint-first = latest-hold blank Empty nothing_held ledger-blank latest-first holds_nothing

pub first-hold : FirstCheckpointsHold
first-hold = record {
  latest = latest-first;
  checkpoint = checkpoint-first;
  current = record {
    base_is = latest-first.stores;
    base_sound = holds_nothing;
    sound = holds_first;
    holds = refl;
  };
}

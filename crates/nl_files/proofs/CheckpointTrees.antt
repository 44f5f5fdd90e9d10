-- Which numbers a checkpoint's tree has in use.
use Rattle.std.proofs.Common.{ℕ, IsSome, Option, Some, None, subst, rules}
use Rattle.std.specs.Prelude.{MatchOption}
use Rattle.nl_types.specs.Blocks.Roots.{Pages, Root, page_at}
use Rattle.nl_types.specs.Plain.Limits.{inode_limit}
use Rattle.nl_types.specs.Inodes.{AreInUseFrom, IsLowestFreeInode}
use Rattle.nl_layout.specs.Root.{root_of}
use Rattle.nl_layout.specs.declared.inode.Inode.{Inode}
use Rattle.nl_layout.specs.declared.inode.InodeKind.{InodeKind}
use Rattle.nl_layout.specs.declared.inode.InodeKind.TheVariants.{File, Directory, InodeFile}
use Rattle.nl_ifile.specs.Free.{FindsFree}
use Rattle.nl_ifile.specs.Inodes.{inode_at}
use Rattle.nl_tree.specs.Held.{Held, Holding}
use Rattle.nl_files.specs.CheckpointRoots.{StandsAs, StandsFor}
use Rattle.nl_files.specs.CheckpointTrees.{HoldsTree}

-- an inode in use holds something
held_by : (pages : Pages) (inode : Option Inode) (held : Option Held) → StandsFor pages inode held
    → IsSome inode → IsSome held
held_by pages None held stands used = absurd cc
held_by pages (Some inode) held stands used = of_kind inode.kind stands
  where
    of_kind : (kind : InodeKind) → StandsAs (page_at pages (root_of inode.root)) kind inode.size held
        → IsSome held
    of_kind File stands = rw stands (search rules)
    of_kind Directory stands = rw stands.2 (search rules)
    of_kind InodeFile stands = absurd stands

module _ (pages : Pages) (root : Root) (holding : Holding) (h : HoldsTree pages root holding)
    (first : ℕ) where
  all_held : (end : ℕ) → AreInUseFrom (inode_at pages root) first end → AreInUseFrom holding first end
  all_held end used n low high =
      held_by pages (inode_at pages root n) (holding n) (h.stores n) (used n low high)

  lowest_free : (n : ℕ) → IsLowestFreeInode (inode_at pages root) first n
      → IsLowestFreeInode holding first n
  lowest_free n free = record {
    first = free.first;
    last = free.last;
    free = subst (λ (inode : Option Inode). StandsFor pages inode (holding n)) free.free (h.stores n);
    lowest = all_held n free.lowest;
  }

  -- what is found free among the inodes is so in the tree
  pub found_free : (found : Option ℕ) → FindsFree (inode_at pages root) first found
      → MatchOption found (AreInUseFrom holding first inode_limit) (IsLowestFreeInode holding first)
  found_free None used = all_held inode_limit used
  found_free (Some n) free = lowest_free n free

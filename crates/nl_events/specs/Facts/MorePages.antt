-- Checkpoints over pages that keep all there were.
use Rattle.std.proofs.Common.{◌≡◌, ℕ, ◌/◌, ◌%◌, List, Option, Some, None, ap, sym, subst, ◌∙◌}
use Rattle.std.specs.Prelude.{cond, ◌==◌}
use Rattle.std.specs.Option.{option_and_then}
use Rattle.nl_types.specs.Facts.PartialMaps.{same_at_all}
use Rattle.nl_types.specs.Blocks.PartialMaps.{Keeps}
use Rattle.nl_types.specs.Blocks.RootChanges.{IsSound, KeepsFile}
use Rattle.nl_types.specs.Blocks.Roots.{Pages, Root, page_at, place_at}
use Rattle.nl_layout.specs.Root.{root_of}
use Rattle.nl_layout.specs.declared.inode.Inode.{Inode}
use Rattle.nl_ifile.specs.Inodes.{InodeMap, block_for, in_block, inode_at, inode_in}
use Rattle.nl_blocktree.specs.Facts.Frames.{keeps-file, places-kept}
use Rattle.nl_tree.specs.Held.{Held, Holding}
use Rattle.nl_files.specs.CheckpointRoots.{IsTreeSound, StandsAs, StandsFor, Stores, inode_root, roots_at}
use Rattle.nl_files.specs.Staying.{CheckpointStays}
use Rattle.nl_files.specs.Facts.Staying.{root-sound}

-- an inode stands for the same where its file stays
stands-still : (pages more : Pages) (inode : Option Inode) (held : Option Held)
    → KeepsFile pages more (inode_root inode)
    → StandsFor pages inode held → StandsFor more inode held
stands-still pages more None held keeps stands = stands
stands-still pages more (Some n) held keeps stands =
    let same : page_at pages (root_of n.root) ≡ page_at more (root_of n.root) = λ j.
    λ b. sym (keeps.blocks b) j in
    subst (λ (blocks : Pages). StandsAs blocks n.kind n.size held) same stands

module _ (pages more : Pages) (root : Root) (sound : IsTreeSound pages root) (keeps : Keeps pages more) where
  inode_file : KeepsFile pages more root
  inode_file = keeps-file pages more root keeps sound.inode_file

  each : (i : ℕ) → KeepsFile pages more (inode_root (inode_at pages root i))
  each i = keeps-file pages more (inode_root (inode_at pages root i)) keeps (sound.each i)

  inodes : (i : ℕ) → inode_at more root i ≡ inode_at pages root i
  inodes i = ap (option_and_then (λ (page : List ℕ). inode_in page (i % 8))) (inode_file.blocks (i / 8))

  roots : (i : ℕ) → roots_at more root i ≡ roots_at pages root i
  roots i = ap (λ (inode : Option Inode). cond (i == 6) root (inode_root inode)) (inodes i)

  number : (i level offset : ℕ)
      → place_at more (roots_at more root i) level offset
      ≡ place_at pages (roots_at pages root i) level offset
  number i level offset =
      ap (λ (r : Root). place_at more r level offset) (roots i)
      ∙ places-kept pages more (roots_at pages root i) keeps
      (root-sound pages root sound i).stored level offset

  stores : (held : Holding) → Stores pages root held → Stores more root held
  stores held stands i =
      subst (λ (inode : Option Inode). StandsFor more inode (held i)) (sym (inodes i))
      (stands-still pages more (inode_at pages root i) (held i) (each i) (stands i))

  -- a sound checkpoint stays, whatever it stands for
  pub sound-stays : CheckpointStays pages more root
  sound-stays = record {
    roots = roots;
    numbers = λ j. λ at. number at.inode at.level at.offset j;
    sound = record {
      inode_file = inode_file.sound;
      inodes = λ i. inode_file.blocks i
          ∙ (sound.inodes i
          ∙ ap (λ (all : InodeMap). block_for (in_block all i))
          (sym (same_at_all (inode_at more root) (inode_at pages root) inodes)));
      each = λ i.
          subst (λ (inode : Option Inode). IsSound more (inode_root inode)) (sym (inodes i)) (each i).sound;
    };
    stores = stores;
  }

-- The file of inodes once its blocks are changed.
use Rattle.std.proofs.Common.{◌≡◌, ℕ, suc, ◌+◌, ◌*◌, ◌/◌, ◌%◌, ◌==◌, cond, Bool, true, false, List, [], ◌∷◌, take, drop, Option, None, Some, refl, ap, sym, ◌∙◌, arith}
use Rattle.std.specs.List.{All}
use Rattle.std.specs.Option.{option_and_then}
use Rattle.nl_types.specs.Blocks.Entries.{Content}
use Rattle.nl_types.specs.Blocks.Roots.{Pages, Root, page_at, pages_of}
use Rattle.nl_types.specs.Blocks.RootChanges.{with_births}
use Rattle.nl_layout.specs.declared.inode.Inode.{Inode}
use Rattle.nl_layout.specs.Inode.{EntryHasSpelling}
use Rattle.nl_vstore.specs.Batches.{Changes}
use Rattle.nl_blocktree.specs.declared.change.BlockChange.{BlockChange}
use Rattle.nl_blocktree.specs.Putting.{PutsAll}
use Rattle.nl_ifile.specs.declared.change.InodeChange.{InodeChange}
use Rattle.nl_ifile.specs.Inodes.{InodeMap, IsInodeFile, block_for, entry_for, in_block, inode_at, inode_in, inode_spelled}
use Rattle.nl_ifile.specs.Changing.{AreBlockChanges, PutsInodes, inodes_with}
use Rattle.nl_ifile.proofs.Spelling.{inode_spelled-fits}
use Rattle.nl_ifile.proofs.BlockBytes.{block_for-cong, inode_in-block_for}

abbrev AllFit : InodeMap → Type 0
AllFit inodes = (n : ℕ) → EntryHasSpelling (entry_for (inodes n))

-- inodes that are read have a spelling
fits-read : (pages : Pages) (root : Root) → AllFit (inode_at pages root)
fits-read pages root n = of (page_at pages root (n / 8))
  where
    spelled : (bytes : List ℕ) (o : Option Inode) → inode_spelled bytes ≡ o → EntryHasSpelling (entry_for o)
    spelled bytes None e = tt
    spelled bytes (Some i) e = inode_spelled-fits bytes i e

    of : (o : Option (List ℕ))
        → EntryHasSpelling (entry_for (option_and_then (λ page. inode_in page (n % 8)) o))
    of None = tt
    of (Some page) = spelled (take 128 (drop (128 * (n % 8)) page)) (inode_in page (n % 8)) refl

fits-inodes_with : (changes : List InodeChange) (inodes : InodeMap)
    → All (λ c. EntryHasSpelling (entry_for c.inode)) changes → AllFit inodes
    → AllFit (inodes_with changes inodes)
fits-inodes_with [] inodes h old n = old n
fits-inodes_with (c ∷ changes) inodes h old n =
    either (n == c.number) (fits-inodes_with changes inodes (λ k d l. h (suc k) d (omega arith)) old n)
  where
    either : (b : Bool) → EntryHasSpelling (entry_for (inodes_with changes inodes n))
        → EntryHasSpelling (entry_for (cond b c.inode (inodes_with changes inodes n)))
    either true rest = h 0 c (omega arith)
    either false rest = rest

module _ (pages : Pages) (new : Root) (inodes : InodeMap)
    (blocks : (i : ℕ) → page_at pages new i ≡ block_for (in_block inodes i)) (fits : AllFit inodes) where
  -- blocks of inodes are read as those inodes
  pub inode_at-blocks : (n : ℕ) → inode_at pages new n ≡ inodes n
  inode_at-blocks n =
      let whole : 8 * (n / 8) + n % 8 ≡ n = omega arith in
      ap (option_and_then (λ (page : List ℕ). inode_in page (n % 8))) (blocks (n / 8))
      ∙ (inode_in-block_for (in_block inodes (n / 8)) (n % 8) (omega arith) (fits (8 * (n / 8) + n % 8))
      ∙ ap inodes whole)

  pub inode_file-blocks : IsInodeFile pages new
  inode_file-blocks i =
      blocks i
      ∙ block_for-cong (in_block inodes i) (in_block (inode_at pages new) i)
      (λ p low. sym (inode_at-blocks (8 * i + p)))

-- a file whose blocks are changed as inodes are
pub puts-inodes : (content : Content) (root new : Root) (changes : List InodeChange)
    (blocks : List BlockChange) (before after : Changes)
    →
    AreBlockChanges (page_at (pages_of content) root) (inode_at (pages_of content) root) changes blocks
    → PutsAll content 6 root new blocks before after → PutsInodes content root new changes before after
puts-inodes content root new changes blocks before after are puts =
    let inodes : InodeMap = inodes_with changes (inode_at (pages_of content) root) in
    let fits : AllFit inodes =
    fits-inodes_with changes (inode_at (pages_of content) root) are.fits
    (fits-read (pages_of content) root) in
    let become : (i : ℕ)
    → page_at (with_births after.births (pages_of content)) new i ≡ block_for (in_block inodes i) =
    λ i. puts.blocks i ∙ are.become i in
    record {
      blocks = blocks;
      puts = puts;
      inodes = inode_at-blocks (with_births after.births (pages_of content)) new inodes become fits;
      file = inode_file-blocks (with_births after.births (pages_of content)) new inodes become fits;
    }

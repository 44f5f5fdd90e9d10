-- The inodes of one block, by its page and by the root.
use Rattle.std.proofs.Common.{◌≡◌, ℕ, ◌/◌, ◌%◌, ◌<◌, ◌≤◌, List, Option, Some, None, IsSome, sym, ap, subst, ◌∙◌, arith}
use Rattle.std.specs.Option.{option_and_then}
use Rattle.nl_types.specs.Blocks.Roots.{Pages, Root, page_at}
use Rattle.nl_types.specs.Inodes.{AreInUseFrom}
use Rattle.nl_ifile.specs.declared.change.InodeChange.{InodeChange}
use Rattle.nl_ifile.specs.Inodes.{InodeMap, inode_at, inode_in}
use Rattle.nl_ifile.specs.Changing.{inodes_with}
use Rattle.nl_ifile.specs.Free.{FindsFreeInBlock, IsFreeInBlock, block_end, inode_of_page}
use Rattle.nl_ifile.proofs.Finding.{inodes_with-same}

module _ (pages : Pages) (root : Root) (changes : List InodeChange) (page : Option (List ℕ)) (first : ℕ)
    (there : page ≡ page_at pages root (first / 8)) where
  of_page : InodeMap
  of_page = inodes_with changes (inode_of_page page)

  of_root : InodeMap
  of_root = inodes_with changes (inode_at pages root)

  same : (n : ℕ) → first ≤ n → n < block_end first → of_page n ≡ of_root n
  unfolding of_page of_root
  same n low high =
      let block : first / 8 ≡ n / 8 = omega arith in
      inodes_with-same changes (inode_of_page page) (inode_at pages root) n
      (ap (option_and_then (λ (bytes : List ℕ). inode_in bytes (n % 8)))
      (there ∙ ap (page_at pages root) block))

  in_use-of_root : (end : ℕ) → end ≤ block_end first → AreInUseFrom of_page first end
      → AreInUseFrom of_root first end
  in_use-of_root end within found n low high = subst IsSome (same n low (omega arith)) (found n low high)

  free-of_root : (n : ℕ) → IsFreeInBlock of_page first n → IsFreeInBlock of_root first n
  free-of_root n free = record {
    low = free.low;
    high = free.high;
    free = sym (same n free.low free.high) ∙ free.free;
    lowest = in_use-of_root n (omega (arith, free.high)) free.lowest;
  }

  -- what is found on the page is what is found in the root's block
  pub found-of_root : (r : Option ℕ) → FindsFreeInBlock (inodes_with changes (inode_of_page page)) first r →
      FindsFreeInBlock (inodes_with changes (inode_at pages root)) first r
  unfolding of_page of_root
  found-of_root None found = in_use-of_root (block_end first) (omega arith) found
  found-of_root (Some n) found = free-of_root n found

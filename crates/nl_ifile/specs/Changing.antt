-- Changes of inodes.
use Rattle.std.specs.Prelude.{◌≡◌, ℕ, ◌==◌, ◌<◌, if◌then◌else◌, ◌/◌, ◌≤◌, slice_index_or, length, take, List, [], ◌∷◌}
use Rattle.std.specs.List.{All, AllPairs}
use Rattle.nl_types.specs.Plain.Limits.{inode_file_number, inode_limit}
use Rattle.nl_types.specs.Blocks.Entries.{Content}
use Rattle.nl_types.specs.Blocks.Roots.{Blocks, Root, pages_of}
use Rattle.nl_vstore.specs.Batches.{Changes}
use Rattle.nl_blocktree.specs.declared.change.BlockChange.{BlockChange}
use Rattle.nl_blocktree.specs.Changed.{IndexesAreInRange, IndexesAscend, blocks_with}
use Rattle.nl_blocktree.specs.Putting.{PutsAll, pages_after}
use Rattle.nl_layout.specs.Inode.{EntryHasSpelling}
use Rattle.nl_ifile.specs.declared.change.InodeChange.{InodeChange}
use Rattle.nl_ifile.specs.Inodes.{InodeMap, IsInodeFile, block_for, entry_for, in_block, inode_at}

-- each change gives its number its inode, or frees the number
abbrev pub inodes_with : List InodeChange → InodeMap → InodeMap
inodes_with [] inodes n = inodes n
inodes_with (c ∷ changes) inodes n = if n == c.number then c.inode else inodes_with changes inodes n

abbrev pub NumbersAscend : List InodeChange → Type 0
NumbersAscend changes = AllPairs (λ a b. a.number < b.number) changes

abbrev pub NumbersAreInRange : List InodeChange → Type 0
NumbersAreInRange changes = All (λ change. change.number < inode_limit) changes

-- Changes turn a file of inodes into another: its blocks are changed as a file's are, the new root is the old
-- map with the changes, and each of its blocks is the one of its inodes.
pub record PutsInodes (content : Content) (root new : Root) (changes : List InodeChange)
    (before after : Changes) : Type 0 where
  pub blocks : List BlockChange
  pub puts : PutsAll content inode_file_number root new blocks before after
  pub inodes : (n : ℕ) →
      inode_at (pages_after content after) new n ≡ inodes_with changes (inode_at (pages_of content) root) n
  pub file : IsInodeFile (pages_after content after) new

-- ---- on the way

-- changes of blocks that changes of inodes are: each block becomes the one of the changed inodes
pub record AreBlockChanges (old : Blocks) (inodes : InodeMap) (changes : List InodeChange)
    (blocks : List BlockChange) : Type 0 where
  pub ascending : IndexesAscend blocks
  pub in_range : IndexesAreInRange blocks
  pub become : (i : ℕ) → blocks_with blocks old i ≡ block_for (in_block (inodes_with changes inodes) i)
  pub fits : All (λ c. EntryHasSpelling (entry_for c.inode)) changes

-- the same of the first changes, where none of the others is in a block that they touch
pub record AreFirstBlockChanges (old : Blocks) (inodes : InodeMap) (changes : List InodeChange) (count : ℕ)
    (blocks : List BlockChange) : Type 0 where
  pub within : count ≤ length changes
  pub blocks_are : AreBlockChanges old inodes (take count changes) blocks
  pub lower : (next : InodeChange) → count < length changes →
      All (λ b. b.index < (slice_index_or changes count next).number / 8) blocks
  pub apart : (next : InodeChange) → count < length changes →
      All (λ c. c.number / 8 < (slice_index_or changes count next).number / 8) (take count changes)

-- What became of inodes since the latest checkpoint, as lists, and what that makes of what the checkpoint
-- holds.
use Rattle.std.specs.Prelude.{ℕ, ◌+◌, ◌≤◌, ◌<◌, nat_lt, cond, List, [], ◌∷◌, length, Option, None, Some}
use Rattle.std.specs.Option.{option_or}
use Rattle.std.specs.Ordering.{nat_cmp}
use Rattle.std.specs.FinMap.{find}
use Rattle.nl_types.specs.Plain.Limits.{file_block_limit, path_limit}
use Rattle.nl_types.specs.Blocks.Roots.{Blocks}
use Rattle.nl_dirs.specs.declared.record.Record.{Record}
use Rattle.nl_dirs.specs.Records.{AllHaveSpelling, NamesAscend}
use Rattle.nl_tree.specs.Held.{Held, Holding, IsInodeNumber, Listed, Stored, held_block}

-- what became of an inode: it is gone; a file of a size, of whose blocks in the checkpoint those below a cut
-- are left, with new pages; or a directory of these records
pub data Became : Type 0 where
  Removed : Became
  BecameFile : ℕ → ℕ → List (ℕ × List ℕ) → Became
  BecameDirectory : List Record → Became

-- the current tree: what became of inodes, by number; free numbers that are to be given first; from which
-- number on no inode was made; and how many paths there are beside the root
pub record Current : Type 0 where
  pub became : List (ℕ × Became)
  pub freed : List ℕ
  pub mark : ℕ
  pub names : ℕ

-- ---- over what the checkpoint holds

-- new pages, and below the cut what was there
abbrev pub blocks_over : ℕ → List (ℕ × List ℕ) → Blocks → Blocks
blocks_over cut pages blocks b = option_or (find nat_cmp b pages) (cond (nat_lt b cut) (blocks b) None)

-- what an inode holds then
abbrev pub over_became : Became → Option Held → Option Held
over_became Removed base = None
over_became (BecameFile size cut pages) base = Some (Stored size (blocks_over cut pages (held_block base)))
over_became (BecameDirectory records) base = Some (Listed records)

-- the same, where nothing may have become of it
abbrev pub over_if_became : Option Became → Option Held → Option Held
over_if_became None base = base
over_if_became (Some became) base = over_became became base

-- what the inodes of the current tree hold
abbrev pub holding_over : List (ℕ × Became) → Holding → Holding
holding_over became base i = over_if_became (find nat_cmp i became) (base i)

-- ---- what may become of inodes

-- keys rise from one bound, and stay below another
abbrev pub Rises : {X : Type 0} → (X → ℕ) → ℕ → ℕ → List X → Type 0
Rises key low high [] = Unit {0}
Rises key low high (x ∷ xs) = (low ≤ key x) × (key x < high) × Rises key (key x + 1) high xs

-- a file has 65,536 blocks at most, and a directory no more names than a volume has
abbrev pub MayBecome : Became → Type 0
MayBecome Removed = Unit {0}
MayBecome (BecameFile size cut pages) = Rises (λ (e : ℕ × List ℕ). e.0) 0 file_block_limit pages
MayBecome (BecameDirectory records) =
    AllHaveSpelling records × NamesAscend records × (length records ≤ path_limit)

-- each inode is one of a tree, and may become that
abbrev pub EachMayBecome : List (ℕ × Became) → Type 0
EachMayBecome [] = Unit {0}
EachMayBecome (e ∷ es) = IsInodeNumber e.0 × MayBecome e.1 × EachMayBecome es

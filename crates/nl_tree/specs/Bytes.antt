-- Bytes of a file that are written or cut, in words of its blocks.
use Rattle.std.specs.Prelude.{◌≡◌, ℕ, zero, suc, ◌/◌, ◌%◌, cond, [], ◌∷◌, Option, Some, None, MatchOption, ◌+◌, ◌-◌, ◌*◌, ◌<◌, ◌&&◌, ◌||◌, max, nat_le, nat_lt, if◌then◌else◌, Bool, List, length, is_some, slice_index}
use Rattle.std.specs.List.{slice_get}
use Rattle.nl_types.specs.Blocks.Roots.{Blocks}
use Rattle.nl_tree.specs.Contents.{byte_in}
use Rattle.nl_tree.specs.Held.{Holding, IsHolding, Stored, byte_stored, IsFileHeld}
use Rattle.nl_tree.specs.Steps.{with_held}

abbrev pub is_inside_bytes : ℕ → ℕ → ℕ → Bool
is_inside_bytes first end k = nat_le first k && nat_lt k end

-- the byte at k, once bytes are written at an offset
abbrev pub byte_written : List ℕ → ℕ → ℕ → ℕ → ℕ
byte_written bytes offset k old =
    if is_inside_bytes offset (offset + length bytes) k then slice_index bytes (k - offset) else old

-- the byte at k, once those of a page are copied over others; where there is no page, they stay
abbrev pub byte_over : Option (List ℕ) → ℕ → ℕ → ℕ
byte_over None k old = old
byte_over (Some page) k old = slice_index page k

-- bytes from an offset on, once those of pages are copied over them
abbrev pub AreBytesOver : Blocks → ℕ → List ℕ → List ℕ → Type 0
AreBytesOver pages offset old new = (k : ℕ) → k < length new
    → slice_index new k ≡ byte_over (pages ((offset + k) / 1024)) ((offset + k) % 1024) (slice_index old k)

-- whether one of so many bytes from an offset on lies in the block
abbrev pub is_touched : ℕ → ℕ → ℕ → Bool
is_touched offset count b = nat_lt offset (1024 * b + 1024) && nat_lt (1024 * b) (offset + count)

-- bytes are written at an offset: the blocks that they lie in are stored, and all others as they were
pub record Overwrites (blocks new : Blocks) (offset : ℕ) (bytes : List ℕ) : Type 0 where
  pub stored : (b : ℕ) → is_some (new b) ≡ (is_touched offset (length bytes) b || is_some (blocks b))
  pub bytes_at : (k : ℕ) → byte_stored new k ≡ byte_written bytes offset k (byte_stored blocks k)

-- a file is cut or made longer: below its new size it is as it was, and behind it nothing is left
pub record Resizes (blocks new : Blocks) (size : ℕ) : Type 0 where
  pub stored : (b : ℕ) → is_some (new b) ≡ (nat_lt (1024 * b) size && is_some (blocks b))
  pub bytes_at : (k : ℕ) → byte_stored new k ≡ (if nat_lt k size then byte_stored blocks k else 0)

-- ---- pages

-- behind the last block that so many bytes from an offset on lie in
abbrev pub end_of_blocks : ℕ → ℕ → ℕ
end_of_blocks offset zero = offset / 1024
end_of_blocks offset (suc n) = (offset + n) / 1024 + 1

-- the page of the block that begins at `start`, once bytes are written at an offset
pub record IsPageWritten (old : Option (List ℕ)) (start offset : ℕ) (bytes page : List ℕ) : Type 0 where
  pub whole : length page ≡ 1024
  pub bytes_at : (k : ℕ) → k < 1024
      → slice_index page k ≡ byte_written bytes offset (start + k) (byte_in old k)

-- the pages of the blocks from one on
abbrev pub ArePagesWritten : Blocks → ℕ → ℕ → List ℕ → List (List ℕ) → Type 0
ArePagesWritten blocks first offset bytes pages =
    (k : ℕ) (page : List ℕ) → slice_get pages k ≡ Some page
    → IsPageWritten (blocks (first + k)) (1024 * (first + k)) offset bytes page

-- a page with zeros from a place on
pub record IsPageCut (old : List ℕ) (within : ℕ) (page : List ℕ) : Type 0 where
  pub whole : length page ≡ 1024
  pub bytes_at : (k : ℕ) → k < 1024 → slice_index page k ≡ (if nat_lt k within then slice_index old k else 0)

-- the page of the block that a size ends in, cut there, where the block is stored and goes on behind the size
abbrev pub ArePagesCut : Blocks → ℕ → List (List ℕ) → Type 0
ArePagesCut blocks size pages =
    MatchOption (cond (nat_lt 0 (size % 1024)) (blocks (size / 1024)) None) (pages ≡ [])
    (λ old. (page : List ℕ) × (pages ≡ page ∷ []) × IsPageCut old (size % 1024) page)

-- ---- files

-- inodes hold what they may, and one of them is a file of this size with these blocks
pub record IsFileIn (holding : Holding) (inode size : ℕ) (blocks : Blocks) : Type 0 where
  pub sound : IsHolding holding
  pub here : holding inode ≡ Some (Stored size blocks)

-- a file comes to have another size and other blocks, and no other inode changes
pub record IsFileChanged (old new : Holding) (inode size : ℕ) (blocks : Blocks) : Type 0 where
  pub held : IsFileHeld size blocks
  pub each : (i : ℕ) → new i ≡ with_held inode (Some (Stored size blocks)) old i

-- bytes are written into a file of a size and of blocks
pub record IsFileWritten (old new : Holding) (inode size : ℕ) (blocks : Blocks) (offset : ℕ) (bytes : List ℕ)
    : Type 0 where
  pub now : Blocks
  pub overwrites : Overwrites blocks now offset bytes
  pub changed : IsFileChanged old new inode (max size (offset + length bytes)) now

-- a file of blocks gets another size
pub record IsFileResized (old new : Holding) (inode : ℕ) (blocks : Blocks) (size : ℕ) : Type 0 where
  pub now : Blocks
  pub resizes : Resizes blocks now size
  pub changed : IsFileChanged old new inode size now

-- The blocks of an image, in the order of their numbers.
use Rattle.std.specs.Prelude.{◌≡◌, ℕ, ◌*◌, ◌/◌, nat_lt, if◌then◌else◌, List, length, take, drop, flat_map, replicate, slice_get, None, Some}
use Rattle.nl_types.specs.Blocks.Segments.{Segments, IsUsed, total_blocks}
use Rattle.nl_device.specs.Pages.{DevicePages}
use Rattle.nl_vstore.specs.Content.{SpaceContent}

abbrev pub zero_page : List ℕ
zero_page = replicate 1024 0

-- the block of a number, where there is such a block
abbrev pub pages_of_bytes : List ℕ → DevicePages
pages_of_bytes bytes b =
    if nat_lt b (length bytes / 1024) then Some (take 1024 (drop (1024 * b) bytes)) else None

-- a block that is not used is zero
abbrev pub IsRestAt : Segments → DevicePages → ℕ → Type 0
IsRestAt s pages b = (page : List ℕ) → (IsUsed s b → ⊥) → pages b ≡ Some page → page ≡ zero_page

-- all blocks outside used parts are
abbrev pub IsRestZero : Segments → DevicePages → Type 0
IsRestZero s pages = (b : ℕ) → IsRestAt s pages b

-- ---- what is written

-- the pages, one after the other
abbrev pub page_bytes : List (List ℕ) → List ℕ
page_bytes pages = flat_map (λ (page : List ℕ). page) pages

abbrev pub IsWhole : List ℕ → Type 0
IsWhole page = length page ≡ 1024

-- the page of a block: what the space stores where it is used, else zeros
pub record IsPageOf (c : SpaceContent) (b : ℕ) (page : List ℕ) : Type 0 where
  pub whole : IsWhole page
  pub used : IsUsed c.segments b → c.stored b ≡ Some page
  pub unused : (IsUsed c.segments b → ⊥) → page ≡ zero_page

-- the bytes are the pages of all blocks, in order
pub record AreBlocksOf (c : SpaceContent) (bytes : List ℕ) : Type 0 where
  pub pages : List (List ℕ)
  pub spelled : bytes ≡ page_bytes pages
  pub count : length pages ≡ total_blocks c.segments
  pub each : (b : ℕ) (page : List ℕ) → slice_get pages b ≡ Some page → IsPageOf c b page

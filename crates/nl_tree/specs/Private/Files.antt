-- Files of the overlay.
use Rattle.std.specs.Prelude.{◌≡◌, ℕ, ◌≤◌, ◌<◌, Option, Some, None}
use Rattle.std.specs.Ordering.{nat_cmp}
use Rattle.std.specs.BTreeMap as map
use Rattle.nl_types.specs.Plain.Limits.{file_block_limit}
use Rattle.nl_types.specs.Blocks.Roots.{Blocks}
use Rattle.nl_tree.specs.declared.overlay.FileBlocks.{FileBlocks}
use Rattle.nl_tree.specs.declared.overlay.Changed.{Changed}
use Rattle.nl_tree.specs.declared.overlay.Changed.TheVariants.{File}
use Rattle.nl_tree.specs.declared.overlay.Slot.{Slot}
use Rattle.nl_tree.specs.declared.overlay.Overlay.{Overlay}
use Rattle.nl_tree.specs.Held.{Held, Holding, Stored}
use Rattle.nl_tree.specs.Overlays.{block_over}
use Rattle.nl_tree.specs.Private.Pages.{HasPage}

-- the inode is a file of this size with these blocks, none of them past the most that a file has
abbrev pub IsFileOf : Holding → ℕ → ℕ → Blocks → Type 0
IsFileOf holding i size blocks =
    (holding i ≡ Some (Stored size blocks)) × ((b : ℕ) → file_block_limit ≤ b → blocks b ≡ None)

-- places are kept for the blocks from one up to another
abbrev pub HasPagesFrom : FileBlocks → ℕ → ℕ → Type 0
HasPagesFrom file first end = (b : ℕ) → first ≤ b → b < end → HasPage file b

-- a file that shows these blocks over what the checkpoint has
abbrev pub ShowsFile : Changed → Option Held → ℕ → Blocks → Type 0
ShowsFile what base size blocks =
    (file : FileBlocks) × (what ≡ File file) × (file.size ≡ size)
    × ((b : ℕ) → block_over file base b ≡ blocks b)

-- with places for the blocks from one up to another
abbrev pub ShowsFileWith : Changed → Option Held → ℕ → Blocks → ℕ → ℕ → Type 0
ShowsFileWith what base size blocks first end =
    (file : FileBlocks) × (what ≡ File file) × (file.size ≡ size)
    × ((b : ℕ) → block_over file base b ≡ blocks b)
    × HasPagesFrom file first end

-- such a file has a slot, live or not
abbrev pub HasFile : Overlay → Holding → ℕ → ℕ → Blocks → Type 0
HasFile o base i size blocks =
    (slot : Slot) × (map.get nat_cmp o.changed i ≡ Some slot) × ShowsFile slot.what (base i) size blocks

-- with places for the blocks from one up to another
abbrev pub HasFileWith : Overlay → Holding → ℕ → ℕ → Blocks → ℕ → ℕ → Type 0
HasFileWith o base i size blocks first end =
    (slot : Slot) × (map.get nat_cmp o.changed i ≡ Some slot)
    × ShowsFileWith slot.what (base i) size blocks first end

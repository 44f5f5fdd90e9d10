-- What the overlay shows over what the latest checkpoint holds.
use Rattle.std.specs.Prelude.{◌≡◌, ℕ, Bool, false, nat_lt, cond, List, IsSome, Option, Some, None}
use Rattle.std.specs.Option.{option_flatten, option_or}
use Rattle.std.specs.Ordering.{nat_cmp}
use Rattle.std.specs.BTreeMap as map
use Rattle.nl_types.specs.Plain.Paths.{Name}
use Rattle.nl_types.specs.Blocks.Roots.{Blocks}
use Rattle.nl_dirs.specs.declared.record.Record.{Record}
use Rattle.nl_dirs.specs.Records.{NamesAscend}
use Rattle.nl_tree.specs.declared.overlay.FileBlocks.{FileBlocks}
use Rattle.nl_tree.specs.declared.overlay.Changed.{Changed}
use Rattle.nl_tree.specs.declared.overlay.Changed.TheVariants.{Gone, File, Dir}
use Rattle.nl_tree.specs.declared.overlay.Slot.{Slot}
use Rattle.nl_tree.specs.declared.overlay.Overlay.{Overlay}
use Rattle.nl_tree.specs.declared.listing.Listing.{Listing}
use Rattle.nl_tree.specs.Held.{Held, Holding, IsInodeNumber, Stored, Listed, held_block}
use Rattle.nl_tree.specs.Became.{Became, BecameDirectory, BecameFile, Current, Removed}
use Rattle.nl_tree.specs.Records.{HasNamePlace, records_of}
use Rattle.nl_tree.specs.Places.{all_places}
use Rattle.nl_tree.specs.Weights.{IsNoLess}
use Rattle.nl_tree.specs.Shown.{if_true, itself, key_alone, pair, shown_entries}

-- ---- as lists

-- the new pages of a file, by index
abbrev pub new_pages : FileBlocks → List (ℕ × List ℕ)
new_pages file = shown_entries pair itself file.pages.entries

-- what became of one inode
abbrev pub became_of : Changed → Became
became_of Gone = Removed
became_of (File file) = BecameFile file.size file.cut (new_pages file)
became_of (Dir listing) = BecameDirectory (records_of listing)

-- a place that isn't live shows nothing
abbrev pub slot_shows : Slot → Option Became
slot_shows slot = cond slot.live (Some (became_of slot.what)) None

-- what became of inodes, by number
abbrev pub became_in : Overlay → List (ℕ × Became)
became_in o = shown_entries pair slot_shows o.changed.entries

-- the overlay as a value
abbrev pub current_of : Overlay → Current
current_of o = record {
  became = became_in o;
  freed = shown_entries key_alone if_true o.freed.entries;
  mark = o.mark;
  names = o.names;
}

-- ---- as functions

-- the new page at an index
abbrev pub new_page_at : FileBlocks → Blocks
new_page_at file b = option_flatten (map.get nat_cmp file.pages b)

-- the new block, else the checkpoint's where it shows
abbrev pub block_over : FileBlocks → Option Held → Blocks
block_over file base b = option_or (new_page_at file b) (cond (nat_lt b file.cut) (held_block base b) None)

-- what an inode holds then
abbrev pub over_changed : Changed → Option Held → Option Held
over_changed Gone base = None
over_changed (File file) base = Some (Stored file.size (block_over file base))
over_changed (Dir listing) base = Some (Listed (records_of listing))

-- a place that isn't live leaves what the checkpoint holds
abbrev pub over_slot : Slot → Option Held → Option Held
over_slot slot base = cond slot.live (over_changed slot.what base) base

-- so does no place
abbrev pub over_if_slot : Option Slot → Option Held → Option Held
over_if_slot None base = base
over_if_slot (Some slot) base = over_slot slot base

-- what the inodes of the current tree hold
abbrev pub holding_now : Overlay → Holding → Holding
holding_now o base i = over_if_slot (map.get nat_cmp o.changed i) (base i)

-- the two show the same over any checkpoint
abbrev pub ShowTheSame : Overlay → Overlay → Type 0
ShowTheSame o o' = (base : Holding) (i : ℕ) → holding_now o' base i ≡ holding_now o base i

-- all but what became of inodes
pub record KeepsRest (o o' : Overlay) : Type 0 where
  pub freed : o'.freed ≡ o.freed
  pub mark : o'.mark ≡ o.mark
  pub names : o'.names ≡ o.names

-- the inode is a directory with these records, which ascend
abbrev pub IsDirectoryOf : Holding → ℕ → List Record → Type 0
IsDirectoryOf holding dir records = (holding dir ≡ Some (Listed records)) × NamesAscend records

-- ---- places

-- whether a place is live
abbrev pub is_shown : Option Slot → Bool
is_shown None = false
is_shown (Some slot) = slot.live

-- whether the overlay shows the inode, and not the checkpoint
abbrev pub shows_inode : Overlay → ℕ → Bool
shows_inode o i = is_shown (map.get nat_cmp o.changed i)

-- a place is kept for the inode
abbrev pub HasSlot : Overlay → ℕ → Type 0
HasSlot o i = IsSome (map.get nat_cmp o.changed i)

-- a directory with these records, live or not
abbrev pub IsListed : Changed → List Record → Type 0
IsListed what records = (listing : Listing) × (what ≡ Dir listing) × (records_of listing ≡ records)

-- with a place for the name
abbrev pub IsListedWith : Changed → List Record → Name → Type 0
IsListedWith what records name =
    (listing : Listing) × (what ≡ Dir listing) × (records_of listing ≡ records) × HasNamePlace listing name

-- the inode has a place with these records
abbrev pub HasListing : Overlay → ℕ → List Record → Type 0
HasListing o i records =
    (slot : Slot) × (map.get nat_cmp o.changed i ≡ Some slot) × IsListed slot.what records

-- with a place for the name
abbrev pub HasName : Overlay → ℕ → List Record → Name → Type 0
HasName o i records name =
    (slot : Slot) × (map.get nat_cmp o.changed i ≡ Some slot) × IsListedWith slot.what records name

-- ---- order

-- the new pages of a file ascend
abbrev pub HasOrderedPages : Changed → Type 0
HasOrderedPages what = (file : FileBlocks) → what ≡ File file → map.IsOrdered nat_cmp file.pages

-- The inodes ascend, the numbers that are to be given first, and the new pages of each file. Each inode with
-- a place is one of a tree. What is counted is no less than all places.
pub record IsOrderly (o : Overlay) : Type 0 where
  pub keys : map.IsOrdered nat_cmp o.changed
  pub freed_numbers : map.IsOrdered nat_cmp o.freed
  pub files : (i : ℕ) (slot : Slot) (file : FileBlocks) → map.get nat_cmp o.changed i ≡ Some slot
      → slot.what ≡ File file → map.IsOrdered nat_cmp file.pages
  pub inodes : (i : ℕ) → HasSlot o i → IsInodeNumber i
  pub counted : IsNoLess (all_places o.changed.entries) o.weight

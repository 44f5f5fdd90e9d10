-- What is written and what ends where a file's root becomes another.
use Rattle.std.specs.Prelude.{◌≡◌, ◌≢◌, ◌⊎◌, ℕ, zero, suc, ◌/◌, ◌^◌, ◌<◌, ◌≤◌, ◌==◌, if◌then◌else◌, List, [], ◌∷◌, map, IsSome, Option, None, Some}
use Rattle.std.specs.List.{All, AllPairs, Contains}
use Rattle.nl_types.specs.Plain.Limits.{index_limit}
use Rattle.nl_types.specs.Blocks.Entries.{Birth, number_of}
use Rattle.nl_types.specs.Blocks.Roots.{Pages, Root, NoBlocks, OfChain, OfTree, height_of, kind_of, place_at, page_at}

-- ---- places

-- the number at each level and offset
abbrev pub places : Pages → Root → (ℕ × ℕ) → Option ℕ
places pages root at = place_at pages root at.0 at.1

-- some place has the number
abbrev pub Reaches : {A : Type 0} → (A → Option ℕ) → ℕ → Type 0
Reaches {A} at v = (a : A) × (at a ≡ Some v)

-- ---- what is written

-- why a node is written
pub data NodeWritten (old_pages new_pages : Pages) (old new : Root) (level offset : ℕ) : Type 0 where
  was_absent : place_at old_pages old level offset ≡ None
      → NodeWritten old_pages new_pages old new level offset
  new_kind : kind_of old ≢ kind_of new → NodeWritten old_pages new_pages old new level offset
  of_chain : kind_of new ≡ OfChain →
      (i : ℕ) → page_at old_pages old i ≢ page_at new_pages new i →
      NodeWritten old_pages new_pages old new level offset
  of_tree : kind_of new ≡ OfTree →
      (i : ℕ) → i / 128 ^ level ≡ offset → page_at old_pages old i ≢ page_at new_pages new i →
      NodeWritten old_pages new_pages old new level offset

-- Data is written where it was absent or had other bytes. A node is written where it was absent, where the
-- kind of the root changed, and where data changed: any of a chain, and below the node in a tree.
abbrev pub IsWrittenPlace : Pages → Pages → Root → Root → ℕ → ℕ → Type 0
IsWrittenPlace old_pages new_pages old new zero offset =
    IsSome (place_at new_pages new 0 offset) × (page_at old_pages old offset ≢ page_at new_pages new offset)
IsWrittenPlace old_pages new_pages old new (suc level) offset =
    IsSome (place_at new_pages new (suc level) offset)
    × NodeWritten old_pages new_pages old new (suc level) offset

-- ---- births and ends

-- the pages where births are written
unfoldable pub with_births : List Birth → Pages → Pages
with_births [] pages n = pages n
with_births (b ∷ births) pages n = if n == b.number then Some b.page else with_births births pages n

abbrev pub born : List Birth → List ℕ
born births = map number_of births

abbrev pub IsAt : Birth → ℕ → ℕ → Type 0
IsAt b level offset = (b.place.level ≡ level) × (b.place.offset ≡ offset)

-- one of the births is of the block there
abbrev pub HasBirth : List Birth → ℕ → ℕ → Type 0
HasBirth births level offset = (b : Birth) × Contains births b × IsAt b level offset

abbrev pub PrecedesInPayload : Birth → Birth → Type 0
PrecedesInPayload a b =
    (a.place.level < b.place.level) ⊎ ((a.place.level ≡ b.place.level) × (a.place.offset < b.place.offset))

-- data ascending, then nodes, lowest level first, ascending in each
abbrev pub InPayloadOrder : List Birth → Type 0
InPayloadOrder births = AllPairs PrecedesInPayload births

-- Births and ends turn a file into another: the births stand at the places that are written, in the order in
-- which they are written, and what ends is each number that has no place any more, once. What is exact is
-- said by two cases.
pub record RewritesFile (old_pages new_pages : Pages) (inode : ℕ) (old new : Root)
    (births : List Birth) (ends : List ℕ) : Type 0 where
  pub in_order : InPayloadOrder births
  pub of_inode : All (λ (b : Birth). b.place.inode ≡ inode) births
  pub born_placed : (b : Birth) → Contains births b →
      place_at new_pages new b.place.level b.place.offset ≡ Some b.number
  pub born_written : (b : Birth) → Contains births b →
      IsWrittenPlace old_pages new_pages old new b.place.level b.place.offset
  pub written_born : (level offset : ℕ) → IsWrittenPlace old_pages new_pages old new level offset →
      HasBirth births level offset
  pub born_or_kept : (level offset v : ℕ) → place_at new_pages new level offset ≡ Some v →
      HasBirth births level offset ⊎ (place_at old_pages old level offset ≡ Some v)
  pub ended_or_kept : (level offset v : ℕ) → place_at old_pages old level offset ≡ Some v →
      Contains ends v ⊎ Reaches (places new_pages new) v
  pub ended_once : AllPairs (λ a b. a ≢ b) ends
  pub ended_placed : (v : ℕ) → Contains ends v → Reaches (places old_pages old) v
  pub ended_lost : (v : ℕ) → Contains ends v → Reaches (places new_pages new) v → ⊥

-- ---- what is true of every root in use

-- data stands at an index
abbrev pub HasData : Pages → Root → ℕ → Type 0
HasData pages root i = IsSome (place_at pages root 0 i)

-- a tree has a level of nodes, each node stands above data, and no lower tree has a place for all data
pub record HasTreeShape (pages : Pages) (root : Root) : Type 0 where
  pub low : 1 ≤ height_of root
  pub above_data : (level offset v : ℕ) → place_at pages root (suc level) offset ≡ Some v →
      (i : ℕ) × (i / 128 ^ suc level ≡ offset) × HasData pages root i
  pub least : (i : ℕ) × HasData pages root i × ((h : ℕ) → 1 ≤ h → i < 128 ^ h → height_of root ≤ h)

-- No index from 262,144 on, which is enough for a directory of all names; each number has a page, and one
-- place; and a root that isn't empty has its first or topmost node. No node of a chain is past its last
-- block; a tree has its shape.
pub record IsSound (pages : Pages) (root : Root) : Type 0 where
  pub in_range : (level offset v : ℕ) → place_at pages root level offset ≡ Some v → offset < index_limit
  pub stored : (level offset v : ℕ) → place_at pages root level offset ≡ Some v → IsSome (pages v)
  pub once : (p q : ℕ × ℕ) (v : ℕ) → places pages root p ≡ Some v →
      places pages root q ≡ Some v → p ≡ q
  pub ends_full : kind_of root ≡ OfChain → (p v : ℕ) → place_at pages root 1 p ≡ Some v →
      (i : ℕ) × (p ≤ i / 127) × HasData pages root i
  pub has_top : kind_of root ≢ NoBlocks → IsSome (place_at pages root (height_of root) 0)
  pub tree_shape : kind_of root ≡ OfTree → HasTreeShape pages root

-- the pages of one map are those of another too
abbrev pub Includes : Pages → Pages → Type 0
Includes pages more = (n : ℕ) (x : List ℕ) → pages n ≡ Some x → more n ≡ Some x

-- a root stands for the same file over other pages
pub record KeepsFile (pages more : Pages) (root : Root) : Type 0 where
  pub places : (level offset : ℕ) → place_at more root level offset ≡ place_at pages root level offset
  pub blocks : (i : ℕ) → page_at more root i ≡ page_at pages root i
  pub sound : IsSound more root

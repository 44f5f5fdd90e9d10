-- A root that is written anew: from the lowest level up, and then as low as can be.
use Rattle.std.specs.Prelude.{◌≡◌, ◌≢◌, ◌⊎◌, ◌<◌, ◌≤◌, ◌+◌, ◌*◌, ◌-◌, ◌/◌, ◌%◌, ◌^◌, ◌++◌, ℕ, suc, List, [], ◌∷◌, length, take, IsSome, None, Some, true}
use Rattle.std.specs.List.{All, AllPairs, Contains}
use Rattle.nl_types.specs.Blocks.Entries.{Birth, Content}
use Rattle.nl_types.specs.Blocks.Roots.{Pages, Root, Tree, NoBlocks, OfChain, OfTree, child, height_of, kind_of, pages_of, place_at}
use Rattle.nl_types.specs.Blocks.RootChanges.{HasTreeShape, InPayloadOrder, IsAt, with_births}
use Rattle.nl_vstore.specs.Batches.{Changes, CanBeTaken, TakeLowestFree, is_live, last_number}
use Rattle.nl_vstore.specs.Stores.{Store, content_in}
use Rattle.nl_blocktree.specs.Private.Edits.{ComesBefore, IsEdited, AreToldByEdits, KnowAbove, edited}
use Rattle.nl_blocktree.specs.Numbering.{CanTake, IsUnused}
use Rattle.nl_blocktree.specs.Private.TreeLevels.{HasKept, HasFullNodes, Levels, kept_in, kept_levels, tree_height}
use Rattle.nl_blocktree.specs.Private.Writing.{PlaceBecomes}
use Rattle.nl_blocktree.specs.declared.tree.Edit.{Edit}

-- ---- what may be written

-- The nodes above some edits of a level may be written: the store can take the batch so far, and of the old
-- root all is in use. The edits ascend, one at least, and each knows the old nodes above it.
pub record CanWriteAbove (store : Store) (root : Root) (batch : Changes) (level : ℕ) (edits : List Edit)
    : Type 0 where
  pub fits : CanTake store batch
  pub kept : HasKept (content_in store) root
  pub some : 0 < length edits
  pub ascending : AllPairs ComesBefore edits
  pub above : KnowAbove (kept_in store root) level edits

-- They lead up to one node at a height that the old tree doesn't pass, and tell all that stood at their level
-- without a node above it.
pub record CanClimb (store : Store) (root : Root) (below height : ℕ) (edits : List Edit) : Type 0 where
  pub low : below ≤ height
  pub one : 1 ≤ height
  pub high : height ≤ 3
  pub whole : tree_height root ≤ height
  pub narrow : All (λ (e : Edit). e.offset < 128 ^ (height - below)) edits
  pub told : AreToldByEdits (pages_of (content_in store)) root below height edits

-- ---- level by level

-- a tree is written anew up to a level: the levels that it has then, and what the edits of that level are for
pub record Climbs (content : Content) (inode : ℕ) (old : Levels) (asked : List Edit) (level : ℕ)
    (edits : List Edit)
    (births births' : List Birth) (ends ends' : List ℕ) : Type 0 where
  pub levels : Levels
  pub added : List Birth
  pub gone : List ℕ
  pub births_are : births' ≡ births ++ added
  pub ends_are : ends' ≡ ends ++ gone
  pub lowest_free : TakeLowestFree content births added
  pub in_order : InPayloadOrder added
  pub tags : (b : Birth) → Contains added b → (b.place.inode ≡ inode) × (b.place.level ≤ level)
  pub placed : (b : Birth) → Contains added b → levels b.place.level b.place.offset ≡ Some b.number
  pub data_is : (i : ℕ) → levels 0 i ≡ edited asked (old 0) i
  pub data_asked : (b : Birth) → Contains added b → b.place.level ≡ 0 → IsEdited asked b.place.offset
  pub now : (offset : ℕ) → levels level offset ≡ edited edits (old level) offset
  pub children : (l offset : ℕ) → l < level →
      levels l offset
      ≡ child (with_births births' (pages_of content)) (offset % 128) (levels (suc l) (offset / 128))
  pub full : (l offset v : ℕ) → l < level → levels (suc l) offset ≡ Some v →
      (s : ℕ) × (s < 128) × IsSome (levels l (128 * offset + s))
  pub becomes : (l offset : ℕ) → l ≤ level → PlaceBecomes (old l offset) (levels l offset) l offset added gone
  pub lost : (v : ℕ) → Contains gone v →
      (at : ℕ × ℕ) × (at.0 ≤ level) × (old at.0 at.1 ≡ Some v) × (levels at.0 at.1 ≢ Some v)
  pub gone_once : AllPairs (λ a b. a ≢ b) gone
  pub covered : (i : ℕ) → IsEdited asked i → IsEdited edits (i / 128 ^ level)
  pub why : (e : Edit) → Contains edits e → ((i : ℕ) × IsEdited asked i × (i / 128 ^ level ≡ e.offset))
      ⊎ ((offset : ℕ) → old (suc level) offset ≡ None)
  pub written : (b : Birth) → Contains added b → (1 ≤ b.place.level)
      → (old b.place.level b.place.offset ≡ None)
      ⊎ ((i : ℕ) × IsEdited asked i × (i / 128 ^ b.place.level ≡ b.place.offset))
  pub rewritten : (l i : ℕ) → 1 ≤ l → l ≤ level → IsEdited asked i →
      ((b : Birth) × Contains added b × IsAt b l (i / 128 ^ l)) ⊎ (levels l (i / 128 ^ l) ≡ None)

-- A root whose blocks are these levels was written anew: what became of each place, by which births and ends.
-- `asked` are the changed data, and `prior` the nodes that could be kept: those of `old`, or none where its
-- kind is given up.
pub record IsRenewed (content : Content) (inode : ℕ) (prior old new : Levels) (asked : List Edit)
    (births births' : List Birth) (ends ends' : List ℕ) : Type 0 where
  pub added : List Birth
  pub gone : List ℕ
  pub births_are : births' ≡ births ++ added
  pub ends_are : ends' ≡ ends ++ gone
  pub lowest_free : TakeLowestFree content births added
  pub in_order : InPayloadOrder added
  pub of_inode : (b : Birth) → Contains added b → b.place.inode ≡ inode
  pub placed : (b : Birth) → Contains added b → new b.place.level b.place.offset ≡ Some b.number
  pub data_is : (i : ℕ) → new 0 i ≡ edited asked (old 0) i
  pub data_asked : (b : Birth) → Contains added b → b.place.level ≡ 0 → IsEdited asked b.place.offset
  pub becomes : (l offset : ℕ) → PlaceBecomes (old l offset) (new l offset) l offset added gone
  pub lost : (v : ℕ) → Contains gone v → (at : ℕ × ℕ) × (old at.0 at.1 ≡ Some v) × (new at.0 at.1 ≢ Some v)
  pub gone_once : AllPairs (λ a b. a ≢ b) gone
  pub written : (b : Birth) → Contains added b → (1 ≤ b.place.level)
      → (prior b.place.level b.place.offset ≡ None)
      ⊎ ((i : ℕ) × IsEdited asked i × (i / 128 ^ b.place.level ≡ b.place.offset))
  pub rewritten : (l i : ℕ) → 1 ≤ l → IsEdited asked i →
      ((b : Birth) × Contains added b × IsAt b l (i / 128 ^ l)) ⊎ (new l (i / 128 ^ l) ≡ None)

-- Whatever was written up to a level goes on to be a renewed tree: what was asked at first doesn't matter
-- here.
abbrev pub IsClimbed : Content → (inode : ℕ) → Root → (below : ℕ) → List Edit → (height top : ℕ) →
    (births births' : List Birth) → (ends ends' : List ℕ) → Type 0
IsClimbed content inode root below edits height top births births' ends ends' =
    (asked : List Edit) (first : List Birth) (zs : List ℕ) → IsUnused content first →
    Climbs content inode (kept_levels (pages_of content) root) asked below edits first births zs ends →
    IsRenewed content inode (kept_levels (pages_of content) root) (kept_levels (pages_of content) root)
    (place_at (with_births births' (pages_of content)) (Tree height top)) asked first births' zs ends'
    × HasFullNodes (with_births births' (pages_of content)) height top

-- ---- the top

-- what a new root of these kinds has to show
pub record IsNewTree (pages : Pages) (new : Root) : Type 0 where
  pub no_chain : kind_of new ≢ OfChain
  pub has_top : kind_of new ≢ NoBlocks → IsSome (place_at pages new (height_of new) 0)
  pub above : (level offset v : ℕ) → place_at pages new (suc level) offset ≡ Some v →
      (i : ℕ) × (i / 128 ^ suc level ≡ offset) × IsSome (place_at pages new 0 i)
  pub shape : kind_of new ≡ OfTree → HasTreeShape pages new

-- so many births are those of earlier files and of data, and stand first
pub record HasBegun (begun : ℕ) (first leaves births : List Birth) : Type 0 where
  pub count : begun ≡ length (first ++ leaves)
  pub stand_first : take begun births ≡ first ++ leaves
  pub of_data : (b : Birth) → Contains leaves b → b.place.level ≡ 0

-- A tree that was renewed goes on to be a root that is as low as can be: what was asked doesn't matter here.
abbrev pub IsLowered : (room : ℕ) → Content → (begun height top : ℕ) → Root → Changes → Changes → Type 0
IsLowered room content begun height top new before after =
    (inode : ℕ) (prior old : Levels) (asked : List Edit) (first leaves : List Birth) (zs : List ℕ) →
    HasBegun begun first leaves before.births
    → CanBeTaken room content (record { births = first; ends = zs }) →
    ((l offset v : ℕ) → old l offset ≡ Some v → IsSome (pages_of content v)) →
    ((l offset v : ℕ) → old l offset ≡ Some v → is_live (content v) ≡ true) →
    ((p q : ℕ × ℕ) (v : ℕ) → old p.0 p.1 ≡ Some v → old q.0 q.1 ≡ Some v → p ≡ q) →
    CanBeTaken room content before →
    IsRenewed content inode prior old
    (place_at (with_births before.births (pages_of content)) (Tree height top))
    asked first before.births zs before.ends →
    HasFullNodes (with_births before.births (pages_of content)) height top →
    IsRenewed content inode prior old (place_at (with_births after.births (pages_of content)) new)
    asked first after.births zs after.ends
    × IsNewTree (with_births after.births (pages_of content)) new × CanBeTaken room content after

-- a number is that of the last birth, and there are more births than so many
abbrev pub IsLastBirth : (begun number : ℕ) → List Birth → Type 0
IsLastBirth begun number births = (begun < length births) × (last_number births ≡ number)

-- the page of a top: that of the last birth if it has the number, and else the one that is in use
abbrev pub TopPage : Pages → List Birth → (begun top : ℕ) → List ℕ → Type 0
TopPage pages births begun top page =
    ((init : List Birth) × (b : Birth) × (births ≡ init ++ b ∷ []) × (begun < length births)
    × (b.number ≡ top)
    × (b.page ≡ page))
    ⊎ ((IsLastBirth begun top births → ⊥) × (pages top ≡ Some page))

-- the last birth was taken back if it has the number, and else the number ends
abbrev pub TopDropped : (begun top : ℕ) → Changes → Changes → Type 0
TopDropped begun top before after =
    ((begun < length before.births) × (last_number before.births ≡ top)
    × (after.births ≡ take (length before.births - 1) before.births) × (after.ends ≡ before.ends))
    ⊎ ((IsLastBirth begun top before.births → ⊥) × (after ≡ record before { ends = before.ends ++ top ∷ [] }))

-- ---- the whole

-- births are those of earlier files and of data
pub record AreOfData (first leaves births : List Birth) : Type 0 where
  pub are : births ≡ first ++ leaves
  pub of_data : (b : Birth) → Contains leaves b → b.place.level ≡ 0

-- Whatever data was changed, its edits go on to be a renewed root.
abbrev pub IsRootRenewed : (room : ℕ) → Content → (inode : ℕ) → Root → List Edit → Root → Changes → Changes
    → Type 0
IsRootRenewed room content inode root edits new before after =
    (asked : List Edit) (first leaves : List Birth) (zs : List ℕ) →
    AreOfData first leaves before.births → CanBeTaken room content (record { births = first; ends = zs }) →
    Climbs content inode
    (kept_levels (pages_of content) root) asked 0 edits first before.births zs before.ends →
    IsRenewed content inode (kept_levels (pages_of content) root) (kept_levels (pages_of content) root)
    (place_at (with_births after.births (pages_of content)) new) asked first after.births zs after.ends
    × IsNewTree (with_births after.births (pages_of content)) new × CanBeTaken room content after

-- and of a chain, whose nodes end all
abbrev pub IsChainRenewed : (room : ℕ) → Content → (inode : ℕ) → Root → List Edit → Root → Changes → Changes
    → Type 0
IsChainRenewed room content inode root asked new before after =
    (first leaves : List Birth) (zs : List ℕ) →
    AreOfData first leaves before.births → CanBeTaken room content (record { births = first; ends = zs }) →
    Climbs content inode
    (kept_levels (pages_of content) root) asked 0 asked first before.births zs before.ends →
    (mine : List ℕ)
    × IsRenewed content inode (kept_levels (pages_of content) root) (kept_levels (pages_of content) root)
    (place_at (with_births after.births (pages_of content)) new) asked first after.births zs mine
    × IsRenewed content inode (kept_levels (pages_of content) root) (place_at (pages_of content) root)
    (place_at (with_births after.births (pages_of content)) new) asked first after.births zs after.ends
    × IsNewTree (with_births after.births (pages_of content)) new × CanBeTaken room content after

-- The nodes above changed data are written: all of a tree where a chain was, and else what can't be kept.
abbrev pub IsFileRenewed : (room : ℕ) → Content → (inode : ℕ) → Root → List Edit → Root → Changes → Changes
    → Type 0
IsFileRenewed room content inode root edits new before after =
    ((kind_of root ≡ OfChain) × IsChainRenewed room content inode root edits new before after)
    ⊎ ((kind_of root ≢ OfChain) × IsRootRenewed room content inode root edits new before after)

-- What is written for edits: data, nodes, and a level of nodes.
use Rattle.std.specs.Prelude.{◌≡◌, ◌≢◌, ◌<◌, ◌+◌, ◌*◌, ◌/◌, ◌%◌, ◌++◌, ℕ, suc, List, [], ◌∷◌, slice_index, IsSome, Option, None, Some}
use Rattle.std.specs.List.{AllPairs, Contains}
use Rattle.std.specs.Option.{option_and_then}
use Rattle.nl_types.specs.Blocks.Entries.{Birth, Content}
use Rattle.nl_types.specs.Blocks.Roots.{Pages, Root, child, numbered, pages_of, slot}
use Rattle.nl_types.specs.Blocks.RootChanges.{InPayloadOrder, IsAt}
use Rattle.nl_vstore.specs.Batches.{IsLowestFree, TakeLowestFree}
use Rattle.nl_blocktree.specs.Changed.{blocks_with, indexes}
use Rattle.nl_blocktree.specs.Private.Edits.{ComesBefore, IsEdited, edited, top_edits}
use Rattle.nl_blocktree.specs.Private.TreeLevels.{kept_levels}
use Rattle.nl_blocktree.specs.declared.change.BlockChange.{BlockChange}
use Rattle.nl_blocktree.specs.declared.tree.Edit.{Edit}

-- what ends where a number is replaced
abbrev pub ended_of : Option ℕ → List ℕ
ended_of None = []
ended_of (Some v) = v ∷ []

-- a birth is of a place
pub record IsPlaced (inode level offset : ℕ) (b : Birth) : Type 0 where
  pub inode_is : b.place.inode ≡ inode
  pub level_is : b.place.level ≡ level
  pub offset_is : b.place.offset ≡ offset

-- what became of a place
pub data PlaceBecomes (old new : Option ℕ) (level offset : ℕ) (added : List Birth)
    (gone : List ℕ) : Type 0 where
  stays : new ≡ old → PlaceBecomes old new level offset added gone
  comes : (b : Birth) → Contains added b → IsAt b level offset → new ≡ Some b.number →
      ((v : ℕ) → old ≡ Some v → Contains gone v) → PlaceBecomes old new level offset added gone
  goes : new ≡ None → ((v : ℕ) → old ≡ Some v → Contains gone v)
      → PlaceBecomes old new level offset added gone

-- ---- data

-- One change of the data at an index, where a number may stand: what is to stand there then, 0 where the
-- block is to go, and none where the page is there already.
pub data PutsOne (content : Content) (inode i : ℕ) (page : Option (List ℕ)) (old number : Option ℕ)
    (births births' : List Birth) (ends ends' : List ℕ) : Type 0 where
  unchanged : option_and_then (pages_of content) old ≡ page → number ≡ None → births' ≡ births
      → ends' ≡ ends →
      PutsOne content inode i page old number births births' ends ends'
  written : (b : Birth) → page ≡ Some b.page → option_and_then (pages_of content) old ≢ page →
      IsPlaced inode 0 i b → IsLowestFree content births b.number → number ≡ Some b.number →
      births' ≡ births ++ b ∷ [] → ends' ≡ ends ++ ended_of old →
      PutsOne content inode i page old number births births' ends ends'
  taken_out : (v : ℕ) → page ≡ None → old ≡ Some v → number ≡ Some 0 →
      births' ≡ births → ends' ≡ ends ++ ended_of old →
      PutsOne content inode i page old number births births' ends ends'

-- what became of the data at an index
pub data DataBecomes (page : Option (List ℕ)) (added : List Birth) (e : Edit) : Type 0 where
  comes : (b : Birth) → Contains added b → b.place.offset ≡ e.offset → b.number ≡ e.number
      → page ≡ Some b.page →
      DataBecomes page added e
  goes : e.number ≡ 0 → page ≡ None → DataBecomes page added e

-- changes of the data of a file: an edit for each index where the data differs
pub record PutsData (content : Content) (inode : ℕ) (changes : List BlockChange) (old : ℕ → Option ℕ)
    (asked : List Edit) (births births' : List Birth) (ends ends' : List ℕ) : Type 0 where
  pub added : List Birth
  pub gone : List ℕ
  pub births_are : births' ≡ births ++ added
  pub ends_are : ends' ≡ ends ++ gone
  pub lowest_free : TakeLowestFree content births added
  pub in_order : InPayloadOrder added
  pub tags : (b : Birth) → Contains added b → (b.place.inode ≡ inode) × (b.place.level ≡ 0)
  pub ascending : AllPairs ComesBefore asked
  pub in_changes : (e : Edit) → Contains asked e → Contains (indexes changes) e.offset
  pub becomes : (e : Edit) → Contains asked e →
      DataBecomes (blocks_with changes (λ i. option_and_then (pages_of content) (old i)) e.offset) added e
  pub differs : (e : Edit) → Contains asked e → option_and_then (pages_of content) (old e.offset)
      ≢ blocks_with changes (λ i. option_and_then (pages_of content) (old i)) e.offset
  pub rest : (i : ℕ) → (IsEdited asked i → ⊥) → option_and_then (pages_of content) (old i)
      ≡ blocks_with changes (λ j. option_and_then (pages_of content) (old j)) i
  pub born_asked : (b : Birth) → Contains added b →
      (e : Edit) × Contains asked e × (b.place.offset ≡ e.offset) × (b.number ≡ e.number)
  pub ended : (e : Edit) (v : ℕ) → Contains asked e → old e.offset ≡ Some v → Contains gone v
  pub gone_asked : (v : ℕ) → Contains gone v → (e : Edit) × Contains asked e × (old e.offset ≡ Some v)
  pub gone_once : AllPairs (λ a b. a ≢ b) gone

-- ---- nodes

-- the slots of a node that there may be, with some edits of the blocks below it
abbrev pub slots_with : List Edit → Pages → (node : Option ℕ) → (offset : ℕ) → ℕ → Option ℕ
slots_with group pages node offset = λ s. edited group (λ i. child pages (i % 128) node) (128 * offset + s)

-- a node with some slots is put in the place of one that there may be: it is written, or it is gone where it
-- has none
pub data PutsNode (content : Content) (inode level offset : ℕ) (above : Option ℕ) (slots : ℕ → Option ℕ)
    (number : ℕ)
    (births births' : List Birth) (ends ends' : List ℕ) : Type 0 where
  comes : (b : Birth) → b.place.inode ≡ inode → b.place.level ≡ level → b.place.offset ≡ offset →
      b.number ≡ number → IsLowestFree content births b.number →
      ((s : ℕ) → s < 128 → slot s b.page ≡ slots s) → (s : ℕ) → s < 128 → IsSome (slots s) →
      births' ≡ births ++ b ∷ [] → ends' ≡ ends ++ ended_of above →
      PutsNode content inode level offset above slots number births births' ends ends'
  goes : number ≡ 0 → ((s : ℕ) → s < 128 → slots s ≡ None) →
      births' ≡ births → ends' ≡ ends ++ ended_of above →
      PutsNode content inode level offset above slots number births births' ends ends'

-- a node with these slots is born
pub record BearsNode (content : Content) (inode level offset : ℕ) (slots : List ℕ) (number : ℕ)
    (births births' : List Birth) : Type 0 where
  pub birth : Birth
  pub inode_is : birth.place.inode ≡ inode
  pub level_is : birth.place.level ≡ level
  pub offset_is : birth.place.offset ≡ offset
  pub number_is : birth.number ≡ number
  pub free : IsLowestFree content births birth.number
  pub slots_are : (s : ℕ) → s < 128 → slot s birth.page ≡ numbered (slice_index slots s)
  pub births_are : births' ≡ births ++ birth ∷ []

-- what became of the node above some edits: it is written, with what stands below it then, or it is gone with
-- all below it
pub data NodeBecomes (edits : List Edit) (below : ℕ → Option ℕ) (added : List Birth)
    (up : Edit) : Type 0 where
  comes : (b : Birth) → Contains added b → b.place.offset ≡ up.offset → b.number ≡ up.number →
      ((s : ℕ) → s < 128 → slot s b.page ≡ edited edits below (128 * up.offset + s)) →
      (s : ℕ) → s < 128 → IsSome (edited edits below (128 * up.offset + s)) → NodeBecomes edits below added up
  goes : up.number ≡ 0 → ((s : ℕ) → s < 128 → edited edits below (128 * up.offset + s) ≡ None) →
      NodeBecomes edits below added up

-- edits of a level make edits of the level above it: one node for each group of 128
pub record PutsLevel (content : Content) (inode level : ℕ) (above below : ℕ → Option ℕ)
    (edits ups : List Edit)
    (births births' : List Birth) (ends ends' : List ℕ) : Type 0 where
  pub added : List Birth
  pub gone : List ℕ
  pub births_are : births' ≡ births ++ added
  pub ends_are : ends' ≡ ends ++ gone
  pub lowest_free : TakeLowestFree content births added
  pub in_order : InPayloadOrder added
  pub tags : (b : Birth) → Contains added b → (b.place.inode ≡ inode) × (b.place.level ≡ level)
  pub ascending : AllPairs ComesBefore ups
  pub up_of : (e : Edit) → Contains edits e → (u : Edit) × Contains ups u × (u.offset ≡ e.offset / 128)
  pub edit_of : (u : Edit) → Contains ups u → (e : Edit) × Contains edits e × (u.offset ≡ e.offset / 128)
  pub becomes : (u : Edit) → Contains ups u → NodeBecomes edits below added u
  pub born_up : (b : Birth) → Contains added b →
      (u : Edit) × Contains ups u × (b.place.offset ≡ u.offset) × (b.number ≡ u.number)
  pub ended : (u : Edit) (v : ℕ) → Contains ups u → above u.offset ≡ Some v → Contains gone v
  pub gone_up : (v : ℕ) → Contains gone v → (u : Edit) × Contains ups u × (above u.offset ≡ Some v)
  pub gone_once : AllPairs (λ a b. a ≢ b) gone

-- Edits of a level make those of the next one: what is put above them, and in front the top of a tree that
-- grows.
abbrev pub PutsUp : Content → (inode : ℕ) → Root → (below height : ℕ) → (edits told : List Edit) →
    (births births' : List Birth) → (ends ends' : List ℕ) → Type 0
PutsUp content inode root below height edits told births births' ends ends' =
    (ups : List Edit) × (told ≡ top_edits root (below + 1) height ups)
    × PutsLevel content inode (suc below) (kept_levels (pages_of content) root (suc below))
    (kept_levels (pages_of content) root below) edits ups births births' ends ends'

-- Edits of a level: what is to stand at some offsets of it.
use Rattle.std.specs.Prelude.{◌≡◌, ◌≢◌, ◌<◌, ◌≤◌, ◌==◌, ◌&&◌, nat_lt, not, Bool, true, false, ◌+◌, ◌/◌, ◌^◌, ℕ, suc, if◌then◌else◌, List, [], ◌∷◌, slice_index, length, Option, None, Some}
use Rattle.std.specs.List.{All, AllPairs, Contains}
use Rattle.smallvec.specs.SmallVec.{SmallVec}
use Rattle.nl_types.specs.Plain.Limits.{index_limit}
use Rattle.nl_types.specs.Blocks.Roots.{Pages, Root, Empty, Chain, Tree, numbered}
use Rattle.nl_blocktree.specs.Private.TreeLevels.{Levels, kept_levels, tree_height}
use Rattle.nl_blocktree.specs.declared.tree.Edit.{Edit}

-- the blocks of a level once the edits are made
abbrev pub edited : List Edit → (ℕ → Option ℕ) → ℕ → Option ℕ
edited [] old p = old p
edited (e ∷ edits) old p = if p == e.offset then numbered e.number else edited edits old p

abbrev pub ComesBefore : Edit → Edit → Type 0
ComesBefore a b = a.offset < b.offset

-- an index is one of some edits
abbrev pub IsEdited : List Edit → ℕ → Type 0
IsEdited edits i = (e : Edit) × Contains edits e × (e.offset ≡ i)

-- ---- the old nodes above edits

-- the numbers of the old nodes above an edit
abbrev pub Above : Type 0
Above = SmallVec ℕ

-- they are those above an offset of a level, in a list that begins with level 1, 0 for none
abbrev pub TellsAbove : (old : Levels) → (level offset : ℕ) → (above : List ℕ) → Type 0
TellsAbove old level offset above =
    (j : ℕ) → numbered (slice_index above (level + j)) ≡ old (suc (level + j)) (offset / 128 ^ suc j)

-- each edit of a level knows the old nodes above it
abbrev pub KnowAbove : (old : Levels) → (level : ℕ) → List Edit → Type 0
KnowAbove old level edits = All (λ (e : Edit). TellsAbove old level e.offset e.above.items) edits

-- an edit that stands below no old node
abbrev pub edit_alone : (offset number : ℕ) → Edit
edit_alone offset number =
    record { offset = offset; number = number; above = record { items = []; capacity = 3 } }

-- ---- lists of edits

-- what is to stand at an offset, where it isn't what stood there
abbrev pub edit_of : (offset : ℕ) → (number : Option ℕ) → Above → List Edit
edit_of offset None above = []
edit_of offset (Some n) above = record { offset = offset; number = n; above = above } ∷ []

-- the edits that tell all slots of a list, from an offset on
unfoldable pub edits_from : (offset : ℕ) → (slots : List ℕ) → List Edit
edits_from offset [] = []
edits_from offset (n ∷ numbers) = edit_alone offset n ∷ edits_from (suc offset) numbers

-- edits tell all slots once some edits are made in them
pub record TellsAll (slots : List ℕ) (edits told : List Edit) : Type 0 where
  pub some : 0 < length told
  pub ascending : AllPairs ComesBefore told
  pub small : All (λ (e : Edit). e.offset < index_limit) told
  pub same : (old : ℕ → Option ℕ) → ((i : ℕ) → old i ≡ numbered (slice_index slots i)) →
      (i : ℕ) → edited edits old i ≡ edited told old i
  pub slots_told : (i : ℕ) → slice_index slots i ≢ 0 → IsEdited told i
  pub edits_told : (e : Edit) → Contains edits e → IsEdited told e.offset
  pub alone : All (λ (e : Edit). e.above.items ≡ []) told

-- ---- where a tree grows

-- whether edits have one at offset 0 in front
abbrev pub begins_low : List Edit → Bool
begins_low [] = false
begins_low (e ∷ edits) = e.offset == 0

-- edits with one more at offset 0 in front of them
abbrev pub with_front : Bool → (top : ℕ) → List Edit → List Edit
with_front true top ups = edit_alone 0 top ∷ ups
with_front false top ups = ups

-- the edits of a level, with the top of a tree that grows in front of them, if it stands there
abbrev pub top_edits : Root → (level height : ℕ) → List Edit → List Edit
top_edits Empty level height ups = ups
top_edits (Chain top) level height ups = ups
top_edits (Tree old top) level height ups =
    with_front ((old == level) && (nat_lt level height && not (begins_low ups))) top ups

-- what stood at the lowest level that has no node above it is all told by edits
abbrev pub AreToldByEdits : Pages → Root → (level height : ℕ) → List Edit → Type 0
AreToldByEdits pages root level height edits = tree_height root ≤ level → level < height →
    (i v : ℕ) → kept_levels pages root level i ≡ Some v → IsEdited edits i

-- what stands as data of a root that is no tree is all told by edits
abbrev pub IsToldFrom : Pages → Root → List Edit → Type 0
IsToldFrom pages root edits =
    tree_height root ≡ 0 → (i v : ℕ) → kept_levels pages root 0 i ≡ Some v → IsEdited edits i

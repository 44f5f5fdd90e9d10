-- The changes of one checkpoint, and which of them a store can take.
use Rattle.std.specs.Prelude.{◌≡◌, ℕ, zero, suc, ◌+◌, ◌-◌, ◌≤◌, ◌<◌, ◌==◌, ◌||◌, Bool, true, false, List, [], ◌∷◌, ◌++◌, length, map, is_some, is_none, slice_get, Option, None, Some}
use Rattle.std.specs.List.{list_any}
use Rattle.std.specs.Option.{option_map_or}
use Rattle.nl_types.specs.Plain.NumberLists.{is_one_of}
use Rattle.nl_types.specs.Blocks.Segments.{Segments}
use Rattle.nl_types.specs.Blocks.Placing.{LacksSpace}
use Rattle.nl_types.specs.Blocks.Entries.{Place, Birth, Entry, Content, number_of, GivenOnce}
use Rattle.nl_layout.specs.declared.tag.Tag.{Tag}

pub record Changes : Type 0 where
  pub births : List Birth
  pub ends : List ℕ

-- ---- births as tags and pages

-- where the block of a tag belongs
abbrev pub tag_place : Tag → Place
tag_place tag = record { inode = tag.inode; level = tag.level; offset = tag.offset }

abbrev pub number_of_payload : Tag × List ℕ → ℕ
number_of_payload item = item.0.number

abbrev pub birth_of_item : Tag × List ℕ → Birth
birth_of_item item = record { number = item.0.number; place = tag_place item.0; page = item.1 }

abbrev pub births_of : List (Tag × List ℕ) → List Birth
births_of items = map birth_of_item items

-- and back
abbrev pub tag_for : ℕ → Place → Tag
tag_for v place = record { number = v; inode = place.inode; level = place.level; offset = place.offset }

abbrev pub item_of_birth : Birth → Tag × List ℕ
item_of_birth b = (tag_for b.number b.place, b.page)

abbrev pub items_of : List Birth → List (Tag × List ℕ)
items_of births = map item_of_birth births

-- the births with another page at an index
abbrev pub with_page : ℕ → List ℕ → List Birth → List Birth
with_page i page [] = []
with_page zero page (b ∷ births) = record b { page = page } ∷ births
with_page (suc i) page (b ∷ births) = b ∷ with_page i page births

-- ---- free numbers

-- the number of the last birth, 0 where there is none
abbrev pub last_number : List Birth → ℕ
last_number births = option_map_or number_of (slice_get births (length births - 1)) 0

-- whether the number is given to a birth
abbrev pub is_born : List Birth → ℕ → Bool
is_born births v = list_any (λ b. number_of b == v) births

-- whether the number is in use or given to a birth
abbrev pub is_taken : Content → List Birth → ℕ → Bool
is_taken content births v = is_some (content v) || is_born births v

-- the least number from 1 on that is neither in use nor given to a birth
pub record IsLowestFree (content : Content) (births : List Birth) (v : ℕ) : Type 0 where
  pub positive : 1 ≤ v
  pub free : is_taken content births v ≡ false
  pub lowest : (w : ℕ) → 1 ≤ w → w < v → is_taken content births w ≡ true

-- each birth has the lowest number that is free when its turn comes, behind the births before it
abbrev pub TakeLowestFree : Content → List Birth → List Birth → Type 0
TakeLowestFree content before [] = Unit {0}
TakeLowestFree content before (b ∷ births) =
    IsLowestFree content before b.number × TakeLowestFree content (before ++ b ∷ []) births

-- no list of logs fits so many blocks, or more
abbrev pub LacksSpaceFrom : Segments → ℕ → Type 0
LacksSpaceFrom s n = (reserve : Bool) (m : ℕ) → n ≤ m → LacksSpace s reserve m

-- ---- what a store can take

-- whether the number is in use and has not ended
abbrev pub is_live : Option Entry → Bool
is_live None = false
is_live (Some e) = is_none e.end

-- births take the lowest free numbers, none above the capacity; the numbers that end are live
pub record CanBeTaken (capacity : ℕ) (content : Content) (changes : Changes) : Type 0 where
  pub inside : last_number changes.births ≤ capacity + length changes.births
  pub once : GivenOnce changes.births
  pub taken : (v : ℕ) → 1 ≤ v → v ≤ last_number changes.births → is_taken content changes.births v ≡ true
  pub unused : (v : ℕ) → is_born changes.births v ≡ true → content v ≡ None
  pub from_one : (v : ℕ) → is_born changes.births v ≡ true → 1 ≤ v
  pub upto_last : (v : ℕ) → is_born changes.births v ≡ true → v ≤ last_number changes.births
  pub live : (v : ℕ) → is_one_of changes.ends v ≡ true → is_live (content v) ≡ true

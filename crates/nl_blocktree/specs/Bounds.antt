-- How many blocks are written at most where a file's root becomes another.
use Rattle.std.specs.Prelude.{◌≡◌, ◌≢◌, ℕ, ◌+◌, ◌/◌, ◌<◌, ◌≤◌, true, List, length, IsSome}
use Rattle.nl_types.specs.Blocks.Entries.{Birth}
use Rattle.nl_types.specs.Blocks.RootChanges.{IsSound, RewritesFile}
use Rattle.nl_types.specs.Blocks.Roots.{Pages, Root, page_at}
use Rattle.nl_types.specs.Plain.NumberLists.{is_one_of}

-- how many nodes the file of so many blocks has at most: a node is above 127 blocks or more, the next one
-- above 16,384, and the third above all
abbrev pub most_nodes : ℕ → ℕ
most_nodes blocks = blocks / 127 + blocks / 16384 + 3

-- data is new at some of these indices alone
abbrev pub IsNewAt : Pages → Pages → Root → Root → List ℕ → Type 0
IsNewAt old_pages new_pages old new indices =
    (i : ℕ) → IsSome (page_at new_pages new i) → page_at old_pages old i ≢ page_at new_pages new i
    → is_one_of indices i ≡ true

-- there is data below a limit alone
abbrev pub IsBelow : Pages → Root → ℕ → Type 0
IsBelow pages root blocks = (i : ℕ) → IsSome (page_at pages root i) → i < blocks

-- then a file is rewritten by no more births than the indices, and all nodes
abbrev pub BirthsAreFew : Type 0
BirthsAreFew = (old_pages new_pages : Pages) (inode : ℕ) (old new : Root) (births : List Birth)
    (ends indices : List ℕ) (blocks : ℕ)
    → IsSound new_pages new → RewritesFile old_pages new_pages inode old new births ends
    → IsNewAt old_pages new_pages old new indices → IsBelow new_pages new blocks
    → length births ≤ length indices + most_nodes blocks

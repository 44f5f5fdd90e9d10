-- The numbers of a store by the blocks where their pages stand.
use Rattle.std.specs.Prelude.{◌≡◌, ◌≢◌, ℕ, suc, ◌*◌, ◌≤◌, ◌==◌, if◌then◌else◌, Bool, false, List, [], ◌∷◌, length, map, slice_index_or, MatchOption, Option, None, Some}
use Rattle.std.specs.Option.{option_map}
use Rattle.nl_types.specs.Blocks.Segments.{info_of}
use Rattle.nl_types.specs.Blocks.Placing.{blocks_from}
use Rattle.nl_types.specs.Blocks.Entries.{Content, Entry}
use Rattle.nl_vstore.specs.Stores.{Numbered, Store, address_in, content_in, payload_in}

-- whether a page stands at the block
abbrev pub stands_at : ℕ → Option Numbered → Bool
stands_at b None = false
stands_at b (Some n) = n.block == b

-- the first place of a list whose page stands at the block
abbrev pub first_at : ℕ → List (Option Numbered) → Option ℕ
first_at b [] = None
first_at b (o ∷ os) = if stands_at b o then Some 0 else option_map suc (first_at b os)

-- the least number whose page stands at a block
abbrev pub number_at : Store → ℕ → Option ℕ
number_at s b = first_at b s.numbers

-- the number, if there is one, has its page at the block, and else none has
abbrev pub IsNumberAt : Store → ℕ → Option ℕ → Type 0
IsNumberAt s b found = MatchOption found ((v : ℕ) → address_in s v ≢ Some b) (λ v. address_in s v ≡ Some b)

-- ---- rows of blocks

abbrev pub onto : Option ℕ → List ℕ → List ℕ
onto None vs = vs
onto (Some v) vs = v ∷ vs

-- those that there are, in their order
abbrev pub pick : List (Option ℕ) → List ℕ
pick [] = []
pick (o ∷ os) = onto o (pick os)

-- what f gives of the n blocks from b on
abbrev pub picked : (ℕ → Option ℕ) → ℕ → ℕ → List ℕ
picked f b n = pick (map f (blocks_from b n))

-- the numbers whose pages stand in a segment, by block
abbrev pub numbers_in : Store → ℕ → List ℕ
numbers_in s segment = picked (number_at s) (segment * s.segments.blocks) s.segments.blocks

-- ---- payload

-- the block itself, where there is payload
abbrev pub block_if : {X : Type 0} → ℕ → Option X → Option ℕ
block_if b None = None
block_if b (Some x) = Some b

abbrev pub payload_block : Store → ℕ → Option ℕ
payload_block s b = block_if b (payload_in s b)

-- the place of a row, where there is payload
abbrev pub in_row : {X : Type 0} → List (Option X) → ℕ → Option ℕ
in_row row k = block_if k (slice_index_or row k None)

-- so many were counted among the first blocks
pub record AreCounted (f : ℕ → Option ℕ) (b position count : ℕ) : Type 0 where
  pub counts : count ≡ length (picked f b position)
  pub few : count ≤ position

-- how many blocks of the logs of a segment have payload, be it a number's or not
abbrev pub payload_count_in : Store → ℕ → ℕ
payload_count_in s segment =
    length (picked (payload_block s) (segment * s.segments.blocks) (info_of s.segments.each segment).used)

-- ---- those that are needed

abbrev pub if_needed : (ℕ → Bool) → Option ℕ → Option ℕ
if_needed needs None = None
if_needed needs (Some v) = if needs v then Some v else None

abbrev pub entry_needed : (Entry → Bool) → Option Entry → Bool
entry_needed needed None = false
entry_needed needed (Some e) = needed e

-- whether a number is in use for what is needed
abbrev pub needs : (Entry → Bool) → Content → ℕ → Bool
needs needed content v = entry_needed needed (content v)

-- the number whose page stands at a block, where it is needed
abbrev pub needed_at : Store → (Entry → Bool) → ℕ → Option ℕ
needed_at s needed b = if_needed (needs needed (content_in s)) (number_at s b)

-- the needed numbers whose pages stand in a segment, by block
abbrev pub needed_in : Store → (Entry → Bool) → ℕ → List ℕ
needed_in s needed segment = picked (needed_at s needed) (segment * s.segments.blocks) s.segments.blocks

abbrev pub needed_count : Store → (Entry → Bool) → ℕ → ℕ
needed_count s needed segment = length (needed_in s needed segment)

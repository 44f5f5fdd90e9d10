-- What reads and warming make of what is kept of files.
use Rattle.std.specs.Prelude.{◌≡◌, ◌⊎◌, ℕ, ◌+◌, ◌-◌, ◌/◌, ◌<◌, ◌≤◌, min, slice_index, List, Contains, Some, IfOk, OnErr, IsOkUnless, MatchResult, Result, Ok, Err}
use Rattle.nl_types.specs.declared.error.VolError.{VolError}
use Rattle.nl_types.specs.declared.error.VolError.TheVariants.{Memory}
use Rattle.nl_types.specs.Plain.Calls.{and_then, read}
use Rattle.nl_types.specs.Plain.Paths.{path_of}
use Rattle.nl_types.specs.Blocks.Roots.{Blocks}
use Rattle.nl_types.specs.Plain.Trees.{Tree}
use Rattle.nl_tree.specs.Held.{Holding, byte_stored, held_block, held_size}
use Rattle.nl_tree.specs.Reading.{as_file, link_at}
use Rattle.nl_mounts.specs.declared.cache.CacheKey.{CacheKey}
use Rattle.nl_mounts.specs.Caching.{Cache, block_count, put_count, touched, warmed}

-- P holds of the file at a path, whatever inodes hold: of the checkpoint's number, of what they hold, and of
-- the file's inode
abbrev pub OfHeldFile : (Holding → Type 0) → (checkpoint : ℕ) → (path : List ℕ) → (ℕ → Holding → ℕ → Type 0)
    → Type 0
OfHeldFile holds n path P =
    (held : Holding) (inode : ℕ) → holds held → Ok inode ≡ and_then (link_at held path) as_file
    → P n held inode

-- ---- which pages are put

-- an entry is a block of a file of the checkpoint, whatever inodes hold
pub record IsStored (holds : Holding → Type 0) (n : ℕ) (e : CacheKey × List ℕ) : Type 0 where
  pub checkpoint : e.0.checkpoint ≡ n
  pub block : (held : Holding) → holds held → held_block (held e.0.inode) e.0.index ≡ Some e.1

-- no entry is new
abbrev pub PutsNone : (old new : Cache) → Type 0
PutsNone old new = (e : CacheKey × List ℕ) → Contains new.entries e → Contains old.entries e

-- each new entry is such a block
abbrev pub PutsStored : (holds : Holding → Type 0) → ℕ → (old new : Cache) → Type 0
PutsStored holds n old new =
    (e : CacheKey × List ℕ) → Contains new.entries e → Contains old.entries e ⊎ IsStored holds n e

-- ---- reads

-- the first so many bytes are those of blocks from an offset on
abbrev pub AreReadUpTo : (count : ℕ) → Blocks → (offset : ℕ) → List ℕ → Type 0
AreReadUpTo count blocks offset bytes =
    (k : ℕ) → k < count → slice_index bytes k ≡ byte_stored blocks (offset + k)

-- of so many bytes, those from one on are so
abbrev pub AreReadFrom : (first count : ℕ) → Blocks → (offset : ℕ) → List ℕ → Type 0
AreReadFrom first count blocks offset bytes =
    (k : ℕ) → first ≤ k → k < count → slice_index bytes k ≡ byte_stored blocks (offset + k)

-- A read changes the order alone: where it answers so many bytes, each of their blocks that is kept has come
-- to the front, one after another.
pub record HasTouched (OfFile : (ℕ → Holding → ℕ → Type 0) → Type 0) (offset : ℕ) (old : Cache)
    (result : Result ℕ VolError)
    (new : Cache) : Type 0 where
  pub touched_is : IfOk result
      (λ count. OfFile (λ n held i. new ≡ touched n i (offset / 1024) (block_count offset count) old))
  pub none : PutsNone old new
  pub same : OnErr result (new ≡ old)

-- ---- warming

-- the path leads to a file, or the call is refused as the tree says; memory may be refused
abbrev pub IsWarmingOf : Tree → List ℕ → Result ℕ VolError → Type 0
IsWarmingOf t path result =
    MatchResult (and_then (path_of path) (read t 0 0)) (λ _. IsOkUnless result Memory) (λ e. result ≡ Err e)

-- how many blocks the bytes lie in that a file has from an offset on, at most so many
abbrev pub blocks_held : Holding → (inode offset len : ℕ) → ℕ
blocks_held held i offset len = block_count offset (min len (held_size (held i) - offset))

-- so many of them have come to the front, ascending, or were put where they are stored
abbrev pub warmed_by : Holding → (offset done checkpoint inode : ℕ) → Cache → Cache
warmed_by held offset done n i c = warmed (held_block (held i)) n i (offset / 1024) done c

-- all of them are warmed, and those that were put are counted
pub record HasWarmed (offset len count : ℕ) (old new : Cache) (n : ℕ) (held : Holding) (i : ℕ) : Type 0 where
  pub cache : new ≡ warmed_by held offset (blocks_held held i offset len) n i old
  pub put_is : count ≡ put_count (held_block (held i)) n i (offset / 1024) (blocks_held held i offset len) old

-- the first of them are warmed
pub record HasBegunToWarm (offset len : ℕ) (old new : Cache) (n : ℕ) (held : Holding) (i : ℕ) : Type 0 where
  pub done : ℕ
  pub part : done < blocks_held held i offset len
  pub cache : new ≡ warmed_by held offset done n i old

-- what warming comes to: all blocks of the range; or the first of them, where memory is refused; or nothing
pub data Warms (OfFile : (ℕ → Holding → ℕ → Type 0) → Type 0) (offset len : ℕ) (old : Cache)
    (result : Result ℕ VolError)
    (new : Cache) : Type 0 where
  Whole : (count : ℕ) → result ≡ Ok count → OfFile (HasWarmed offset len count old new)
      → Warms OfFile offset len old result new
  Part : result ≡ Err Memory → OfFile (HasBegunToWarm offset len old new)
      → Warms OfFile offset len old result new
  Nothing : (e : VolError) → result ≡ Err e → new ≡ old → Warms OfFile offset len old result new

-- What a port keeps of files that it reads often: their pages, the most recently used first.
use Rattle.std.specs.Prelude.{◌≡◌, ◌⊎◌, ℕ, ◌+◌, ◌-◌, ◌/◌, ◌<◌, ◌==◌, ◌&&◌, zero, suc, Bool, cond, not, is_some, List, Contains, Option, Some}
use Rattle.std.specs.Map.{lookup}
use Rattle.std.specs.Option.{option_map_or}
use Rattle.lru.specs.LruCache.{LruCache, lru_cache, promoted, put_entries}
use Rattle.nl_types.specs.declared.error.VolError.{VolError}
use Rattle.nl_types.specs.declared.error.VolError.TheVariants.{BadRange, Memory}
use Rattle.nl_types.specs.Blocks.Roots.{Blocks}
use Rattle.nl_tree.specs.Held.{Holding, held_block}
use Rattle.nl_commit.specs.declared.commit.Commit.{Commit}
use Rattle.nl_publish.specs.Cached.{IsCachedPage}
use Rattle.nl_mounts.specs.declared.cache.CacheKey.{CacheKey}

abbrev pub Cache : Type 0
Cache = LruCache CacheKey (List ℕ)

abbrev pub key_of : (checkpoint inode index : ℕ) → CacheKey
key_of checkpoint inode index = record { checkpoint = checkpoint; inode = inode; index = index }

-- all three numbers tell a key from another
abbrev pub is_key : CacheKey → CacheKey → Bool
is_key a b = (a.checkpoint == b.checkpoint) && ((a.inode == b.inode) && (a.index == b.index))

abbrev pub cached_at : CacheKey → Cache → Option (List ℕ)
cached_at key c = lookup (is_key key) c.entries

-- so many pages may be kept
abbrev pub IsCacheSize : ℕ → Type 0
IsCacheSize pages = (0 < pages) × (pages < 4097)

-- no cache is made: memory is refused, or there may not be so many pages
abbrev pub IsCacheRefused : (pages : ℕ) → VolError → Type 0
IsCacheRefused pages e = (IsCacheSize pages × (e ≡ Memory)) ⊎ ((IsCacheSize pages → ⊥) × (e ≡ BadRange))

-- ---- whose pages they are

-- what is kept of a checkpoint are blocks of its files
abbrev pub HasCachedBlocks : Cache → (checkpoint : ℕ) → Holding → Type 0
HasCachedBlocks c checkpoint held = (inode index : ℕ) (page : List ℕ)
    → Contains c.entries (key_of checkpoint inode index, page) → held_block (held inode) index ≡ Some page

-- inodes hold this, and what is kept are blocks of their files
abbrev pub HoldsWith : (Holding → Type 0) → Cache → (checkpoint : ℕ) → Holding → Type 0
HoldsWith holds c n held = holds held × HasCachedBlocks c n held

-- all pages are right in a history
pub record AreCachedPages (log : List Commit) (cache : Option Cache) : Type 0 where
  pub each : (c : Cache) (key : CacheKey) (page : List ℕ) → cache ≡ Some c → Contains c.entries (key, page)
      → IsCachedPage log key.checkpoint key.inode key.index page

-- ---- ranges

-- the index behind the last block of so many bytes from an offset on
abbrev pub block_end : (offset count : ℕ) → ℕ
block_end offset zero = offset / 1024
block_end offset (suc count) = (offset + count) / 1024 + 1

-- in how many blocks they lie
abbrev pub block_count : (offset count : ℕ) → ℕ
block_count offset count = block_end offset count - offset / 1024

-- ---- order

-- a block was read: where it is there, it comes to the front
abbrev pub touched_one : CacheKey → Cache → Cache
touched_one key c = lru_cache (promoted (is_key key) c.entries) c.cap

-- so many blocks of a file, ascending
abbrev pub touched : (checkpoint inode first count : ℕ) → Cache → Cache
touched n i first zero c = c
touched n i first (suc count) c = touched_one (key_of n i (first + count)) (touched n i first count c)

-- a block is put that isn't there
abbrev pub put_one : CacheKey → List ℕ → Cache → Cache
put_one key page c = lru_cache (put_entries is_key c key page) c.cap

-- where a block is there, it comes to the front; else it is put, where it is stored
abbrev pub warmed_one : CacheKey → Option (List ℕ) → Cache → Cache
warmed_one key stored c =
    cond (is_some (cached_at key c)) (touched_one key c) (option_map_or (λ page. put_one key page c) stored c)

-- how many are put so
abbrev pub put_by : CacheKey → Option (List ℕ) → Cache → ℕ
put_by key stored c = cond (not (is_some (cached_at key c)) && is_some stored) 1 0

-- so many blocks of a file, ascending
abbrev pub warmed : Blocks → (checkpoint inode first count : ℕ) → Cache → Cache
warmed blocks n i first zero c = c
warmed blocks n i first (suc count) c =
    warmed_one (key_of n i (first + count)) (blocks (first + count)) (warmed blocks n i first count c)

-- how many of them are put
abbrev pub put_count : Blocks → (checkpoint inode first count : ℕ) → Cache → ℕ
put_count blocks n i first zero c = 0
put_count blocks n i first (suc count) c = put_count blocks n i first count c
    + put_by (key_of n i (first + count)) (blocks (first + count)) (warmed blocks n i first count c)

-- What a port answers.
use Rattle.std.specs.Prelude.{ℕ, ◌≡◌, ◌≢◌, ◌<◌, ◌⊎◌, Bool, true, false, List, Contains, length, take, drop, IfOk, OnErr, Option, None, Some, Result, Ok, Err}
use Rattle.std.specs.List.{AllZip}
use Rattle.std.specs.Option.{option_and_then, option_map}
use mathlib.Core.List.{IsPrefix}
use Rattle.nl_types.specs.declared.error.VolError.{VolError}
use Rattle.nl_types.specs.declared.error.VolError.TheVariants.{BadMount}
use Rattle.nl_types.specs.declared.event.Ask.{Ask}
use Rattle.nl_types.specs.declared.reply.Answer.TheVariants.{Bytes}
use Rattle.nl_types.specs.declared.reply.Named.{Named}
use Rattle.nl_types.specs.declared.reply.Stat.{Stat}
use Rattle.nl_types.specs.Plain.Calls.{IsReadReply, ShowsUnlessMemory, and_then, list, read, reply_to, stat}
use Rattle.nl_types.specs.Plain.Paths.{path_of}
use Rattle.nl_types.specs.Blocks.Roots.{Pages}
use Rattle.nl_types.specs.Plain.Trees.{Tree}
use Rattle.nl_types.specs.Plain.Worlds.{Reply}
use Rattle.nl_layout.specs.Root.{root_of}
use Rattle.nl_cpfile.specs.Tables.{kept_at, checkpoint_root}
use Rattle.nl_cpfile.specs.declared.checkpoint.Checkpoint.{Checkpoint}
use Rattle.nl_tree.specs.Held.{Holding}
use Rattle.nl_tree.specs.Reading.{ShowsAs}
use Rattle.nl_files.specs.CheckpointTrees.{HoldsTree}
use Rattle.nl_commit.specs.Commits.{IsHistory, shown_after}
use Rattle.nl_commit.specs.Means.{RootMeans}
use Rattle.nl_commit.specs.Shown.{Shown, mounted_on, pages_shown}
use Rattle.nl_publish.specs.declared.reader_state.ReaderState.{ReaderState}
use Rattle.nl_publish.specs.Histories.{Known}
use Rattle.nl_publish.specs.Mounts.{Claim}
use Rattle.nl_publish.specs.Told.{TreeOn}
use Rattle.nl_publish.specs.Reading.{IsLater}
use Rattle.nl_mounts.specs.declared.cache.CacheKey.{CacheKey}
use Rattle.nl_mounts.specs.declared.looks.MountedTree.{MountedTree}
use Rattle.nl_mounts.specs.Caching.{Cache, HasCachedBlocks}
use Rattle.nl_mounts.specs.Warming.{HasTouched, IsStored, OfHeldFile, Warms}

-- a port: what it has seen, what it keeps of files, and whether it has its reader
pub record PortView : Type 0 where
  pub known : Known
  pub cache : Option Cache
  pub seated : Bool

-- a port that keeps nothing, and has its reader
abbrev pub fresh : Known → PortView
fresh known = record { known = known; cache = None; seated = true }

-- a port that has seen this instead
abbrev pub seeing : PortView → Known → PortView
seeing p k = record { known = k; cache = p.cache; seated = p.seated }

-- a port without its reader
abbrev pub vacant : PortView → PortView
vacant p = record { known = p.known; cache = p.cache; seated = false }

-- a port out of its place, which keeps nothing
abbrev pub taken : PortView → PortView
taken p = record { known = p.known; cache = None; seated = p.seated }

-- the place of a port, with what comes back to it
abbrev pub joined : PortView → PortView → PortView
joined p q = record { known = q.known; cache = p.cache; seated = q.seated }

-- a history that goes on is seen
pub record IsSeenOn (old new : Known) : Type 0 where
  pub later : IsLater old new
  pub history : IsHistory new.commits

-- a port is later, and the same but for what it has seen
pub record IsLaterPort (old new : PortView) : Type 0 where
  pub later : IsLater old.known new.known
  pub kept : new ≡ seeing old new.known

abbrev pub AreLater : (old new : List PortView) → Type 0
AreLater old new = AllZip IsLaterPort old new

-- a port has learned of a mount, and is else what it was
abbrev pub Learns : Claim → (old new : PortView) → Type 0
Learns m old new = (new ≡ old) ⊎ (new ≡ seeing old m.told)

-- ---- entering

-- a state's history is a proper beginning of what was seen
pub record IsOlder (i : ReaderState) (k : Known) : Type 0 where
  pub begins : IsPrefix i.seen.log k.commits
  pub shorter : length i.seen.log < length k.commits

-- Why a port was given no state that is as new as what it has seen: it has no reader, or its reader was given
-- none, or an older one.
pub data IsUngiven {E : Type 0} (gives : E → Option ReaderState → Type 0) (k : Known) (seated : Bool) : Type 0 where
  HasNoReader : seated ≡ false → IsUngiven gives k seated
  GivenNone : (reader : E) → gives reader None → IsUngiven gives k seated
  GivenOlder : (reader : E) (i : ReaderState) → gives reader (Some i) → IsOlder i k → IsUngiven gives k seated

-- why it doesn't look for a mount: the mount is another volume's, or it was given no state
pub data Misses {E : Type 0} (gives : E → Option ReaderState → Type 0) (m : Claim) (p : PortView) : Type 0 where
  OfAnother : m.told.volume ≢ p.known.volume → Misses gives m p
  NotGiven : m.told.volume ≡ p.known.volume → IsUngiven gives p.known p.seated → Misses gives m p

-- ---- answers

-- the call is refused for its mount, and has read nothing
pub record IsNotRead (result : Result ℕ VolError) (was now : List ℕ) : Type 0 where
  pub refused : result ≡ Err BadMount
  pub same : now ≡ was

-- the bytes of the file at a path from an offset on stand in the front of the slice, as many as there are and
-- it takes, and the rest of it is as it was; or the call is refused as the tree says, and the slice is as it
-- was
pub record IsReadOf (t : Tree) (path : List ℕ) (offset : ℕ) (was : List ℕ) (result : Result ℕ VolError)
    (now : List ℕ) : Type 0 where
  pub reads : ShowsAs (λ count. Bytes (take count now)) result
      (and_then (path_of path) (read t offset (length was)))
  pub rest : IfOk result (λ count. drop count now ≡ drop count was)
  pub same : OnErr result (now ≡ was)

abbrev pub IsStatOf : Tree → List ℕ → Result Stat VolError → Type 0
IsStatOf t path result = result ≡ and_then (path_of path) (stat t)

-- the names, or a refusal as the tree says, or one for memory
abbrev pub IsListOf : Tree → List ℕ → Result (List Named) VolError → Type 0
IsListOf t path result = ShowsUnlessMemory (λ names. names) result (and_then (path_of path) (list t))

-- what the tree says, or a refusal for memory where the question takes some
abbrev pub IsReplyOf : Tree → Ask → Reply → Type 0
IsReplyOf t ask reply = IsReadReply ask reply (reply_to t ask)

-- ---- looks

-- a checkpoint under its number, as a tree
abbrev pub tree_of : ℕ → Checkpoint → MountedTree
tree_of n c = record { checkpoint = n; root = checkpoint_root c }

-- the tree that a mount shows
abbrev pub mounted_tree : Shown → ℕ → Option MountedTree
mounted_tree x m = option_and_then (λ n. option_map (tree_of n) (kept_at n x.table)) (mounted_on x m)

-- The tree that a mount shows in the state x of what has been seen, of the checkpoint that it names. Its root
-- means the tree that this had when the mount was told.
pub record IsMountTree (m : Claim) (old new : Known) (x : Shown) (tree : MountedTree) : Type 0 where
  pub volume : m.told.volume ≡ old.volume
  pub made : IsPrefix m.told.commits new.commits
  pub shown : x ≡ shown_after new.commits
  pub mounted : mounted_on (shown_after new.commits) m.number ≡ Some tree.checkpoint
  pub is_own : tree.checkpoint ≡ m.checkpoint
  pub checkpoint : Checkpoint
  pub kept : kept_at tree.checkpoint (shown_after new.commits).table ≡ Some checkpoint
  pub root : checkpoint_root checkpoint ≡ tree.root
  pub means : (t : Tree) → TreeOn (shown_after new.commits) tree.checkpoint t
      → RootMeans (pages_shown x) tree.root t
  pub told : (t : Tree) → TreeOn (shown_after m.told.commits) m.checkpoint t
      → RootMeans (pages_shown x) tree.root t

-- What a look for a mount at the state x finds, whose history is as new as what was seen: the state lacks the
-- mount, or shows its checkpoint.
pub data Finds (m : Claim) (old new : Known) (x : Shown) (tree : Option MountedTree) : Type 0 where
  Lacks : m.told.volume ≡ old.volume → IsSeenOn old new
      → mounted_on (shown_after new.commits) m.number ≡ None → tree ≡ None
      → Finds m old new x tree
  Shows : (t : MountedTree) → IsSeenOn old new → IsMountTree m old new x t → tree ≡ Some t
      → Finds m old new x tree

-- the tree of a mount in a state whose history is known, where the mount was made
pub data HasTreeIn (m : Claim) (k : Known) (x : Shown) (tree : Option MountedTree) : Type 0 where
  Made : IsPrefix m.told.commits k.commits → tree ≡ mounted_tree x m.number → HasTreeIn m k x tree
  NotMade : IsPrefix k.commits m.told.commits → length k.commits < length m.told.commits → tree ≡ None
      → HasTreeIn m k x tree

-- what is shown where a port has entered, what it has seen then, and the tree that a mount has there
pub record LookView : Type 0 where
  pub shown : Shown
  pub front : Known
  pub tree : Option MountedTree

-- what is answered under a root is true of every tree that the root means; where there is none, the call is
-- refused
abbrev pub IsOfTree : Pages → Option MountedTree → (Refused : Type 0) → (Answers : Tree → Type 0) → Type 0
IsOfTree pages None Refused Answers = Refused
IsOfTree pages (Some tree) Refused Answers = (t : Tree) → RootMeans pages tree.root t → Answers t

-- ---- what is kept of files

-- P holds of the file at a path of the tree that a mount has, if it has one
abbrev pub OfTreeFile : Pages → Option MountedTree → (path : List ℕ) → (ℕ → Holding → ℕ → Type 0) → Type 0
OfTreeFile pages tree path P =
    (t : MountedTree) → tree ≡ Some t → OfHeldFile (HoldsTree pages (root_of t.root)) t.checkpoint path P

-- so it does of the file in the checkpoint that a mount shows in a state
abbrev pub OfMountFile : Shown → (mount : ℕ) → (path : List ℕ) → (ℕ → Holding → ℕ → Type 0) → Type 0
OfMountFile x m path P = (n : ℕ) (c : Checkpoint) → mounted_on x m ≡ Some n → kept_at n x.table ≡ Some c
    → OfHeldFile (HoldsTree (pages_shown x) (root_of (checkpoint_root c))) n path P

-- what is kept are blocks of the files of the tree that a mount has
abbrev pub IsCacheOf : Pages → Option MountedTree → Option Cache → Type 0
IsCacheOf pages tree cache = (t : MountedTree) (c : Cache) (held : Holding) → tree ≡ Some t → cache ≡ Some c
    → HoldsTree pages (root_of t.root) held → HasCachedBlocks c t.checkpoint held

-- each new entry is a block of a file of the tree that a mount has
abbrev pub PutsOfTree : Pages → Option MountedTree → (old new : Cache) → Type 0
PutsOfTree pages tree old new = (e : CacheKey × List ℕ) → Contains new.entries e → Contains old.entries e
    ⊎ ((t : MountedTree) × (tree ≡ Some t) × IsStored (HoldsTree pages (root_of t.root)) t.checkpoint e)

-- where pages are kept, a read does so; else none are
abbrev pub TouchesIfAny : ((ℕ → Holding → ℕ → Type 0) → Type 0) → (offset : ℕ) → Option Cache
    → Result ℕ VolError
    → Option Cache → Type 0
TouchesIfAny OfFile offset None result new = new ≡ None
TouchesIfAny OfFile offset (Some old) result new =
    (c : Cache) × (new ≡ Some c) × HasTouched OfFile offset old result c

-- where pages are kept, warming does so; else it answers 0
abbrev pub WarmsIfAny : ((ℕ → Holding → ℕ → Type 0) → Type 0) → (offset len : ℕ) → Option Cache
    → Result ℕ VolError
    → Option Cache → Type 0
WarmsIfAny OfFile offset len None result new = (result ≡ Ok 0) × (new ≡ None)
WarmsIfAny OfFile offset len (Some old) result new =
    (c : Cache) × (new ≡ Some c) × Warms OfFile offset len old result c

-- Files of mounts that are open.
use Rattle.std.specs.Prelude.{◌≡◌, ◌≢◌, ◌↔◌, ◌-◌, ◌+◌, ◌≤◌, ℕ, min, List, ◌++◌, length, take, drop, IsOk, IfOk, IfSome, IfNone, MatchResult, Option, Some, Result, Ok, Err}
use Rattle.nl_types.specs.declared.error.VolError.{VolError}
use Rattle.nl_types.specs.declared.error.VolError.TheVariants.{BadMount}
use Rattle.nl_types.specs.Plain.Calls.{and_then, file_at, read}
use Rattle.nl_types.specs.Plain.Paths.{path_of}
use Rattle.nl_types.specs.Blocks.Roots.{Pages}
use Rattle.nl_types.specs.Plain.Trees.{Tree}
use Rattle.nl_layout.specs.Root.{root_of}
use Rattle.nl_tree.specs.Held.{Holding}
use Rattle.nl_tree.specs.Reading.{AreBytesFrom, as_file, link_at}
use Rattle.nl_files.specs.CheckpointTrees.{HoldsTree}
use Rattle.nl_commit.specs.Commits.{shown_after}
use Rattle.nl_publish.specs.Histories.{Known}
use Rattle.nl_publish.specs.KeptHoldings.{HoldsOn}
use Rattle.nl_publish.specs.Mounts.{Claim}
use Rattle.nl_publish.specs.Reading.{IsLater}
use Rattle.nl_mounts.specs.declared.files.PartsRead.{PartsRead}
use Rattle.nl_mounts.specs.declared.looks.MountedTree.{MountedTree}
use Rattle.nl_mounts.specs.declared.standing.Standing.{Standing}
use Rattle.nl_mounts.specs.declared.standing.Standing.TheVariants as standing
use Rattle.nl_mounts.specs.Standings.{StandsAs}
use Rattle.nl_mounts.specs.Taking.{TakenView, blocks_of}

-- a file that is open: its mount, its path, and the inode to which that leads
pub record FileView : Type 0 where
  pub mount : Claim
  pub path : List ℕ
  pub inode : ℕ

-- the path leads to a file of this inode, in what the mount's checkpoint held when the mount was told
abbrev pub IsFileOf : Claim → List ℕ → ℕ → Type 0
IsFileOf m path i = (held : Holding) → HoldsOn (shown_after m.told.commits) m.checkpoint held
    → Ok i ≡ and_then (link_at held path) as_file

-- the tree that a mount has somewhere holds just what its checkpoint held then
abbrev pub HoldsAsTold : Claim → Pages → Option MountedTree → Type 0
HoldsAsTold m pages tree = (t : MountedTree) (held : Holding) → tree ≡ Some t
    → HoldsTree pages (root_of t.root) held ↔ HoldsOn (shown_after m.told.commits) m.checkpoint held

-- the path leads to a file, or the call is refused as the tree says
abbrev pub IsOpenOf : {A : Type 0} → Tree → List ℕ → Result A VolError → Type 0
IsOpenOf t path result =
    MatchResult (and_then (path_of path) (read t 0 0)) (λ _. IsOk result) (λ e. result ≡ Err e)

abbrev pub bytes_at : Tree → List ℕ → Result (List ℕ) VolError
bytes_at t path = and_then (path_of path) (file_at t)

-- the bytes of the file from an offset on stand in the front of the slice, as many as there are and it takes,
-- and the rest of it is as it was; it is never refused
pub record IsFileRead (t : Tree) (path : List ℕ) (offset : ℕ) (was : List ℕ) (result : Result ℕ VolError)
    (now : List ℕ) : Type 0 where
  pub bytes : List ℕ
  pub file : bytes_at t path ≡ Ok bytes
  pub count : ℕ
  pub answer : result ≡ Ok count
  pub all : count ≡ min (length was) (length bytes - offset)
  pub front : now ≡ take count (drop offset bytes) ++ drop count was

-- what is copied of the pages are the bytes of the file from an offset on, as many as there are up to a length
pub record HasTaken (t : Tree) (path : List ℕ) (offset len : ℕ) (taken : TakenView) : Type 0 where
  pub bytes : List ℕ
  pub file : bytes_at t path ≡ Ok bytes
  pub all : taken.count ≡ min len (length bytes - offset)
  pub copied : (part : List ℕ) → length part ≡ taken.count
      → AreBytesFrom (blocks_of taken.pages) taken.start part → part ≡ take taken.count (drop offset bytes)

-- or a page couldn't be shared
abbrev pub IsTakenOf : Tree → List ℕ → (offset len : ℕ) → Result (Option TakenView) VolError → Type 0
IsTakenOf t path offset len result = IfOk result (λ found. IfSome found (HasTaken t path offset len))

-- so many bytes of the file from an offset on stand in the front of the slice, and the rest of it is as it was
pub record IsReadUpTo (t : Tree) (path : List ℕ) (offset : ℕ) (was : List ℕ) (read : ℕ) (now : List ℕ)
    : Type 0 where
  pub bytes : List ℕ
  pub file : bytes_at t path ≡ Ok bytes
  pub within : read ≤ length bytes - offset
  pub front : now ≡ take read (drop offset bytes) ++ drop read was

-- more bytes were read behind so many: as many as there are, and at most so many
pub record HasReadMore (t : Tree) (path : List ℕ) (offset : ℕ) (was : List ℕ) (read len more : ℕ)
    (now : List ℕ) : Type 0 where
  pub reads : IsReadUpTo t path offset was (read + more) now
  pub all : more ≡ min len (length reads.bytes - (offset + read))

-- and they are as many as there are and the slice takes, where no part was refused
pub record ArePartsRead (t : Tree) (path : List ℕ) (offset : ℕ) (was : List ℕ) (parts : PartsRead)
    (now : List ℕ) : Type 0 where
  pub reads : IsReadUpTo t path offset was parts.count now
  pub all : IfNone parts.refusal (parts.count ≡ min (length was) (length reads.bytes - offset))

-- Why a part was refused: from some history on that the port had seen behind the others, the mount wasn't found.
pub record IsPartRefused (m : Claim) (old new : Known) (Ungiven : Known → Type 0) (e : VolError) : Type 0 where
  pub is : e ≡ BadMount
  pub seen : Known
  pub later : IsLater old seen
  pub stands : Standing
  pub unmounted : stands ≢ standing.Mounted
  pub why : StandsAs m seen new (Ungiven seen) stands

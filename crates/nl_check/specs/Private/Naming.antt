-- How far the names of a tree were followed from the root.
use Rattle.std.specs.Prelude.{◌≡◌, ◌≢◌, ◌⊎◌, ℕ, ◌+◌, ◌*◌, ◌<◌, ◌≤◌, cond, List, [], ◌∷◌, ◌++◌, length, slice_get, slice_set, is_some, Option, None, Some}
use Rattle.std.specs.Option.{option_map}
use Rattle.nl_types.specs.Plain.Limits.{inode_limit, root_inode}
use Rattle.nl_types.specs.declared.kind.Kind.{Kind}
use Rattle.nl_types.specs.declared.kind.Kind.TheVariants as kind
use Rattle.nl_types.specs.Inodes.{reached}
use Rattle.nl_types.specs.Plain.Paths.{Path}
use Rattle.nl_dirs.specs.declared.record.Record.{Record}
use Rattle.nl_tree.specs.Held.{Held, Holding, Listed, Stored, inodes_of_holding}
use Rattle.nl_check.specs.Private.SoundInodes.{kind_in}

abbrev pub kind_of_held : Held → Kind
kind_of_held (Stored size blocks) = kind.File
kind_of_held (Listed records) = kind.Directory

-- the kind of what an inode holds, where it is in use
abbrev pub kind_held : Option Held → Option Kind
kind_held held = option_map kind_of_held held

-- the table has the kinds of all inodes in use
pub record TellsKinds (holding : Holding) (kinds : List (Option Kind)) : Type 0 where
  pub few : length kinds ≤ inode_limit
  pub told : (i : ℕ) → i < inode_limit → kind_in kinds i ≡ kind_held (holding i)

-- the kinds of all inodes that so many blocks may have, as a table has them
pub record HasKindsOf (blocks : ℕ) (kinds part : List (Option Kind)) : Type 0 where
  pub few : length part ≤ length kinds
  pub each : (i : ℕ) → (kind_in part i ≡ kind_in kinds i) ⊎ ((8 * blocks ≤ i) × (kind_in part i ≡ None))

-- how many numbers no record has named yet
abbrev pub awaited_count : List (Option Kind) → ℕ
awaited_count [] = 0
awaited_count (k ∷ awaited) = cond (is_some k) 1 0 + awaited_count awaited

-- a number that was awaited as this kind isn't awaited any more
pub record IsTaken (number : ℕ) (kind : Kind) (old new : List (Option Kind)) : Type 0 where
  pub was : kind_in old number ≡ Some kind
  pub now : new ≡ slice_set old number None

-- a directory's number goes to the end of the queue, a file's doesn't
abbrev pub IsQueued : ℕ → Kind → List ℕ → List ℕ → Type 0
IsQueued number kind.File old new = new ≡ old
IsQueued number kind.Directory old new = new ≡ old ++ number ∷ []

-- the records of a directory
abbrev pub records_in : Option Held → List Record
records_in None = []
records_in (Some (Stored size blocks)) = []
records_in (Some (Listed records)) = records

-- the record at a place of the directory of an inode
abbrev pub record_at : Holding → ℕ → ℕ → Option Record
record_at holding d j = slice_get (records_in (holding d)) j

-- the record at place j of the directory d was followed: all those of the first directories of a queue, and
-- of the next one those before a place
pub record IsFollowed (queue : List ℕ) (done place : ℕ) (d j : ℕ) : Type 0 where
  pub turn : ℕ
  pub is : slice_get queue turn ≡ Some d
  pub before : (turn < done) ⊎ ((turn ≡ done) × (j < place))

-- an inode in use is named
pub record IsNamed (holding : Holding) (awaited : List (Option Kind)) (i : ℕ) : Type 0 where
  pub kind : Kind
  pub used : kind_held (holding i) ≡ Some kind
  pub taken : kind_in awaited i ≡ None

-- a record that was followed names the inode
pub record IsNamedBy (holding : Holding) (queue : List ℕ) (done place i : ℕ) : Type 0 where
  pub directory : ℕ
  pub position : ℕ
  pub record_there : Record
  pub followed : IsFollowed queue done place directory position
  pub at : record_at holding directory position ≡ Some record_there
  pub names : record_there.inode ≡ i

-- Of the records that were followed each names an inode by its kind, not the root, and no inode twice. Those
-- and the root are named, and no others; the directories among them are in the queue, each once. All others
-- are awaited.
pub record IsNaming (holding : Holding) (queue : List ℕ) (done place : ℕ)
    (awaited : List (Option Kind)) : Type 0 where
  pub few : length awaited ≤ inode_limit
  pub awaits : (i : ℕ) → i < inode_limit
      → (kind_in awaited i ≡ kind_held (holding i)) ⊎ (kind_in awaited i ≡ None)
  pub root : (kind_held (holding 2) ≡ Some kind.Directory) × (kind_in awaited 2 ≡ None)
  pub queued : (i : ℕ) → kind_held (holding i) ≡ Some kind.Directory → kind_in awaited i ≡ None
      → (turn : ℕ) × (slice_get queue turn ≡ Some i)
  pub directories : (turn i : ℕ) → slice_get queue turn ≡ Some i
      → (kind_held (holding i) ≡ Some kind.Directory) × (kind_in awaited i ≡ None)
  pub each_once : (s t i : ℕ) → slice_get queue s ≡ Some i → slice_get queue t ≡ Some i → s ≡ t
  pub reaches : (i : ℕ) → IsNamed holding awaited i
      → (p : Path) × (reached (inodes_of_holding holding) p ≡ Some i)
  pub names : (d j : ℕ) (r : Record) → IsFollowed queue done place d j → record_at holding d j ≡ Some r
      → (kind_held (holding r.inode) ≡ Some r.kind) × (kind_in awaited r.inode ≡ None) × (r.inode ≢ 2)
  pub once : (d j e k : ℕ) (r s : Record) → IsFollowed queue done place d j → IsFollowed queue done place e k
      → record_at holding d j ≡ Some r → record_at holding e k ≡ Some s → r.inode ≡ s.inode
      → (d ≡ e) × (j ≡ k)
  pub only : (i : ℕ) → IsNamed holding awaited i → (i ≡ root_inode) ⊎ IsNamedBy holding queue done place i

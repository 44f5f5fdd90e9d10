-- The files of a checkpoint beside those of the one before it.
use Rattle.std.specs.Prelude.{◌≡◌, ◌≢◌, ◌⊎◌, ℕ, ◌+◌, ◌*◌, ◌<◌, Bool, true, false, List, [], ◌∷◌, ◌++◌, length, ◌==◌, if◌then◌else◌, IfSome, Option, Some}
use Rattle.std.specs.List.{Contains, slice_get}
use Rattle.nl_types.specs.Plain.Limits.{inode_limit}
use Rattle.nl_types.specs.declared.kind.Kind.{Kind}
use Rattle.nl_types.specs.Blocks.RootChanges.{places}
use Rattle.nl_types.specs.Blocks.Roots.{Chain, Empty, OfChain, OfTree, Pages, Root, Tree, height_of, kind_of, place_at}
use Rattle.nl_layout.specs.declared.checkpoint_entry.CheckpointEntry.{CheckpointEntry}
use Rattle.nl_layout.specs.declared.inode.Inode.{Inode}
use Rattle.nl_files.specs.CheckpointRoots.{inode_root}
use Rattle.nl_ifile.specs.Inodes.{block_for, inode_at, inode_in}
use Rattle.nl_blocktree.specs.FileShapes.{HasShape, IsSizeOf}
use Rattle.nl_blocktree.specs.TreePlaces.{IsUnder}
use Rattle.nl_blocktree.specs.Walked.{is_met}
use Rattle.nl_check.specs.Shapes.{At, Of, Owner, root_for}
use Rattle.nl_check.specs.Trees.{IsTreeOf}
use Rattle.nl_check.specs.Private.AlikeNames.{AreFiles}
use Rattle.nl_check.specs.Private.SoundInodes.{IsSoundInode, TellsAll, kind_in, kind_told}
use Rattle.nl_check.specs.Private.Walks.{IsBlockOf, IsMetWhole}
use Rattle.nl_check.specs.declared.differing.ChangedFile.{ChangedFile}

-- ---- places of one file

-- trees of one height
abbrev pub AreBeside : Root → Root → Type 0
AreBeside a b = (kind_of a ≡ OfTree) × (kind_of b ≡ OfTree) × (height_of a ≡ height_of b)

-- what a tree of a height is walked beside, where the other file is this one
abbrev pub of_height : ℕ → Root → Root
of_height height Empty = Empty
of_height height (Chain top) = Empty
of_height height (Tree other top) = if other == height then Tree other top else Empty

-- what is passed over: the place has its number still, in files that are one, or trees of one height
pub record IsKeptIn (pages : Pages) (old new : Root) (at : ℕ × ℕ) : Type 0 where
  pub roots : (old ≡ new) ⊎ AreBeside old new
  pub same : places pages old at ≡ places pages new at

-- a number that the file has no more at its place, and one that it has anew
abbrev pub IsLostIn : Pages → Root → Root → ℕ × ℕ → ℕ → Type 0
IsLostIn pages old new at v = (IsKeptIn pages old new at → ⊥) × (places pages old at ≡ Some v)

abbrev pub IsNewIn : Pages → Root → Root → ℕ × ℕ → ℕ → Type 0
IsNewIn pages old new at v = (IsKeptIn pages old new at → ⊥) × (places pages new at ≡ Some v)

-- the file has its shape, and each of its numbers a whole page
pub record IsWholeFile (pages : Pages) (root : Root) : Type 0 where
  pub shape : HasShape pages root
  pub whole : (at : ℕ × ℕ) (v : ℕ) (page : List ℕ) → places pages root at ≡ Some v → pages v ≡ Some page
      → length page ≡ 1024

-- Numbers stand at places. None was met, each stands at one place, and now they are met, and what was before.
pub record AreMetAnew (Place : Type 0) (Stands : Place → ℕ → Type 0) (old new : List Bool) : Type 0 where
  pub fresh : (at : Place) (v : ℕ) → Stands at v → is_met old v ≡ false
  pub once : (p q : Place) (v : ℕ) → Stands p v → Stands q v → p ≡ q
  pub added : (at : Place) (v : ℕ) → Stands at v → is_met new v ≡ true
  pub met_stay : (v : ℕ) → is_met old v ≡ true → is_met new v ≡ true
  pub only : (v : ℕ) → is_met new v ≡ true → (is_met old v ≡ true) ⊎ ((at : Place) × Stands at v)

-- what a file has anew is met, and so many indices lead up to its last block
pub record IsFileMet (pages : Pages) (old new : Root) (old_met new_met : List Bool) (count : ℕ) : Type 0 where
  pub file : IsWholeFile pages new
  pub met : AreMetAnew (ℕ × ℕ) (IsNewIn pages old new) old_met new_met
  pub sized : IsSizeOf pages new (1024 * count)

-- ---- files that changed

-- it was no chain before
abbrev pub CanBeWalked : ChangedFile → Type 0
CanBeWalked f = kind_of (inode_root f.earlier) ≢ OfChain

-- the inode of a number was this one, or none, and is that one, or none
pub record IsChangedFile (pages : Pages) (old new : Root) (f : ChangedFile) : Type 0 where
  pub was : inode_at pages old f.number ≡ f.earlier
  pub is : inode_at pages new f.number ≡ f.later
  pub can : CanBeWalked f

abbrev pub AreChangedFiles : Pages → Root → Root → List ChangedFile → Type 0
AreChangedFiles pages old new files = (f : ChangedFile) → Contains files f → IsChangedFile pages old new f

abbrev pub IsListed : List ChangedFile → ℕ → Type 0
IsListed files n = (f : ChangedFile) × Contains files f × (f.number ≡ n)

-- the number has one inode in both checkpoints, or it is listed
abbrev pub IsSameOrListed : Pages → Root → Root → List ChangedFile → ℕ → Type 0
IsSameOrListed pages old new files n = (inode_at pages old n ≡ inode_at pages new n) ⊎ IsListed files n

-- a list grew by files that changed
pub record ListsMore (pages : Pages) (old new : Root) (before after : List ChangedFile) : Type 0 where
  pub more : (f : ChangedFile) → Contains before f → Contains after f
  pub right : AreChangedFiles pages old new before → AreChangedFiles pages old new after

-- a file comes to a list where its inode changed
abbrev pub ListsFile : ChangedFile → List ChangedFile → List ChangedFile → Type 0
ListsFile f before after =
    ((f.earlier ≡ f.later) × (after ≡ before)) ⊎ (CanBeWalked f × (after ≡ before ++ f ∷ []))

-- an inode is listed where it changed
pub record ListsInode (pages : Pages) (old new : Root) (n : ℕ) (before after : List ChangedFile)
    : Type 0 where
  pub lists : ListsMore pages old new before after
  pub here : IsSameOrListed pages old new after n

-- so are the first inodes of a block
pub record ListsPlaces (pages : Pages) (old new : Root) (index places : ℕ) (before after : List ChangedFile)
    : Type 0 where
  pub lists : ListsMore pages old new before after
  pub each : (p : ℕ) → p < places → IsSameOrListed pages old new after (8 * index + p)

-- a block that there may be is one of inodes
abbrev pub IsOfInodes : Option (List ℕ) → Type 0
IsOfInodes block = IfSome block (λ page. Some page ≡ block_for (inode_in page))

-- a block is one of inodes, or isn't there, and its inodes are listed where they changed
pub record IsBlockListed (pages : Pages) (old new : Root) (files : List ChangedFile) (index : ℕ)
    : Type 0 where
  pub block : IsBlockOf pages new index
  pub each : (p : ℕ) → p < 8 → IsSameOrListed pages old new files (8 * index + p)

pub record ListsBlock (pages : Pages) (old new : Root) (index : ℕ) (before after : List ChangedFile)
    : Type 0 where
  pub lists : ListsMore pages old new before after
  pub listed : IsBlockListed pages old new after index

-- so is each block under some places of a level, or it has the same number
pub record ListsUnder (pages : Pages) (old new : Root) (level first bound : ℕ)
    (before after : List ChangedFile) : Type 0 where
  pub lists : ListsMore pages old new before after
  pub each : (i : ℕ) → IsUnder level first bound (0, i)
      → (place_at pages old 0 i ≡ place_at pages new 0 i) ⊎ IsBlockListed pages old new after i

-- so is each block of two files of inodes, which are trees of one height
pub record ListsAll (pages : Pages) (old new : Root) (before after : List ChangedFile) : Type 0 where
  pub beside : AreBeside old new
  pub lists : ListsMore pages old new before after
  pub each : (i : ℕ) → (place_at pages old 0 i ≡ place_at pages new 0 i) ⊎ IsBlockListed pages old new after i

-- The list has all files whose inodes changed, and no others. All else is the same in the two files of
-- inodes, which are trees of one height.
pub record AreAllListed (pages : Pages) (old new : Root) (files : List ChangedFile) : Type 0 where
  pub beside : AreBeside old new
  pub right : AreChangedFiles pages old new files
  pub each : (i : ℕ) → (place_at pages old 0 i ≡ place_at pages new 0 i) ⊎ IsBlockListed pages old new files i

-- ---- their kinds

-- each number of these files has the inode that it has now
abbrev pub HaveLater : List ChangedFile → (ℕ → Option Inode) → Type 0
HaveLater files now = (f : ChangedFile) → Contains files f → now f.number ≡ f.later

-- a table has the kinds of the first of them, and for all other numbers what it had
pub record AreNoted (now : ℕ → Option Inode) (files : List ChangedFile) (count : ℕ)
    (old new : List (Option Kind)) : Type 0 where
  pub here : (turn : ℕ) (f : ChangedFile) → turn < count → slice_get files turn ≡ Some f
      → f.number < inode_limit → kind_in new f.number ≡ kind_told (now f.number)
  pub others : (i : ℕ) → i < inode_limit → (kind_in new i ≡ kind_in old i) ⊎ (kind_in new i ≡ kind_told (now i))

-- the first of them were files, and are
abbrev pub AreFilesStill : List ChangedFile → ℕ → Type 0
AreFilesStill files count = (turn : ℕ) (f : ChangedFile) → turn < count → slice_get files turn ≡ Some f
    → AreFiles f.earlier f.later

-- ---- places of these files

-- one of the first files of a list, whose blocks an owner has
pub record IsTurnOf (files : List ChangedFile) (count : ℕ) (owner : Owner) (f : ChangedFile) : Type 0 where
  pub turn : ℕ
  pub before : turn < count
  pub is : slice_get files turn ≡ Some f
  pub owner_is : owner ≡ Of f.number

-- how a number stands in two files, at a place of one of the first of a list
pub record StandsOf (Stands : Root → Root → ℕ × ℕ → ℕ → Type 0) (files : List ChangedFile) (count : ℕ)
    (at : At) (v : ℕ) : Type 0 where
  pub file : ChangedFile
  pub of : IsTurnOf files count at.owner file
  pub stands : Stands (inode_root file.earlier) (inode_root file.later) (at.level, at.offset) v

-- the file is whole, and its inode sound
pub record IsSoundNow (pages : Pages) (f : ChangedFile) : Type 0 where
  pub file : IsWholeFile pages (inode_root f.later)
  pub sound : IsSoundInode pages f.number f.later

-- what the first files of a list have anew is met, and each of them is sound
pub record AreFilesMet (pages : Pages) (files : List ChangedFile) (count : ℕ) (old new : List Bool)
    : Type 0 where
  pub met : AreMetAnew At (StandsOf (IsNewIn pages) files count) old new
  pub sound : (turn : ℕ) (f : ChangedFile) → turn < count → slice_get files turn ≡ Some f
      → IsSoundNow pages f

-- ---- places of a checkpoint

abbrev pub IsKept : Pages → Root → Root → At → Type 0
IsKept pages old new at =
    IsKeptIn pages (root_for pages old at.owner) (root_for pages new at.owner) (at.level, at.offset)

-- how a number stands there in an owner's two files
abbrev pub StandsAt : (Root → Root → ℕ × ℕ → ℕ → Type 0) → Pages → Root → Root → At → ℕ → Type 0
StandsAt Stands pages old new at v =
    Stands (root_for pages old at.owner) (root_for pages new at.owner) (at.level, at.offset) v

-- a number that the checkpoint has no more at its place, and one that it has anew
abbrev pub IsLost : Pages → Root → Root → At → ℕ → Type 0
IsLost pages old new at v = StandsAt (IsLostIn pages) pages old new at v

abbrev pub IsNew : Pages → Root → Root → At → ℕ → Type 0
IsNew pages old new at v = StandsAt (IsNewIn pages) pages old new at v

-- ---- a whole step

-- What the checkpoint has anew is met, and its file of inodes and each file that changed is as it has to
-- be. So many indices lead up to the last block of the file of inodes.
pub record AreAllMet (pages : Pages) (old new : Root) (files : List ChangedFile) (old_met new_met : List Bool)
    (count : ℕ) : Type 0 where
  pub met : AreMetAnew At (IsNew pages old new) old_met new_met
  pub itself : IsWholeFile pages new
  pub sized : IsSizeOf pages new (1024 * count)
  pub sound : (f : ChangedFile) → Contains files f → IsSoundNow pages f

-- What was known of the checkpoint before is known of this one: its inodes are sound, and their kinds stand in
-- a table. It holds the same tree, if files alone changed.
pub record IsWalkedBeside (pages : Pages) (old new : Root) (numbers : List Bool)
    (kinds_old kinds : List (Option Kind)) (files : List ChangedFile) (count : ℕ) : Type 0 where
  pub known : IsMetWhole pages new numbers
  pub sized : IsSizeOf pages new (1024 * count)
  pub told : TellsAll pages old kinds_old true → TellsAll pages new kinds true
  pub tree : AreFilesStill files (length files) → (size inodes : ℕ) → IsTreeOf pages old size inodes
      → IsTreeOf pages new (1024 * count) inodes

-- No directory changed, and no inode came or went. As many inodes are told to be in use as before, and the size
-- of the file of inodes.
pub record IsToldStill (files : List ChangedFile) (count : ℕ) (last entry : CheckpointEntry) : Type 0 where
  pub size : entry.size ≡ 1024 * count
  pub inodes : entry.inodes ≡ last.inodes
  pub files_still : AreFilesStill files (length files)

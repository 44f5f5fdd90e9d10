-- The current tree over a checkpoint, and what calls make of it.
use Rattle.std.specs.Prelude.{◌≡◌, ◌≢◌, ◌⊎◌, ℕ, ◌+◌, ◌≤◌, max, length, List, [], ◌∷◌, Option, None, Some, Result, Ok, Err, MatchResult, OnOk}
use Rattle.nl_types.specs.Plain.Limits.{path_limit}
use Rattle.nl_types.specs.declared.error.VolError.{VolError}
use Rattle.nl_types.specs.declared.error.VolError.TheVariants.{Memory}
use Rattle.nl_types.specs.declared.kind.Kind.{Kind}
use Rattle.nl_types.specs.declared.kind.Kind.TheVariants as kind
use Rattle.nl_types.specs.declared.reply.Answer.{Answer}
use Rattle.nl_types.specs.Plain.Paths.{Name, Path, path_of}
use Rattle.nl_types.specs.Plain.Trees.{Tree}
use Rattle.nl_types.specs.Blocks.Roots.{Blocks}
use Rattle.nl_types.specs.Plain.Calls.{Changed}
use Rattle.nl_types.specs.Inodes.{Link}
use Rattle.nl_dirs.specs.declared.record.Record.{Record}
use Rattle.nl_tree.specs.Held.{Holding, IsHolding, Listed, Stored}
use Rattle.nl_tree.specs.Became.{Current, holding_over}
use Rattle.nl_tree.specs.Numbers.{CountsFree}
use Rattle.nl_tree.specs.Bytes.{Overwrites, Resizes}
use Rattle.nl_tree.specs.Naming.{IsPlaceOf}
use Rattle.nl_tree.specs.Reading.{link_at}
use Rattle.nl_tree.specs.Steps.{IsCreated, with_held, with_link_moved, without_inode}
use Rattle.nl_tree.specs.TreeMeaning.{StandsForTree}

-- What the inodes of the current tree hold is what they may, and stands for the tree.
pub record StandsOver (now : Current) (base : Holding) (tree : Tree) : Type 0 where
  pub sound : IsHolding (holding_over now.became base)
  pub counts : CountsFree now base
  pub stands : StandsForTree (holding_over now.became base) tree now.names
  pub few : now.names ≤ path_limit

-- the call on the tree gives the answer, and leaves a tree that the current tree then stands for
pub record LeavesTree (called : Changed) (given : Answer) (now : Current) (base : Holding) : Type 0 where
  pub tree : Tree
  pub is : called ≡ Ok (given, tree)
  pub stands : StandsOver now base tree

-- the result is that of the call on the tree, unless memory ran out
abbrev pub AnswersCall : {A : Type 0} → (A → Answer) → Result A VolError → Current → Holding → Changed
    → Type 0
AnswersCall given result now base called =
    MatchResult result (λ a. LeavesTree called (given a) now base) (λ e. (e ≢ Memory) → called ≡ Err e)

-- ---- a call, whatever the latest checkpoint holds

-- the current tree over what the checkpoint holds stands for a tree
abbrev pub CanCall : (holds : Holding → Type 0) → Current → Type 0
CanCall holds now = (b : Holding) × (tree : Tree) × holds b × StandsOver now b tree

-- the result is that of the call on the tree that the current tree stood for, unless memory ran out
abbrev pub AnswersAs : {A : Type 0} → (holds : Holding → Type 0) → (A → Answer) → Result A VolError
    → (old new : Current)
    → (call : Tree → Changed) → Type 0
AnswersAs holds given result old new call =
    (b : Holding) (tree : Tree) → holds b → StandsOver old b tree → AnswersCall given result new b (call tree)

-- where it is done, what inodes hold changes so
abbrev pub AltersAs : {A : Type 0} → (holds : Holding → Type 0) → Result A VolError → (old new : Current)
    → (how : Holding → Holding → Type 0) → Type 0
AltersAs holds result old new how =
    (b : Holding) (tree : Tree) → holds b → StandsOver old b tree
    → OnOk result (how (holding_over old.became b) (holding_over new.became b))

-- ---- which inodes and blocks change

-- an empty file or directory is new at a path, in the lowest free inode
pub record HasCreated (path : List ℕ) (kind : Kind) (old new : Holding) : Type 0 where
  pub names : Path
  pub is_path : path_of path ≡ Ok names
  pub directory : ℕ
  pub name : Name
  pub place : IsPlaceOf old names directory name None
  pub records : List Record
  pub here : old directory ≡ Some (Listed records)
  pub inode : ℕ
  pub created : IsCreated old new directory records name kind inode

-- the record at a path is gone, and its inode, which has this kind
pub record HasRemoved (path : List ℕ) (kind : Kind) (old new : Holding) : Type 0 where
  pub names : Path
  pub is_path : path_of path ≡ Ok names
  pub directory : ℕ
  pub name : Name
  pub inode : ℕ
  pub place : IsPlaceOf old names directory name (Some (inode, kind))
  pub records : List Record
  pub here : old directory ≡ Some (Listed records)
  pub removed : (i : ℕ) → new i ≡ without_inode directory records name inode old i

-- bytes are written into the file at a path, and no other inode changes
pub record HasOverwritten (path : List ℕ) (offset : ℕ) (bytes : List ℕ) (old new : Holding) : Type 0 where
  pub inode : ℕ
  pub leads : link_at old path ≡ Ok (inode, kind.File)
  pub size : ℕ
  pub blocks : Blocks
  pub was : old inode ≡ Some (Stored size blocks)
  pub now : Blocks
  pub overwrites : Overwrites blocks now offset bytes
  pub written : (i : ℕ) → new i ≡ with_held inode (Some (Stored (max size (offset + length bytes)) now)) old i

-- nothing changes where there are no bytes to write
abbrev pub HasOverwrittenAny : List ℕ → ℕ → List ℕ → Holding → Holding → Type 0
HasOverwrittenAny path offset [] old new = (i : ℕ) → new i ≡ old i
HasOverwrittenAny path offset (b ∷ bytes) old new = HasOverwritten path offset (b ∷ bytes) old new

-- the file at a path has another size, and no other inode changes
pub record HasTruncated (path : List ℕ) (to : ℕ) (old new : Holding) : Type 0 where
  pub inode : ℕ
  pub leads : link_at old path ≡ Ok (inode, kind.File)
  pub size : ℕ
  pub blocks : Blocks
  pub was : old inode ≡ Some (Stored size blocks)
  pub now : Blocks
  pub resizes : Resizes blocks now to
  pub truncated : (i : ℕ) → new i ≡ with_held inode (Some (Stored to now)) old i

-- what is held once the inode of a record is gone that another one takes the place of
abbrev pub without_replaced : Option Link → Holding → Holding
without_replaced None held i = held i
without_replaced (Some link) held i = with_held link.0 None held i

-- a record is moved from one path to another, with its inode, and what had its new name is gone
pub record HasMovedRecord (from to : List ℕ) (old new : Holding) : Type 0 where
  pub differ : from ≢ to
  pub names : Path
  pub target_names : Path
  pub is_from : path_of from ≡ Ok names
  pub is_to : path_of to ≡ Ok target_names
  pub directory : ℕ
  pub target_directory : ℕ
  pub name : Name
  pub target_name : Name
  pub link : Link
  pub target : Option Link
  pub place : IsPlaceOf old names directory name (Some link)
  pub target_place : IsPlaceOf old target_names target_directory target_name target
  pub records : List Record
  pub others : List Record
  pub here : old directory ≡ Some (Listed records)
  pub there : old target_directory ≡ Some (Listed others)
  pub moved : (i : ℕ) → new i ≡ without_replaced target
      (with_link_moved directory records name target_directory others
      (record { name = target_name; inode = link.0; kind = link.1 }) old) i

-- nothing changes where a path is renamed to itself
abbrev pub HasRenamed : List ℕ → List ℕ → Holding → Holding → Type 0
HasRenamed from to old new = ((from ≡ to) × ((i : ℕ) → new i ≡ old i)) ⊎ HasMovedRecord from to old new

-- What calls that read a tree answer.
use Rattle.std.specs.Prelude.{◌≡◌, ℕ, ◌+◌, ◌<◌, List, length, slice_index, take, drop, Option, Result, Ok, Err, MatchResult}
use Rattle.nl_types.specs.declared.error.VolError.{VolError}
use Rattle.nl_types.specs.declared.error.VolError.TheVariants.{IsDir, NotDir}
use Rattle.nl_types.specs.declared.kind.Kind.TheVariants as kind
use Rattle.nl_types.specs.Plain.Paths.{path_of}
use Rattle.nl_types.specs.Plain.Calls.{and_then}
use Rattle.nl_types.specs.Resolving.{resolve}
use Rattle.nl_types.specs.Plain.Trees.{Tree}
use Rattle.nl_types.specs.Inodes.{Link, MeansTree}
use Rattle.nl_types.specs.Blocks.Roots.{Blocks}
use Rattle.nl_types.specs.declared.reply.Named.{Named}
use Rattle.nl_dirs.specs.declared.record.Record.{Record}
use Rattle.nl_tree.specs.Held.{Held, Holding, IsHolding, byte_stored, bytes_stored, held_block, held_size, inodes_of_holding}

-- inodes hold what they may, and stand for the tree
pub record HoldingMeans (holding : Holding) (tree : Tree) : Type 0 where
  pub sound : IsHolding holding
  pub means : MeansTree (inodes_of_holding holding) tree

-- the result is the one that is expected, where `view` is what it shows
abbrev pub ShowsAs : {A B : Type 0} → (A → B) → Result A VolError → Result B VolError → Type 0
ShowsAs view result expected =
    MatchResult result (λ a. expected ≡ Ok (view a)) (λ e. expected ≡ Err e)

-- where a path leads
abbrev pub link_at : Holding → List ℕ → Result Link VolError
link_at holding path = and_then (path_of path) (resolve (inodes_of_holding holding))

-- the inode of a file, or why it is none
abbrev pub as_file : Link → Result ℕ VolError
as_file (i, kind.File) = Ok i
as_file (i, kind.Directory) = Err IsDir

-- the inode of a directory, or why it is none
abbrev pub as_directory : Link → Result ℕ VolError
as_directory (i, kind.File) = Err NotDir
as_directory (i, kind.Directory) = Ok i

-- the bytes are those of blocks from an offset on; a hole stands for zeros
abbrev pub AreBytesFrom : Blocks → ℕ → List ℕ → Type 0
AreBytesFrom blocks offset bytes =
    (k : ℕ) → k < length bytes → slice_index bytes k ≡ byte_stored blocks (offset + k)

-- the bytes are those of a file from an offset on, as many as there are up to a length
abbrev pub ArePartOf : Option Held → ℕ → ℕ → List ℕ → Type 0
ArePartOf held offset len bytes =
    bytes ≡ take len (drop offset (bytes_stored (held_block held) (held_size held)))

-- a record, as a listing shows it
abbrev pub named_of : Record → Named
named_of r = record { name = r.name; kind = r.kind }

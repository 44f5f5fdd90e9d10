-- Small trees and calls by computation, as a check of the definitions against answers made by hand.
use Rattle.std.proofs.Common.{◌≡◌, ℕ, zero, suc, List, [], ◌∷◌, ◌++◌, refl, length, replicate, Result, Ok, Err}
use Rattle.std.specs.Prelude.{codes}
use Rattle.nl_types.specs.declared.error.VolError.{VolError}
use Rattle.nl_types.specs.declared.error.VolError.TheVariants as error
use Rattle.nl_types.specs.declared.kind.Kind.TheVariants as kind
use Rattle.nl_types.specs.declared.reply.Answer.{Answer}
use Rattle.nl_types.specs.declared.reply.Answer.TheVariants as answer
use Rattle.nl_types.specs.declared.reply.Object.TheVariants.{File}
use Rattle.nl_types.specs.declared.reply.Stat.TheVariants as status
use Rattle.nl_types.specs.Plain.Paths.{Path, path_of}
use Rattle.nl_types.specs.Plain.Trees.{Tree, root_alone}
use Rattle.nl_types.specs.Plain.Calls.{Changed, and_then, tree_after, create, mkdir, write, overwritten, truncate, unlink, rmdir, rename, read, list, stat, named}
use Rattle.nl_types.specs.Facts.FileSizes.{written_sizes}

-- ---- calls on the paths that bytes spell

abbrev Call : Type 0
Call = Tree → Changed

abbrev at : {A : Type 0} → List ℕ → (Path → Result A VolError) → Result A VolError
at path call = and_then (path_of path) call

abbrev making : List ℕ → Call
making path tree = at path (create tree (File []))

abbrev making_dir : List ℕ → Call
making_dir path tree = at path (mkdir tree)

abbrev writing : List ℕ → ℕ → List ℕ → Call
writing path offset bytes tree = at path (write tree offset bytes)

abbrev truncating : List ℕ → ℕ → Call
truncating path size tree = at path (truncate tree size)

abbrev unlinking : List ℕ → Call
unlinking path tree = at path (unlink tree)

abbrev removing_dir : List ℕ → Call
removing_dir path tree = at path (rmdir tree)

abbrev renaming : List ℕ → List ℕ → Call
renaming from to tree = at from (λ f. at to (rename tree f))

abbrev bytes_at : Tree → List ℕ → ℕ → ℕ → Result Answer VolError
bytes_at tree path offset len = at path (read tree offset len)

-- the tree after calls, one after another, on a new volume
abbrev done : List Call → Tree
done calls = from root_alone calls
  where
    from : Tree → List Call → Tree
    from tree [] = tree
    from tree (call ∷ calls) = from (tree_after tree (call tree)) calls

-- what a call answers
abbrev reply : Changed → Result Answer VolError
reply changed = and_then changed (λ made. Ok made.0)

-- ---- files

-- `/f` has so many bytes `a`
abbrev long_file : ℕ → Tree
long_file count = done (making (codes "/f") ∷ writing (codes "/f") 0 (replicate count 97) ∷ [])

-- one byte behind a block's border is written, and the size stays
written_behind_a_border : bytes_at
    (tree_after (long_file 1025) (writing (codes "/f") 1024 (codes "b") (long_file 1025))) (codes "/f") 1023 5
    ≡ Ok (answer.Bytes (codes "ab"))
written_behind_a_border = refl

size_stays : at (codes "/f")
    (stat (tree_after (long_file 1025) (writing (codes "/f") 1024 (codes "b") (long_file 1025))))
    ≡ Ok (status.File 1025)
size_stays = refl

-- three bytes at 5,000
abbrev far_write : Tree
far_write = done (making (codes "/f") ∷ writing (codes "/f") 5000 (codes "abc") ∷ [])

far_size : at (codes "/f") (stat far_write) ≡ Ok (status.File 5003)
far_size = refl

zeros_before : bytes_at far_write (codes "/f") 0 6000 ≡ Ok (answer.Bytes (replicate 5000 0 ++ codes "abc"))
zeros_before = refl

-- reads at and past the end give no bytes
abbrev ten_bytes : Tree
ten_bytes = done (making (codes "/f") ∷ writing (codes "/f") 0 (codes "0123456789") ∷ [])

read_at_end : bytes_at ten_bytes (codes "/f") 10 5 ≡ Ok (answer.Bytes [])
read_at_end = refl

read_past_end : bytes_at ten_bytes (codes "/f") 11 5 ≡ Ok (answer.Bytes [])
read_past_end = refl

read_over_end : bytes_at ten_bytes (codes "/f") 8 5 ≡ Ok (answer.Bytes (codes "89"))
read_over_end = refl

-- a shorter size forgets what is behind it, and a longer one shows zeros there
truncated : bytes_at
    (done (making (codes "/f") ∷ writing (codes "/f") 0 (codes "abcd") ∷ truncating (codes "/f") 2
    ∷ truncating (codes "/f") 5 ∷ []))
    (codes "/f") 0 9
    ≡ Ok (answer.Bytes (codes "ab" ++ 0 ∷ 0 ∷ 0 ∷ []))
truncated = refl

-- ---- directories and renames

-- directories `/a` and `/c`, and a file `/c/x`
abbrev two_dirs : Tree
two_dirs = done (making_dir (codes "/a") ∷ making_dir (codes "/c") ∷ making (codes "/c/x") ∷ [])

below_itself : renaming (codes "/a") (codes "/a/b") two_dirs ≡ Err error.IntoItself
below_itself = refl

onto_names : renaming (codes "/a") (codes "/c") two_dirs ≡ Err error.NotEmpty
onto_names = refl

file_onto_dir : renaming (codes "/c/x") (codes "/a") two_dirs ≡ Err error.IsDir
file_onto_dir = refl

dir_onto_file : renaming (codes "/a") (codes "/c/x") two_dirs ≡ Err error.NotDir
dir_onto_file = refl

onto_itself : renaming (codes "/c") (codes "/c") two_dirs ≡ Ok (answer.Done, two_dirs)
onto_itself = refl

abbrev renamed_dir : Tree
renamed_dir = tree_after two_dirs (renaming (codes "/c") (codes "/d") two_dirs)

renamed_below : at (codes "/d/x") (stat renamed_dir) ≡ Ok (status.File 0)
renamed_below = refl

renamed_gone : at (codes "/c") (stat renamed_dir) ≡ Err error.NotFound
renamed_gone = refl

renamed_gone_below : at (codes "/c/x") (stat renamed_dir) ≡ Err error.NotFound
renamed_gone_below = refl

renamed_names : at (codes "/") (list renamed_dir)
    ≡ Ok (named (codes "a", kind.Directory) ∷ named (codes "d", kind.Directory) ∷ [])
renamed_names = refl

names_of_root : at (codes "/") (stat two_dirs) ≡ Ok (status.Dir 2)
names_of_root = refl

not_empty : removing_dir (codes "/c") two_dirs ≡ Err error.NotEmpty
not_empty = refl

not_a_file : unlinking (codes "/c") two_dirs ≡ Err error.IsDir
not_a_file = refl

emptied : at (codes "/")
    (list (done (making_dir (codes "/a") ∷ making (codes "/a/x") ∷ unlinking (codes "/a/x")
    ∷ removing_dir (codes "/a") ∷ [])))
    ≡ Ok []
emptied = refl

root_stays : removing_dir (codes "/") two_dirs ≡ Err error.BadPath
root_stays = refl

-- ---- paths

create_root : making (codes "/") root_alone ≡ Err error.Exists
create_root = refl

longest_name : reply (making (47 ∷ replicate 255 97) root_alone) ≡ Ok answer.Done
longest_name = refl

longer_name : making (47 ∷ replicate 256 97) root_alone ≡ Err error.BadName
longer_name = refl

doubled_slash : making (codes "/a//b") root_alone ≡ Err error.BadName
doubled_slash = refl

trailing_slash : making (codes "/a/") root_alone ≡ Err error.BadName
trailing_slash = refl

dot : making (codes "/.") root_alone ≡ Err error.BadName
dot = refl

no_slash : making (codes "a") root_alone ≡ Err error.BadPath
no_slash = refl

longer_path : making (47 ∷ replicate 4095 97) root_alone ≡ Err error.BadPath
longer_path = refl

-- `/a/a/..` of 4,095 bytes, whose parents are missing
abbrev names_between : ℕ → List ℕ
names_between zero = []
names_between (suc n) = 97 ∷ 47 ∷ names_between n

missing_parents : making (47 ∷ names_between 2046 ++ codes "aa") root_alone ≡ Err error.NotFound
missing_parents = refl

-- ---- the limit on sizes

one_byte_short : reply (writing (codes "/f") 67108863 (codes "x") (long_file 0)) ≡ Ok (answer.Written 1)
one_byte_short = refl

longest_file : length (overwritten [] 67108863 (codes "x")) ≡ 67108864
longest_file = written_sizes [] 67108863 (codes "x")

past_the_limit : writing (codes "/f") 67108864 (codes "x") (long_file 0) ≡ Err error.TooBig
past_the_limit = refl

no_bytes : writing (codes "/f") 67108864 [] (long_file 0) ≡ Ok (answer.Written 0, long_file 0)
no_bytes = refl

size_past_the_limit : truncating (codes "/f") 67108865 (long_file 0) ≡ Err error.TooBig
size_past_the_limit = refl

-- What file calls have to do with inodes: each call is judged by these as by the tree, and what it does to
-- these is what it does to the tree.
use Rattle.std.specs.Prelude.{◌≡◌, ℕ, Bool, false, ◌+◌, ◌-◌, true, ◌<◌, ◌≤◌, if◌then◌else◌, List, [], ◌∷◌, ◌++◌, length, Some, None, Ok, Err}
use Rattle.nl_types.specs.declared.error.VolError.TheVariants.{Exists, BadPath}
use Rattle.nl_types.specs.declared.reply.Answer.{Answer}
use Rattle.nl_types.specs.declared.reply.Answer.TheVariants as answer
use Rattle.nl_types.specs.declared.kind.Kind.TheVariants as kind
use Rattle.nl_types.specs.declared.reply.Object.{Object}
use Rattle.nl_types.specs.Plain.Limits.{file_limit}
use Rattle.nl_types.specs.Plain.Paths.{Name, Path}
use Rattle.nl_types.specs.Plain.Trees.{Tree, IsTree, insert, remove, move_subtree}
use Rattle.nl_types.specs.Plain.Calls.{Changed, and_then, file_at, create, write, overwritten, truncate, resized, unlink, rmdir, rename, list, stat}
use Rattle.nl_types.specs.Inodes.{Link, Inodes, MeansTree}
use Rattle.nl_types.specs.InodeChanges.{Adds, Refills, Drops, Moves, MovesOnto}
use Rattle.nl_types.specs.Resolving.{IsNamed, resolve}
use Rattle.nl_types.specs.Judging.{Listing, IsListing, bytes_of, has_any, judge_file, judge_create, judge_rmdir, judge_rename, judge_list, judge_stat}

-- ---- calls, judged by inodes

-- reads, writes, truncations and removals of files go by what is judged here
abbrev pub FilesAreJudged : Type 0
FilesAreJudged =
    (inodes : Inodes) (tree : Tree) → MeansTree inodes tree
    → (path : Path) → file_at tree path ≡ judge_file inodes path

abbrev pub CreatesAreJudged : Type 0
CreatesAreJudged =
    (inodes : Inodes) (tree : Tree) → MeansTree inodes tree
    → (object : Object) (dir : Path) (name : Name)
    → create tree object (dir ++ name ∷ [])
    ≡ and_then (judge_create inodes (length tree) dir name) (λ _.
    Ok (answer.Done, insert tree (dir ++ name ∷ []) object))

abbrev pub RmdirsAreJudged : Type 0
RmdirsAreJudged =
    (inodes : Inodes) (tree : Tree) (listing : Listing) → MeansTree inodes tree → IsListing inodes listing
    → (path : Path)
    → rmdir tree path ≡ and_then (judge_rmdir inodes listing path) (λ _. Ok (answer.Done, remove tree path))

-- the tree after a rename that is not refused, which may move nothing
abbrev pub tree_if_moved : Tree → Path → Path → Bool → Tree
tree_if_moved tree from to moves = if moves then move_subtree tree from to else tree

abbrev pub RenamesAreJudged : Type 0
RenamesAreJudged =
    (inodes : Inodes) (tree : Tree) (listing : Listing) → MeansTree inodes tree → IsListing inodes listing
    → (from dir : Path) (name : Name)
    → rename tree from (dir ++ name ∷ [])
    ≡ and_then (judge_rename inodes listing from dir name) (λ moves.
    Ok (answer.Done, tree_if_moved tree from (dir ++ name ∷ []) moves))

abbrev pub ListsAreJudged : Type 0
ListsAreJudged =
    (inodes : Inodes) (tree : Tree) (listing : Listing) → MeansTree inodes tree → IsListing inodes listing
    → (path : Path) → list tree path ≡ judge_list inodes listing path

abbrev pub StatsAreJudged : Type 0
StatsAreJudged =
    (inodes : Inodes) (tree : Tree) (listing : Listing) → MeansTree inodes tree → IsListing inodes listing
    → (path : Path) → stat tree path ≡ judge_stat inodes listing path

-- nothing is made at the root, and nothing moves there
abbrev pub RootIsThere : Type 0
RootIsThere = (tree : Tree) → IsTree tree → (object : Object) → create tree object [] ≡ Err Exists

abbrev pub RootStays : Type 0
RootStays = (tree : Tree) (from : Path) → rename tree from [] ≡ Err BadPath

-- ---- calls that are not refused

-- the call gives the answer, and leaves the tree that the inodes then stand for, with so many paths
pub record LeadsTo (result : Changed) (given : Answer) (new : Inodes) (paths : ℕ) : Type 0 where
  pub tree : Tree
  pub is : result ≡ Ok (given, tree)
  pub means : MeansTree new tree
  pub count : length tree ≡ paths

abbrev pub CreatesLead : Type 0
CreatesLead =
    (old new : Inodes) (tree : Tree) (object : Object) (dir : Path) (name : Name) (parent inode : ℕ)
    → MeansTree old tree → judge_create old (length tree) dir name ≡ Ok parent
    → Adds old new parent name object inode
    → LeadsTo (create tree object (dir ++ name ∷ [])) answer.Done new (length tree + 1)

abbrev pub WritesLead : Type 0
WritesLead =
    (old new : Inodes) (tree : Tree) (offset : ℕ) (bytes : List ℕ) (path : Path) (inode : ℕ)
    → MeansTree old tree → resolve old path ≡ Ok (inode, kind.File)
    → 0 < length bytes → offset + length bytes ≤ file_limit
    → Refills old new inode (overwritten (bytes_of (old inode)) offset bytes)
    → LeadsTo (write tree offset bytes path) (answer.Written (length bytes)) new (length tree)

abbrev pub TruncatesLead : Type 0
TruncatesLead =
    (old new : Inodes) (tree : Tree) (size : ℕ) (path : Path) (inode : ℕ)
    → MeansTree old tree → resolve old path ≡ Ok (inode, kind.File)
    → size ≤ file_limit
    → Refills old new inode (resized (bytes_of (old inode)) size)
    → LeadsTo (truncate tree size path) answer.Done new (length tree)

abbrev pub UnlinksLead : Type 0
UnlinksLead =
    (old new : Inodes) (tree : Tree) (dir : Path) (name : Name) (parent inode : ℕ)
    → MeansTree old tree → IsNamed old dir name parent (Some (inode, kind.File))
    → Drops old new parent name inode
    → LeadsTo (unlink tree (dir ++ name ∷ [])) answer.Done new (length tree - 1)

abbrev pub RmdirsLead : Type 0
RmdirsLead =
    (old new : Inodes) (tree : Tree) (listing : Listing) (dir : Path) (name : Name) (parent inode : ℕ)
    → MeansTree old tree → IsListing old listing → IsNamed old dir name parent (Some (inode, kind.Directory))
    → has_any listing inode ≡ false → Drops old new parent name inode
    → LeadsTo (rmdir tree (dir ++ name ∷ [])) answer.Done new (length tree - 1)

-- what is judged to move has its record, and nothing stands at the place where it goes
abbrev pub RenamesLead : Type 0
RenamesLead =
    (old new : Inodes) (tree : Tree) (listing : Listing)
    (from_dir : Path) (from_name : Name) (to_dir : Path) (to_name : Name) (from to : ℕ) (link : Link)
    → MeansTree old tree → IsListing old listing
    → judge_rename old listing (from_dir ++ from_name ∷ []) to_dir to_name ≡ Ok true
    → IsNamed old from_dir from_name from (Some link) → IsNamed old to_dir to_name to None
    → Moves old new from from_name to to_name link
    → LeadsTo (rename tree (from_dir ++ from_name ∷ []) (to_dir ++ to_name ∷ [])) answer.Done new
    (length tree)

-- the same, where it takes the place of another inode
abbrev pub RenamesOntoLead : Type 0
RenamesOntoLead =
    (old new : Inodes) (tree : Tree) (listing : Listing)
    (from_dir : Path) (from_name : Name) (to_dir : Path) (to_name : Name) (from to : ℕ) (link target : Link)
    → MeansTree old tree → IsListing old listing
    → judge_rename old listing (from_dir ++ from_name ∷ []) to_dir to_name ≡ Ok true
    → IsNamed old from_dir from_name from (Some link) → IsNamed old to_dir to_name to (Some target)
    → MovesOnto old new from from_name to to_name link target.0
    → LeadsTo (rename tree (from_dir ++ from_name ∷ []) (to_dir ++ to_name ∷ [])) answer.Done new
    (length tree - 1)

-- What file calls leave: a tree, and at every path what the call says.
use Rattle.std.specs.Prelude.{◌≡◌, ℕ, ◌+◌, ◌<◌, max, false, if◌then◌else◌, IfOk, List, [], ◌++◌, length, drop, Option, None, Some}
use Rattle.nl_types.specs.declared.reply.Answer.TheVariants as answer
use Rattle.nl_types.specs.declared.reply.Object.{Object}
use Rattle.nl_types.specs.declared.reply.Object.TheVariants.{File}
use Rattle.nl_types.specs.Plain.Paths.{Path, path_of, same_path, is_within}
use Rattle.nl_types.specs.Plain.Trees.{Tree, IsTree, lookup}
use Rattle.nl_types.specs.Plain.Calls as calls
use Rattle.nl_types.specs.Plain.Calls.{Changed, and_then, tree_after, create, mkdir, write, overwritten, truncate, resized, unlink, rmdir, rename}

-- ---- trees

-- the call leaves a tree, within the limits, and keeps the one that there is where it is refused
abbrev pub KeepsTrees : (Tree → Changed) → Type 0
KeepsTrees call = (tree : Tree) → IsTree tree → IsTree (tree_after tree (call tree))

abbrev pub CreatesKeepTrees : Type 0
CreatesKeepTrees = (path : List ℕ) → KeepsTrees (λ tree. and_then (path_of path) (create tree (File [])))

abbrev pub MkdirsKeepTrees : Type 0
MkdirsKeepTrees = (path : List ℕ) → KeepsTrees (λ tree. and_then (path_of path) (mkdir tree))

abbrev pub WritesKeepTrees : Type 0
WritesKeepTrees =
    (path : List ℕ) (offset : ℕ) (bytes : List ℕ)
    → KeepsTrees (λ tree. and_then (path_of path) (write tree offset bytes))

abbrev pub TruncatesKeepTrees : Type 0
TruncatesKeepTrees =
    (path : List ℕ) (size : ℕ) → KeepsTrees (λ tree. and_then (path_of path) (truncate tree size))

abbrev pub UnlinksKeepTrees : Type 0
UnlinksKeepTrees = (path : List ℕ) → KeepsTrees (λ tree. and_then (path_of path) (unlink tree))

abbrev pub RmdirsKeepTrees : Type 0
RmdirsKeepTrees = (path : List ℕ) → KeepsTrees (λ tree. and_then (path_of path) (rmdir tree))

abbrev pub RenamesKeepTrees : Type 0
RenamesKeepTrees =
    (from to : List ℕ)
    → KeepsTrees (λ tree. and_then (path_of from) (λ f. and_then (path_of to) (rename tree f)))

-- ---- what stands at every path

-- what a call that is not refused leaves at every path
abbrev pub LeavesObjects : (Path → Option Object) → Changed → Type 0
LeavesObjects objects changed = IfOk changed (λ done. (q : Path) → lookup done.1 q ≡ objects q)

-- this stands at one path, and at every other what the tree has
abbrev pub with_one : Tree → Path → Option Object → Path → Option Object
with_one tree path object q = if same_path q path then object else lookup tree q

-- Every path that begins with `to` has what the path with `from` in its place had, however deep it is. None
-- begins with `from` any more, and every other path has what it had.
abbrev pub with_moved : Tree → Path → Path → Path → Option Object
with_moved tree from to q =
    if is_within to q then lookup tree (from ++ drop (length to) q)
    else if is_within from q then None
    else lookup tree q

-- a new object stands at its path
abbrev pub CreatesAddOne : Type 0
CreatesAddOne =
    (tree : Tree) (object : Object) (path : Path)
    → LeavesObjects (with_one tree path (Some object)) (create tree object path)

-- a write of at least one byte leaves the new bytes over the old ones, with zeros between
abbrev pub WritesChangeOne : Type 0
WritesChangeOne =
    (tree : Tree) (offset : ℕ) (new old : List ℕ) (path : Path)
    → 0 < length new → lookup tree path ≡ Some (File old)
    → LeavesObjects (with_one tree path (Some (File (overwritten old offset new)))) (write tree offset new path)

-- so the file ends where the new bytes do, if it ended before
abbrev pub WrittenSizes : Type 0
WrittenSizes =
    (old : List ℕ) (offset : ℕ) (new : List ℕ)
    → length (overwritten old offset new) ≡ max (length old) (offset + length new)

-- a write of no bytes changes nothing
abbrev pub EmptyWritesStay : Type 0
EmptyWritesStay =
    (tree : Tree) (offset : ℕ) (path : Path) → tree_after tree (write tree offset [] path) ≡ tree

abbrev pub TruncatesChangeOne : Type 0
TruncatesChangeOne =
    (tree : Tree) (size : ℕ) (old : List ℕ) (path : Path) → lookup tree path ≡ Some (File old)
    → LeavesObjects (with_one tree path (Some (File (resized old size)))) (truncate tree size path)

abbrev pub TruncatedSizes : Type 0
TruncatedSizes = (old : List ℕ) (size : ℕ) → length (resized old size) ≡ size

-- nothing is at the path of a file that was removed
abbrev pub UnlinksRemoveOne : Type 0
UnlinksRemoveOne = (tree : Tree) (path : Path) → LeavesObjects (with_one tree path None) (unlink tree path)

-- nor at that of a directory
abbrev pub RmdirsRemoveOne : Type 0
RmdirsRemoveOne = (tree : Tree) (path : Path) → LeavesObjects (with_one tree path None) (rmdir tree path)

-- a rename moves all that lies below
abbrev pub RenamesMoveSubtree : Type 0
RenamesMoveSubtree =
    (tree : Tree) (from to : Path) → IsTree tree → same_path from to ≡ false
    → LeavesObjects (with_moved tree from to) (rename tree from to)

-- what was below `from` is found below `to`
abbrev pub RenamedIsBelow : Type 0
RenamedIsBelow =
    (tree : Tree) (from to : Path) → IsTree tree
    → IfOk (rename tree from to)
    (λ done. (rest : Path) → lookup done.1 (to ++ rest) ≡ lookup tree (from ++ rest))

-- a rename to the same path changes nothing
abbrev pub RenamesOntoThemselvesStay : Type 0
RenamesOntoThemselvesStay = (tree : Tree) (path : Path) → tree_after tree (rename tree path path) ≡ tree

-- ---- trees and answers

-- two trees with the same look-ups are one
abbrev pub SameLookupsAreOneTree : Type 0
SameLookupsAreOneTree =
    (one other : Tree) → IsTree one → IsTree other
    → ((path : Path) → lookup one path ≡ lookup other path) → one ≡ other

-- a call that is not refused answers no more than that it is done
abbrev pub IsDone : Changed → Type 0
IsDone changed = IfOk changed (λ done. done.0 ≡ answer.Done)

-- the calls that make, resize, remove or move an object answer so
pub record AnswersDone (tree : Tree) (path : Path) : Type 0 where
  pub create : (object : Object) → IsDone (calls.create tree object path)
  pub truncate : (size : ℕ) → IsDone (calls.truncate tree size path)
  pub unlink : IsDone (calls.unlink tree path)
  pub rmdir : IsDone (calls.rmdir tree path)
  pub rename : (to : Path) → IsDone (calls.rename tree path to)

abbrev pub CallsAnswerDone : Type 0
CallsAnswerDone = (tree : Tree) (path : Path) → AnswersDone tree path

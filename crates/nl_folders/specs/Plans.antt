-- The file calls that make one tree another.
use Rattle.std.specs.Prelude.{◌≡◌, ◌⊎◌, ℕ, ◌<◌, false, if◌then◌else◌, IsTrue, List, [], ◌∷◌, ◌++◌, length, is_some, Option, None, Some, Result, Ok}
use Rattle.nl_types.specs.declared.error.VolError.{VolError}
use Rattle.nl_types.specs.declared.event.Change.{Change}
use Rattle.nl_types.specs.declared.event.Change.TheVariants.{Create, Mkdir, Write, Truncate, Unlink, Rmdir, Rename}
use Rattle.nl_types.specs.declared.reply.Object.{Object}
use Rattle.nl_types.specs.declared.reply.Object.TheVariants.{Dir, File}
use Rattle.nl_types.specs.Plain.Paths.{Path, is_within}
use Rattle.nl_types.specs.Plain.Trees.{Tree, IsTree, IsIn, lookup}
use Rattle.nl_types.specs.Plain.Calls.{and_then, change}
use Rattle.nl_folders.specs.Blocks.{IsOfOtherBlocks}
use Rattle.nl_folders.specs.Differences.{same_kind, difference_of}
use Rattle.nl_folders.specs.Spelled.{spelling, IsNameable}

-- ---- calls in order

-- the tree after calls in order, of which the first that is refused ends it
abbrev pub tree_after_all : Tree → List Change → Result Tree VolError
tree_after_all tree [] = Ok tree
tree_after_all tree (call ∷ calls) = and_then (change tree call) (λ done. tree_after_all done.1 calls)

-- the path that a call is on, of a rename the new one
abbrev pub path_in : Change → List ℕ
path_in (Create path) = path
path_in (Mkdir path) = path
path_in (Write path offset bytes) = path
path_in (Truncate path size) = path
path_in (Unlink path) = path
path_in (Rmdir path) = path
path_in (Rename from to) = to

-- the bytes of a file, none where nothing or a directory stands
abbrev pub file_bytes : Option Object → List ℕ
file_bytes None = []
file_bytes (Some Dir) = []
file_bytes (Some (File bytes)) = bytes

-- the call is on a path at which two trees differ, and of a file it writes blocks that differ alone
abbrev pub IsNeededAt : Path → Option Object → Option Object → Change → Type 0
IsNeededAt path old new call =
    (path_in call ≡ spelling path)
    × IsTrue (is_some (difference_of old new))
    × IsOfOtherBlocks (file_bytes old) (file_bytes new) call

abbrev pub IsWhereTheyDiffer : Tree → Tree → Change → Type 0
IsWhereTheyDiffer one other call = (path : Path) × IsNeededAt path (lookup one path) (lookup other path) call

-- each of the calls is
abbrev pub AreWhereTheyDiffer : Tree → Tree → List Change → Type 0
AreWhereTheyDiffer one other [] = Unit {0}
AreWhereTheyDiffer one other (call ∷ calls) =
    IsWhereTheyDiffer one other call × AreWhereTheyDiffer one other calls

-- ---- what moves

-- all that lies at a wanted path or below it stands as it is wanted
abbrev pub StandsAsWanted : (moved wanted : Tree) → List ℕ → Type 0
StandsAsWanted moved wanted bytes =
    (top : Path) × (bytes ≡ spelling top) × IsIn wanted top
    × ((rest : Path) → lookup moved (top ++ rest) ≡ lookup wanted (top ++ rest))

-- In the tree that the moves leave, what a call renames stands as it is wanted. But for new directories each
-- other call is where that tree differs from the wanted one.
abbrev pub KeepsMoved : (moved wanted : Tree) → Change → Type 0
KeepsMoved moved wanted (Mkdir path) = Unit {0}
KeepsMoved moved wanted (Rename from to) = StandsAsWanted moved wanted to
KeepsMoved moved wanted call = IsWhereTheyDiffer moved wanted call

abbrev pub KeepMoved : (moved wanted : Tree) → List Change → Type 0
KeepMoved moved wanted [] = Unit {0}
KeepMoved moved wanted (call ∷ calls) = KeepsMoved moved wanted call × KeepMoved moved wanted calls

-- before anything has moved there is no call
abbrev pub KeepMovedBy : Option Tree → Tree → List Change → Type 0
KeepMovedBy None wanted calls = calls ≡ []
KeepMovedBy (Some moved) wanted calls = IsTree moved × KeepMoved moved wanted calls

-- what has moved stays
abbrev pub StaysMoved : Option Tree → Option Tree → Type 0
StaysMoved None new = Unit {0}
StaysMoved (Some moved) new = new ≡ Some moved

-- ---- how far a plan has come

-- The tree that is there at first and the one that is wanted; once there were calls, the tree in which what
-- has moved stands at its new paths; of the first the entries that were judged, from the last one back, and of
-- the wanted one those that are made, from the first one on.
pub record Progress : Type 0 where
  pub present : Tree
  pub wanted : Tree
  pub moved : Option Tree
  pub judged : Tree
  pub made : Tree

-- nothing has moved yet, nothing is judged and nothing made
abbrev pub begun : Tree → Tree → Progress
begun present wanted =
    record { present = present; wanted = wanted; moved = None; judged = []; made = [] }

-- the tree before anything is judged
abbrev pub settled : Tree → Option Tree → Tree
settled present None = present
settled present (Some moved) = moved

-- a plan, and how many times it can still hand out calls at most
pub record Planning : Type 0 where
  pub progress : Progress
  pub left : ℕ

-- what is left of an object where one is wanted: it goes, unless that is of its kind
abbrev pub left_of : Option Object → Option Object → Option Object
left_of None wanted = None
left_of (Some object) None = None
left_of (Some object) (Some wanted) = if same_kind object wanted then Some object else None

-- what stands at a path by now
abbrev pub standing_at : Progress → Path → Option Object
standing_at p q =
    let moved = settled p.present p.moved in
    if is_some (lookup p.made q) then lookup p.wanted q
    else if is_some (lookup p.judged q) then left_of (lookup moved q) (lookup p.wanted q)
    else lookup moved q

-- the calls that were handed out have made this tree
pub record Reached (p : Progress) (tree : Tree) : Type 0 where
  pub present_tree : IsNameable p.present
  pub wanted_tree : IsNameable p.wanted
  pub is_tree : IsTree tree
  pub objects : (q : Path) → lookup tree q ≡ standing_at p q

-- There are calls. They are done, and make a tree that the plan has come to then. Each is where the two trees
-- differ, and what has moved is kept.
pub record LeadOn (tree : Tree) (old new : Progress) (calls : List Change) : Type 0 where
  pub some : 0 < length calls
  pub next : Tree
  pub done : tree_after_all tree calls ≡ Ok next
  pub reached : Reached new next
  pub differ : AreWhereTheyDiffer old.present old.wanted calls
  pub stays : StaysMoved old.moved new.moved
  pub kept : KeepMovedBy new.moved old.wanted calls

-- what a plan hands out leads on from the tree that it has come to; where it hands out nothing any more, that
-- is the wanted one
abbrev pub GoesOn : Progress → Progress → Option (List Change) → Type 0
GoesOn old new None = (tree : Tree) → Reached old tree → tree ≡ old.wanted
GoesOn old new (Some calls) = (tree : Tree) → Reached old tree → LeadOn tree old new calls

-- ---- a plan as a whole

-- the calls lead from the one tree to the other
abbrev pub PlanReaches : Tree → Tree → List Change → Type 0
PlanReaches present wanted calls =
    IsNameable present → IsNameable wanted → tree_after_all present calls ≡ Ok wanted

-- what moves is renamed, and no other call writes it
abbrev pub PlanKeepsWhatMoves : Tree → List Change → Type 0
PlanKeepsWhatMoves wanted calls = (moved : Tree) × IsTree moved × KeepMoved moved wanted calls

-- the call makes a directory or renames, and writes no byte
abbrev pub IsMove : Change → Type 0
IsMove (Mkdir path) = Unit {0}
IsMove (Rename from to) = Unit {0}
IsMove _ = ⊥

-- the second path neither is the first one nor lies below it
abbrev pub IsOutside : List ℕ → List ℕ → Type 0
IsOutside top path =
    (t p : Path) × (top ≡ spelling t) × (path ≡ spelling p) × (is_within t p ≡ false)

-- no call writes, cuts or removes what another one renames
abbrev pub MovedIsKept : Type 0
MovedIsKept =
    (moved wanted : Tree) (from to : List ℕ) (call : Change) → KeepsMoved moved wanted (Rename from to)
    → KeepsMoved moved wanted call → IsMove call ⊎ IsOutside to (path_in call)

-- of one tree no call can be on a path at which it differs
abbrev pub OneTreeNeedsNoCall : Type 0
OneTreeNeedsNoCall = (tree : Tree) (calls : List Change) → AreWhereTheyDiffer tree tree calls → calls ≡ []

-- the trees that calls and more of them make, one after another
abbrev pub CallsGoOn : Type 0
CallsGoOn =
    (tree : Tree) (calls more : List Change)
    → tree_after_all tree (calls ++ more) ≡ and_then (tree_after_all tree calls) (λ next. tree_after_all next more)

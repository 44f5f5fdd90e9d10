-- What the definitions mean, in words that do not speak of lists of entries.
use Rattle.std.specs.Prelude.{◌≡◌, ◌≢◌, ◌⊎◌, ℕ, ◌<◌, ◌≤◌, false, not, if◌then◌else◌, IsTrue, List, is_some, Some, Ok, Err, IfErr}
use Rattle.std.specs.Ordering.{nat_cmp}
use Rattle.std.specs.FinMap.{find}
use Rattle.nl_types.specs.declared.error.VolError.{VolError}
use Rattle.nl_types.specs.declared.error.VolError.TheVariants.{NoSpace, Fault, Memory}
use Rattle.nl_types.specs.declared.event.Event.{Event}
use Rattle.nl_types.specs.declared.event.Event.TheVariants.{ChangeMode, Expire, Remove, RemoveRange, Unmount}
use Rattle.nl_types.specs.declared.event.Mode.{Mode}
use Rattle.nl_types.specs.declared.event.Change.{Change}
use Rattle.nl_types.specs.declared.event.Change.TheVariants.{Rename}
use Rattle.nl_types.specs.declared.reply.Answer.{Answer}
use Rattle.nl_types.specs.declared.reply.Answer.TheVariants.{Expired, Mount, Removed}
use Rattle.nl_types.specs.declared.reply.Object.{Object}
use Rattle.nl_types.specs.Plain.Paths.{Path, path_of, same_path}
use Rattle.nl_types.specs.Plain.Trees.{Tree, IsTree, lookup, insert}
use Rattle.nl_types.specs.Plain.Calls.{change, tree_after, is_dirtying}
use Rattle.nl_types.specs.Plain.NumberLists.{is_one_of}
use Rattle.nl_types.specs.Plain.Worlds.{World, Copy, IsWorld, Reply, IsDoneUnlessMemory, formatted, step, copy_at}
use Rattle.nl_types.specs.Plain.Runs.{Step, TakesMemory, memory_alone}

-- ---- trees

-- an insert changes what stands at one path
abbrev pub InsertsOne : Type 0
InsertsOne =
    (tree : Tree) (path : Path) (object : Object) (q : Path)
    → lookup (insert tree path object) q ≡ (if same_path q path then Some object else lookup tree q)

-- a path has one spelling
abbrev pub PathsHaveOneSpelling : Type 0
PathsHaveOneSpelling =
    (one other : List ℕ) (path : Path) → path_of one ≡ Ok path → path_of other ≡ Ok path → one ≡ other

-- each change that is not refused leaves a tree
abbrev pub ChangesKeepTrees : Type 0
ChangesKeepTrees =
    (tree : Tree) (c : Change) (answer : Answer) (next : Tree)
    → IsTree tree → change tree c ≡ Ok (answer, next) → IsTree next

-- one that does not count as a change leaves the tree as it was
abbrev pub UncountedChangesStay : Type 0
UncountedChangesStay =
    (tree : Tree) (c : Change) → is_dirtying c ≡ false → tree_after tree (change tree c) ≡ tree

-- a rename counts where its paths differ
abbrev pub RenamesOfTwoPathsCount : Type 0
RenamesOfTwoPathsCount =
    (from to : List ℕ) (f t : Path) → path_of from ≡ Ok f → path_of to ≡ Ok t
    → is_dirtying (Rename from to) ≡ not (same_path f t)

-- ---- worlds

-- a new volume is a world
abbrev pub FormattedIsWorld : Type 0
FormattedIsWorld = (now : ℕ) → IsWorld (formatted now)

-- each event leaves a world
abbrev pub StepsKeepWorlds : Type 0
StepsKeepWorlds =
    (cleaned reply : Reply) (old new : World) (event : Event)
    → IsWorld old → step cleaned old event ≡ (reply, new) → IsWorld new

-- a refused event keeps the world
abbrev pub RefusalKeepsWorld : Type 0
RefusalKeepsWorld =
    (cleaned : Reply) (old new : World) (event : Event) (e : VolError)
    → step cleaned old event ≡ (Err e, new) → new ≡ old

-- ---- copies

-- the event takes checkpoint n out, and answers so
abbrev pub TakesOut : Event → Reply → ℕ → Type 0
TakesOut (Remove m) (Ok answer) n = m ≡ n
TakesOut (RemoveRange first last) (Ok (Removed range)) n = IsTrue (is_one_of range.removed n)
TakesOut (Expire now period) (Ok (Expired gone)) n = IsTrue (is_one_of gone n)
TakesOut _ _ n = ⊥

-- the event gives checkpoint n this mode
abbrev pub ChangesMode : Event → ℕ → Mode → Type 0
ChangesMode (ChangeMode m to) n mode = (m ≡ n) × (mode ≡ to)
ChangesMode _ n mode = ⊥

-- a copy kept before and after has the same tree and stamp, and is minor if it was
abbrev pub CopiesStay : Type 0
CopiesStay =
    (cleaned reply : Reply) (old new : World) (event : Event) (n : ℕ) (before now : Copy)
    → step cleaned old event ≡ (reply, new) → copy_at old n ≡ Some before → copy_at new n ≡ Some now
    → (now.tree ≡ before.tree) × (now.stamp ≡ before.stamp) × (now.minor ≡ before.minor)

-- and the same mode, unless the event changes that
abbrev pub ModesStay : Type 0
ModesStay =
    (cleaned reply : Reply) (old new : World) (event : Event) (n : ℕ) (before now : Copy)
    → step cleaned old event ≡ (reply, new) → copy_at old n ≡ Some before → copy_at new n ≡ Some now
    → (now.mode ≡ before.mode) ⊎ ChangesMode event n now.mode

-- a copy stays kept, unless the event takes it out
abbrev pub CopiesAreKept : Type 0
CopiesAreKept =
    (cleaned reply : Reply) (old new : World) (event : Event) (n : ℕ) (copy : Copy)
    → step cleaned old event ≡ (reply, new) → copy_at old n ≡ Some copy
    → IsTrue (is_some (copy_at new n)) ⊎ TakesOut event reply n

-- ---- mounts

-- the event gives mount m back
abbrev pub GivesBack : Event → ℕ → Type 0
GivesBack (Unmount k) m = k ≡ m
GivesBack _ m = ⊥

-- a mount shows the same checkpoint, until an event gives it back
abbrev pub MountsStay : Type 0
MountsStay =
    (cleaned reply : Reply) (old new : World) (event : Event) (m n : ℕ)
    → step cleaned old event ≡ (reply, new) → find nat_cmp m old.mounts ≡ Some n
    → (find nat_cmp m new.mounts ≡ Some n) ⊎ GivesBack event m

-- a mount that is made has a number above all that were given
abbrev pub MountNumbersAreNew : Type 0
MountNumbersAreNew =
    (cleaned : Reply) (old new : World) (event : Event) (m : ℕ) → (cleaned ≢ Ok (Mount m))
    → step cleaned old event ≡ (Ok (Mount m), new) → (old.given < m) × (new.given ≡ m)

-- and the count of those that were given never falls, so none is given twice
abbrev pub GivenNeverFalls : Type 0
GivenNeverFalls =
    (cleaned reply : Reply) (old new : World) (event : Event)
    → step cleaned old event ≡ (reply, new) → old.given ≤ new.given

-- ---- refusals

-- a refusal that comes of the world: space, faults and memory are no part of it
abbrev pub IsJudged : VolError → Type 0
IsJudged NoSpace = ⊥
IsJudged Fault = ⊥
IsJudged Memory = ⊥
IsJudged _ = Unit {0}

-- what the definitions refuse, they judge by the world
abbrev pub StepsJudge : Type 0
StepsJudge =
    (cleaned : Reply) (w : World) (event : Event)
    → IfErr cleaned IsJudged → IfErr (step cleaned w event).0 IsJudged

-- a body to which only memory is refused takes steps that are allowed
abbrev pub MemoryMayBeRefused : Type 0
MemoryMayBeRefused =
    (cleaned reply : Reply) (old new : World) (event : Event)
    → TakesMemory event → IsDoneUnlessMemory reply new old (step cleaned old event)
    → Step memory_alone cleaned old event reply new

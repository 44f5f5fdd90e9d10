-- The stages of a plan, and what each step leaves of a tree.
use Rattle.std.specs.Prelude.{◌≡◌, ℕ, ◌+◌, ◌-◌, ◌<◌, ◌≤◌, IsTrue, false, List, [], ◌∷◌, length, take, drop, is_some, slice_index_or, Option, None, Some}
use Rattle.std.specs.FinMap.{is_sorted}
use Rattle.nl_types.specs.declared.event.Change.{Change}
use Rattle.nl_types.specs.declared.event.Change.TheVariants.{Unlink, Rmdir, Rename}
use Rattle.nl_types.specs.declared.reply.Object.{Object}
use Rattle.nl_types.specs.declared.reply.Object.TheVariants.{Dir, File}
use Rattle.nl_types.specs.Plain.Paths.{Path, path_cmp}
use Rattle.nl_types.specs.Plain.Trees.{Tree, lookup}
use Rattle.nl_folders.specs.declared.plans.Handed.{Handed}
use Rattle.nl_folders.specs.declared.plans.Place.{Place}
use Rattle.nl_folders.specs.declared.plans.Stage.{Stage}
use Rattle.nl_folders.specs.declared.plans.Stage.TheVariants.{Moving, Clearing, Making}
use Rattle.nl_folders.specs.Differences.{difference_of}
use Rattle.nl_folders.specs.Plans.{IsNeededAt, LeadOn, Progress, Reached, left_of}
use Rattle.nl_folders.specs.Private.Sides.{TwoSides, tree_after_steps}
use Rattle.nl_folders.specs.Spelled.{spelling}

-- the tree once what has moved stands at its new paths
abbrev pub moved_of : TwoSides → Tree
moved_of s = tree_after_steps s.present s.wanted s.steps

-- how far a plan has come
abbrev pub progress_by : TwoSides → Option Tree → (judged made : Tree) → Progress
progress_by s moved judged made =
    record { present = s.present; wanted = s.wanted; moved = moved; judged = judged; made = made }

abbrev pub progress_of : TwoSides → Stage → Progress
progress_of s Moving = progress_by s None [] []
progress_of s (Clearing left) = progress_by s (Some (moved_of s)) (drop left s.present) []
progress_of s (Making done) = progress_by s (Some (moved_of s)) s.present (take done s.wanted)

-- how many steps are left from a stage on, at most
abbrev pub steps_from : TwoSides → Stage → ℕ
steps_from s Moving = 1 + (length s.present + length s.wanted)
steps_from s (Clearing left) = left + length s.wanted
steps_from s (Making done) = length s.wanted - done

-- the stage is at a place of its tree
abbrev pub IsStage : TwoSides → Stage → Type 0
IsStage s Moving = Unit {0}
IsStage s (Clearing left) = left ≤ length s.present
IsStage s (Making done) = done ≤ length s.wanted

-- from the one stage to the other no call is needed
abbrev pub NeedsNoCall : TwoSides → Stage → Stage → Type 0
NeedsNoCall s old new = (tree : Tree) → Reached (progress_of s old) tree → Reached (progress_of s new) tree

-- the calls lead on to their stage
pub record HandsOut (s : TwoSides) (stage : Stage) (handed : Handed) : Type 0 where
  pub leads : (tree : Tree) → Reached (progress_of s stage) tree
      → LeadOn tree (progress_of s stage) (progress_of s handed.stage) handed.calls
  pub is_stage : IsStage s handed.stage
  pub shorter : steps_from s handed.stage < steps_from s stage

abbrev pub IsNoRename : Change → Type 0
IsNoRename (Rename from to) = ⊥
IsNoRename _ = Unit {0}

-- each of the calls is needed at one path, and none renames
abbrev pub AreNeededAt : Path → Option Object → Option Object → List Change → Type 0
AreNeededAt path old new [] = Unit {0}
AreNeededAt path old new (call ∷ calls) =
    (IsNeededAt path old new call × IsNoRename call) × AreNeededAt path old new calls

-- ---- clearing

-- the call that takes an object away
abbrev pub removal_of : Path → Object → Change
removal_of path Dir = Rmdir (spelling path)
removal_of path (File bytes) = Unlink (spelling path)

-- of the kind of the first entry nothing is wanted there
abbrev pub BeginsUnwanted : Tree → Tree → Type 0
BeginsUnwanted wanted [] = ⊥
BeginsUnwanted wanted (e ∷ entries) =
    IsTrue (is_sorted path_cmp wanted) → left_of (Some e.1) (lookup wanted e.0) ≡ None

-- the last entry before a place whose object has to go, and has not moved
pub record IsUnwantedAt (s : TwoSides) (left : ℕ) (place : Place) : Type 0 where
  pub before : place.index < left
  pub kept : NeedsNoCall s (Clearing left) (Clearing (place.index + 1))
  pub stays : IsTrue (is_sorted path_cmp s.wanted) → slice_index_or s.gone place.index false ≡ false
  pub unwanted : BeginsUnwanted s.wanted (drop place.index s.present)

-- ---- making

-- something else stands where the first entry is to stand
abbrev pub BeginsOtherwise : Tree → Tree → Type 0
BeginsOtherwise present [] = ⊥
BeginsOtherwise present (e ∷ entries) =
    IsTrue (is_sorted path_cmp present) → IsTrue (is_some (difference_of (lookup present e.0) (Some e.1)))

-- the first entry from a place on that is yet to be made, and has not come by a step
pub record IsToMakeAt (s : TwoSides) (done : ℕ) (place : Place) : Type 0 where
  pub behind : done ≤ place.index
  pub before : place.index < length s.wanted
  pub kept : NeedsNoCall s (Making done) (Making place.index)
  pub lacks : IsTrue (is_sorted path_cmp s.present) → slice_index_or s.come place.index false ≡ false
  pub otherwise : BeginsOtherwise s.present (drop place.index s.wanted)

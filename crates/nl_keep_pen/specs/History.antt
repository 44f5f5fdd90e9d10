-- Which checkpoints of a list show something else at or below a path than those before them do.
use Rattle.std.specs.Prelude.{◌≡◌, ℕ, IsTrue, Bool, true, false, ◌||◌, if◌then◌else◌, List, [], ◌∷◌, is_some, Option, None, Some, option_and_then}
use Rattle.nl_types.specs.Plain.NumberLists.{is_one_of}
use Rattle.nl_types.specs.Plain.Paths.{Path, is_within}
use Rattle.nl_types.specs.Plain.Worlds.{World, Copy, copy_at}
use Rattle.nl_folders.specs.declared.folder.FolderError.{FolderError}
use Rattle.nl_folders.specs.Refusals.{RefusesTree}
use Rattle.nl_manifests.specs.declared.comparing.HostDifference.{HostDifference}
use Rattle.nl_manifests.specs.declared.host_tree.HostEntry.{HostEntry}
use Rattle.nl_manifests.specs.HostDifferences.{HostDifferences, host_difference_of}
use Rattle.nl_manifests.specs.HostTrees.{shown_at}
use Rattle.nl_keep.specs.Stored.{IsKept}
use Rattle.nl_pins.specs.Trees.{without_pins}

-- ---- what checkpoints show

-- what checkpoint n shows at a path; pins are no part of it
abbrev pub shown_in : World → ℕ → Path → Option HostEntry
shown_in w n path = option_and_then (λ copy. shown_at (without_pins copy.tree) path) (copy_at w n)

-- what differs there from what checkpoint m shows to what checkpoint n does
abbrev pub difference_in : World → (m n : ℕ) → Path → Option HostDifference
difference_in w m n path = host_difference_of (shown_in w m path) (shown_in w n path)

-- something differs at `top` or below it
pub record DifferBelow (w : World) (m n : ℕ) (top : Path) : Type 0 where
  pub path : Path
  pub within : IsTrue (is_within top path)
  pub difference : HostDifference
  pub differs : difference_in w m n path ≡ Some difference

-- nothing does
abbrev pub AgreeBelow : World → (m n : ℕ) → (top : Path) → Type 0
AgreeBelow w m n top = (path : Path) → IsTrue (is_within top path) → difference_in w m n path ≡ None

-- whether one of the differences is at `top` or below it
abbrev pub any_within : (top : Path) → HostDifferences → Bool
any_within top [] = false
any_within top (d ∷ all) = is_within top d.0 || any_within top all

-- ---- lists of checkpoints

-- Whether checkpoint n shows a change: something differs from the one before it. The first one of a list does
-- if it shows anything at `top`.
abbrev pub IsChange : World → (top : Path) → (before : Option ℕ) → (n : ℕ) → (is : Bool) → Type 0
IsChange w top None n is = is_some (shown_in w n top) ≡ is
IsChange w top (Some m) n true = DifferBelow w m n top
IsChange w top (Some m) n false = AgreeBelow w m n top

-- of the numbers these show a change, in order, and no others do
abbrev pub AreChanges : World → (top : Path) → (before : Option ℕ) → (numbers changes : List ℕ) → Type 0
AreChanges w top before [] changes = changes ≡ []
AreChanges w top before (n ∷ numbers) changes =
    (is : Bool) × (rest : List ℕ) × IsChange w top before n is
    × (changes ≡ (if is then n ∷ rest else rest)) × AreChanges w top (Some n) numbers rest

-- there is one list of them
abbrev pub ChangesAreOne : Type 0
ChangesAreOne =
    (w : World) (top : Path) (numbers one other : List ℕ) → AreChanges w top None numbers one
    → AreChanges w top None numbers other → one ≡ other

-- ---- which are kept

abbrev pub AreKept : List ℕ → World → Type 0
AreKept numbers w = (n : ℕ) → IsTrue (is_one_of numbers n) → IsKept n w

-- one of them isn't
pub record LacksOne (numbers : List ℕ) (w : World) : Type 0 where
  pub number : ℕ
  pub is_one : IsTrue (is_one_of numbers number)
  pub missing : copy_at w number ≡ None

-- the tree of one of them is refused so
pub record RefusesOne (numbers : List ℕ) (e : FolderError) (w : World) : Type 0 where
  pub number : ℕ
  pub is_one : IsTrue (is_one_of numbers number)
  pub copy : Copy
  pub kept : copy_at w number ≡ Some copy
  pub refuses : RefusesTree copy.tree e

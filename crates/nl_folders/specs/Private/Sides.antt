-- Two trees side by side, and the steps by which what has moved between them comes to its new paths.
use Rattle.std.specs.Prelude.{◌≡◌, ◌⊎◌, ℕ, ◌+◌, ◌<◌, ◌≤◌, Bool, true, false, ◌||◌, if◌then◌else◌, List, [], ◌∷◌, ◌++◌, length, map, slice_index_or, Option, None, Some, Ok}
use Rattle.std.specs.Result.{result_unwrap_or}
use Rattle.nl_types.specs.declared.event.Change.{Change}
use Rattle.nl_types.specs.declared.event.Change.TheVariants.{Mkdir, Rename}
use Rattle.nl_types.specs.declared.reply.Object.{Object}
use Rattle.nl_types.specs.declared.reply.Object.TheVariants.{Dir}
use Rattle.nl_types.specs.Plain.Limits.{path_limit}
use Rattle.nl_types.specs.Plain.Paths.{Name, Path, same_path, is_within}
use Rattle.nl_types.specs.Plain.Trees.{Tree, IsTree, IsIn, lookup}
use Rattle.nl_folders.specs.declared.sides.Relocation.{Relocation}
use Rattle.nl_folders.specs.declared.sides.Step.{Step}
use Rattle.nl_folders.specs.declared.sides.Step.TheVariants.{Make, Relocate}
use Rattle.nl_folders.specs.Plans.{tree_after_all}
use Rattle.nl_folders.specs.Spelled.{spelling, IsNameable}

-- The two trees, the steps, and flags at the entries of the one that go by them and of the other that come.
pub record TwoSides : Type 0 where
  pub present : Tree
  pub wanted : Tree
  pub steps : List Step
  pub gone : List Bool
  pub come : List Bool

-- the path of an entry
abbrev pub path_at : Tree → ℕ → Path
path_at entries k = (slice_index_or entries k ([], Dir)).0

-- ---- what steps do

-- whether what is wanted at a path comes there by a step: by itself, or with the part that moves there
abbrev pub comes_by : Tree → Step → Path → Bool
comes_by wanted (Make k) q = same_path q (path_at wanted k)
comes_by wanted (Relocate m) q = is_within (path_at wanted m.to) q

-- whether what stands at a path goes with the part that moves away
abbrev pub goes_by : Tree → Step → Path → Bool
goes_by present (Make k) q = false
goes_by present (Relocate m) q = is_within (path_at present m.from) q

abbrev pub has_come : Tree → List Step → Path → Bool
has_come wanted [] q = false
has_come wanted (step ∷ steps) q = comes_by wanted step q || has_come wanted steps q

abbrev pub has_gone : Tree → List Step → Path → Bool
has_gone present [] q = false
has_gone present (step ∷ steps) q = goes_by present step q || has_gone present steps q

-- what stands at a path once the steps are done
abbrev pub object_after : Tree → Tree → List Step → Path → Option Object
object_after present wanted steps q =
    if has_come wanted steps q then lookup wanted q
    else if has_gone present steps q then None
    else lookup present q

abbrev pub call_of : Tree → Tree → Step → Change
call_of present wanted (Make k) = Mkdir (spelling (path_at wanted k))
call_of present wanted (Relocate m) =
    Rename (spelling (path_at present m.from)) (spelling (path_at wanted m.to))

abbrev pub calls_of : Tree → Tree → List Step → List Change
calls_of present wanted steps = map (call_of present wanted) steps

-- the tree after the steps
abbrev pub tree_after_steps : Tree → Tree → List Step → Tree
tree_after_steps present wanted steps =
    result_unwrap_or (tree_after_all present (calls_of present wanted steps)) present

-- the steps are done, and leave a tree with these objects
pub record AreDone (present wanted : Tree) (steps : List Step) : Type 0 where
  pub done : tree_after_all present (calls_of present wanted steps) ≡ Ok (tree_after_steps present wanted steps)
  pub is_tree : IsTree (tree_after_steps present wanted steps)
  pub objects : (q : Path) → lookup (tree_after_steps present wanted steps) q ≡ object_after present wanted steps q
  pub size : length (tree_after_steps present wanted steps) ≤ length present + length steps

-- ---- how steps are chosen

-- the step is at entries of the trees
abbrev pub IsPlaced : Tree → Tree → Step → Type 0
IsPlaced present wanted (Make k) = k < length wanted
IsPlaced present wanted (Relocate m) = (m.from < length present) × (m.to < length wanted)

abbrev pub ArePlaced : Tree → Tree → List Step → Type 0
ArePlaced present wanted [] = Unit {0}
ArePlaced present wanted (step ∷ steps) = IsPlaced present wanted step × ArePlaced present wanted steps

-- a path that one tree alone has
pub record IsAlone (tree other : Tree) (path : Path) : Type 0 where
  pub there : IsIn tree path
  pub lacks : lookup other path ≡ None

-- what goes isn't wanted where it stands, and nothing stands where something comes
abbrev pub IsStep : Tree → Tree → Step → Type 0
IsStep present wanted (Make k) =
    (lookup wanted (path_at wanted k) ≡ Some Dir) × (lookup present (path_at wanted k) ≡ None)
IsStep present wanted (Relocate m) =
    IsAlone present wanted (path_at present m.from) × IsAlone wanted present (path_at wanted m.to)

abbrev pub AreSteps : Tree → Tree → List Step → Type 0
AreSteps present wanted [] = Unit {0}
AreSteps present wanted (step ∷ steps) = IsStep present wanted step × AreSteps present wanted steps

-- the steps are done, one after another, and the flags tell of them
pub record AreChosen (s : TwoSides) : Type 0 where
  pub steps_are : AreSteps s.present s.wanted s.steps
  pub gone : (k : ℕ) → k < length s.present
      → slice_index_or s.gone k false ≡ has_gone s.present s.steps (path_at s.present k)
  pub come : (k : ℕ) → k < length s.wanted
      → slice_index_or s.come k false ≡ has_come s.wanted s.steps (path_at s.wanted k)
  pub done : AreDone s.present s.wanted s.steps

-- so it is of all trees that calls can name
pub record AreMatched (s : TwoSides) : Type 0 where
  pub gone_long : length s.gone ≡ length s.present
  pub come_long : length s.come ≡ length s.wanted
  pub placed : ArePlaced s.present s.wanted s.steps
  pub chosen : IsNameable s.present → IsNameable s.wanted → AreChosen s

-- these entries lie at the path of the first of them or below it, and no others do
pub record IsPart (entries : Tree) (start end : ℕ) : Type 0 where
  pub inside : (k : ℕ) → start ≤ k → k < end → is_within (path_at entries start) (path_at entries k) ≡ true
  pub before : (k : ℕ) → k < start → is_within (path_at entries start) (path_at entries k) ≡ false
  pub behind : (k : ℕ) → end ≤ k → k < length entries
      → is_within (path_at entries start) (path_at entries k) ≡ false

-- no flag is set from one place up to another
abbrev pub AreFree : List Bool → (from to : ℕ) → Type 0
AreFree flags from to = (k : ℕ) → from ≤ k → k < to → slice_index_or flags k false ≡ false

-- the flags from one place up to another are set, and all others stay
pub record SetsFlags (old new : List Bool) (from to : ℕ) : Type 0 where
  pub long : length new ≡ length old
  pub inside : (k : ℕ) → from ≤ k → k < to → slice_index_or new k false ≡ true
  pub before : (k : ℕ) → k < from → slice_index_or new k false ≡ slice_index_or old k false
  pub behind : (k : ℕ) → to ≤ k → slice_index_or new k false ≡ slice_index_or old k false

-- the directory above a path stands, or comes by a step
abbrev pub HasDirectoryAbove : TwoSides → Path → Type 0
HasDirectoryAbove s path =
    (dir : Path) (name : Name) → dir ++ name ∷ [] ≡ path
    → (lookup s.present dir ≡ Some Dir)
    ⊎ ((k : ℕ) × (k < length s.wanted) × (path_at s.wanted k ≡ dir) × (slice_index_or s.come k false ≡ true))

-- a part stands alike in both trees
pub record IsMovable (present wanted : Tree) (m : Relocation) : Type 0 where
  pub is_step : IsStep present wanted (Relocate m)
  pub part_gone : IsPart present m.from (m.from + m.count)
  pub part_come : IsPart wanted m.to (m.to + m.count)
  pub alike : (rest : Path)
      → lookup present (path_at present m.from ++ rest) ≡ lookup wanted (path_at wanted m.to ++ rest)

-- and can move
pub record MayMove (s : TwoSides) (m : Relocation) : Type 0 where
  pub movable : IsMovable s.present s.wanted m
  pub free_gone : AreFree s.gone m.from (m.from + m.count)
  pub free_come : AreFree s.come m.to (m.to + m.count)
  pub above : HasDirectoryAbove s (path_at s.wanted m.to)

-- a directory can be made
pub record MayMake (s : TwoSides) (k : ℕ) : Type 0 where
  pub is_step : IsStep s.present s.wanted (Make k)
  pub free : slice_index_or s.come k false ≡ false
  pub room : length s.present + length s.steps ≤ path_limit
  pub above : HasDirectoryAbove s (path_at s.wanted k)

-- What is judged of each kept checkpoint.
use Rattle.std.specs.Prelude.{◌≡◌, ℕ, ◌*◌, ◌<◌, Bool, true, false, cond, List, length, Option, None, Some, IfSome}
use Rattle.std.specs.Option.{IsSome, is_some, option_map}
use Rattle.nl_types.specs.declared.kind.Kind.{Kind}
use Rattle.nl_types.specs.Blocks.Roots.{Pages}
use Rattle.nl_layout.specs.Root.{root_of, root_told}
use Rattle.nl_layout.specs.declared.checkpoint_entry.CheckpointEntry.{CheckpointEntry}
use Rattle.nl_vstore.specs.Periods.{Periods}
use Rattle.nl_check.specs.Conditions.{HasExactPeriods, IsSoundShape, IsSoundTree, Told}
use Rattle.nl_check.specs.Periods.{AreOfPeriods}
use Rattle.nl_check.specs.Private.Naming.{awaited_count}
use Rattle.nl_check.specs.Private.Walks.{IsGood}
use Rattle.nl_check.specs.declared.conditions.ImageCondition.{ImageCondition}
use Rattle.nl_check.specs.declared.conditions.ImageCondition.TheVariants as condition
use Rattle.nl_check.specs.declared.checks.Judged.{Judged}
use Rattle.nl_check.specs.declared.checks.Last.{Last}
use Rattle.nl_check.specs.declared.checks.Verdict.{Verdict}
use Rattle.nl_check.specs.declared.shape.Walk.{Walk}

-- what an entry of the checkpoint file tells of its checkpoint
abbrev pub told : CheckpointEntry → Told
told c =
    record {
      number = c.number;
      root = option_map root_of (root_told c.root);
      size = c.size;
      inodes = c.inodes;
    }

-- all inodes are sound, and the entry tells the size of the file of inodes and how many inodes are in use
pub record TellsTree (kinds : List (Option Kind)) (walk : Walk) (entry : CheckpointEntry) : Type 0 where
  pub sound : walk.sound ≡ true
  pub size : entry.size ≡ 1024 * walk.count
  pub inodes : entry.inodes ≡ awaited_count kinds

-- A checkpoint has its shape. Whether it meets the other conditions is known where all before it do.
pub record IsJudged (pages : Pages) (periods : Periods) (c : Told) (before now : Judged) : Type 0 where
  pub shape : IsSoundShape pages c
  pub trees : now.trees ≡ true → (before.trees ≡ true) × IsSoundTree pages c
  pub no_tree : now.trees ≡ false → before.trees ≡ true → IsSoundTree pages c → ⊥
  pub exact : now.periods ≡ true → (before.periods ≡ true) × HasExactPeriods pages periods c
  pub not_exact : now.periods ≡ false → before.periods ≡ true → HasExactPeriods pages periods c → ⊥

-- What is known of the checkpoint judged last: it is met. Where all so far meet the other conditions, so does
-- it, and the kinds of its inodes are told.
pub record IsLast (pages : Pages) (periods : Periods) (numbers : List Bool) (kinds : List (Option Kind))
    (judged : Judged) (last : Last) : Type 0 where
  pub good : IsGood pages (told last.entry) numbers kinds judged.trees
  pub exact : judged.periods ≡ true → AreOfPeriods periods last.entry.number numbers

abbrev pub KnowsLast : Pages → Periods → List Bool → List (Option Kind) → Judged → Type 0
KnowsLast pages periods numbers kinds judged = IfSome judged.last (IsLast pages periods numbers kinds judged)

-- a checkpoint is judged, and is the last one now
pub record IsJudgedLast (pages : Pages) (periods : Periods) (entry : CheckpointEntry) (before : Judged)
    (numbers : List Bool) (kinds : List (Option Kind)) (now : Judged) : Type 0 where
  pub judged : IsJudged pages periods (told entry) before now
  pub last : KnowsLast pages periods numbers kinds now

-- a number in use has both a page and a period, and a place in a table
pub record HasRoom (pages : Pages) (periods : Periods) (numbers : List Bool) : Type 0 where
  pub within : (v : ℕ) → IsSome (pages v) → v < length numbers
  pub each : (v : ℕ) → is_some (pages v) ≡ is_some (periods v)

-- two checkpoints have one file of inodes, and one size and count are told of it
pub record IsAlike (one other : CheckpointEntry) : Type 0 where
  pub root : one.root ≡ other.root
  pub size : one.size ≡ other.size
  pub inodes : one.inodes ≡ other.inodes

-- the first condition that fails by what is told of all of them
abbrev pub fault_told : Option Verdict → Option ImageCondition
fault_told None = Some condition.Shapes
fault_told (Some verdict) = cond verdict.trees (cond verdict.periods None (Some condition.Periods)) (Some condition.Trees)

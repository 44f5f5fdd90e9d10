-- The kept checkpoints.
use Rattle.std.specs.Prelude.{ℕ, ◌<◌, ◌≤◌, ◌==◌, Bool, not, if◌then◌else◌, List, [], ◌∷◌, ◌++◌, map, length, Option}
use Rattle.std.specs.List.{AllByRecursion, filter}
use Rattle.std.specs.FinMap.{find}
use Rattle.std.specs.Ordering.{nat_cmp}
use Rattle.nl_types.specs.declared.event.Mode.{Mode}
use Rattle.nl_types.specs.declared.row.Row.{Row}
use Rattle.nl_types.specs.Plain.Limits.{checkpoint_number_limit}
use Rattle.nl_types.specs.Plain.CheckpointLaws.{removed_by}
use Rattle.nl_types.specs.Plain.NumberLists.{is_one_of}
use Rattle.nl_types.specs.Plain.Rows.{is_snapshot, range_removal}
use Rattle.nl_layout.specs.declared.root.Root.{Root}
use Rattle.nl_cpfile.specs.declared.checkpoint.Checkpoint.{Checkpoint}
use Rattle.nl_cpfile.specs.declared.table.Cpstat.{Cpstat}

-- the latest checkpoint stands apart, so that there is one
pub record Table : Type 0 where
  pub earlier : List Checkpoint
  pub latest : Checkpoint

-- all of them, ascending
abbrev pub all : Table → List Checkpoint
all t = t.earlier ++ t.latest ∷ []

-- the root of a checkpoint's file of inodes
abbrev pub checkpoint_root : Checkpoint → Root
checkpoint_root c = c.root

-- a checkpoint under its number
abbrev pub by_number : Checkpoint → ℕ × Checkpoint
by_number c = (c.number, c)

abbrev pub kept_at : ℕ → Table → Option Checkpoint
kept_at n t = find nat_cmp n (map by_number (all t))

abbrev pub checkpoint_row : Checkpoint → Row
checkpoint_row c =
    record { number = c.number; stamp = c.stamp; mode = c.mode; minor = c.minor; inodes = c.inodes }

abbrev pub rows_of : List Checkpoint → List Row
rows_of kept = map checkpoint_row kept

abbrev pub rows : Table → List Row
rows t = rows_of (all t)

abbrev pub kept_numbers : List Checkpoint → List ℕ
kept_numbers kept = map (λ (c : Checkpoint). c.number) kept

abbrev pub cpstat_of : Table → Cpstat
cpstat_of t = record {
  latest = t.latest.number;
  count = length (all t);
  snapshots = length (filter (λ c. is_snapshot c.mode) (all t));
}

-- ---- what is true of every table

-- a checkpoint has a greater number than those before it, and no lower stamp
pub record Precedes (a b : Checkpoint) : Type 0 where
  pub number : a.number < b.number
  pub stamp : a.stamp ≤ b.stamp

abbrev pub IsRising : List Checkpoint → Type 0
IsRising [] = Unit {0}
IsRising (c ∷ kept) = AllByRecursion (Precedes c) kept × IsRising kept

-- all numbers lie below the limit, since the latest one does
pub record IsTable (t : Table) : Type 0 where
  pub rising : IsRising (all t)
  pub limit : t.latest.number < checkpoint_number_limit

-- ---- changes

-- a checkpoint that can be kept behind those of a table
pub record ComesNext (c : Checkpoint) (t : Table) : Type 0 where
  pub follows : Precedes t.latest c
  pub limit : c.number < checkpoint_number_limit

abbrev pub with_next : Checkpoint → Table → Table
with_next c t = record { earlier = all t; latest = c }

abbrev pub moded : ℕ → Mode → Checkpoint → Checkpoint
moded n mode c = if c.number == n then record c { mode = mode } else c

-- the table, with this mode at a number
abbrev pub with_mode : ℕ → Mode → Table → Table
with_mode n mode t = record { earlier = map (moded n mode) t.earlier; latest = moded n mode t.latest }

abbrev pub is_kept_without : List ℕ → Checkpoint → Bool
is_kept_without gone c = not (is_one_of gone c.number)

-- the table without earlier checkpoints of some numbers
abbrev pub without : List ℕ → Table → Table
without gone t = record t { earlier = filter (is_kept_without gone) t.earlier }

-- the numbers that the removal of a range takes out, none where it is refused
abbrev pub range_in : (first last : ℕ) → Table → List ℕ
range_in first last t = removed_by (range_removal first last t.latest.number (rows t))

-- the table with the latest checkpoint alone
abbrev pub with_latest_alone : Table → Table
with_latest_alone t = record t { earlier = [] }

-- ---- the table, and the room for more

pub record RoomyTable : Type 0 where
  pub table : Table
  -- for how many more checkpoints there is room
  pub room : ℕ

-- a list of checkpoints, and the room for more behind it
pub record RoomyList : Type 0 where
  pub items : List Checkpoint
  pub room : ℕ

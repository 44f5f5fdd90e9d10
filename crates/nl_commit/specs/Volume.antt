-- What a pen holds in memory.
use Rattle.std.specs.Prelude.{◌≡◌, ℕ, ◌+◌, ◌-◌, ◌||◌, ◌&&◌, ◌==◌, max, not, if◌then◌else◌, Bool, false, true, List, [], ◌∷◌, ◌++◌, map, Result, Ok, Err}
use Rattle.std.specs.List.{filter}
use Rattle.nl_types.specs.Plain.Calls.{is_dirtying}
use Rattle.nl_types.specs.declared.error.VolError.{VolError}
use Rattle.nl_types.specs.declared.error.VolError.TheVariants.{Memory}
use Rattle.nl_types.specs.declared.event.Change.{Change}
use Rattle.nl_types.specs.declared.event.Mode.{Mode}
use Rattle.nl_types.specs.declared.event.Mode.TheVariants.{Plain}
use Rattle.nl_types.specs.declared.reply.Answer.{Answer}
use Rattle.nl_types.specs.declared.reply.Answer.TheVariants.{Expired, Removed}
use Rattle.nl_types.specs.declared.row.Range.{Range}
use Rattle.nl_types.specs.declared.row.Row.{Row}
use Rattle.nl_types.specs.Plain.CheckpointLaws.{removed_by}
use Rattle.nl_types.specs.Plain.Protection.{boundary}
use Rattle.nl_types.specs.Plain.NumberLists.{is_one_of}
use Rattle.nl_types.specs.Plain.Rows.{kept_row, range_removal}
use Rattle.nl_types.specs.Plain.Worlds.{is_given_up, is_mounted, is_moving}
use Rattle.nl_layout.specs.declared.root.Root.{Root}
use Rattle.nl_cpfile.specs.Tables.{Table, all, checkpoint_root, rows, with_latest_alone, with_mode, with_next, without}
use Rattle.nl_cpfile.specs.declared.checkpoint.Checkpoint.{Checkpoint}
use Rattle.nl_tree.specs.Became.{Current}
use Rattle.nl_commit.specs.declared.mounts.Mounted.{Mounted}

-- what the tables hold in memory, as lists: without capacities and pointers
pub record Lists : Type 0 where
  -- the current tree over the latest checkpoint
  pub current : Current
  pub dirty : Bool
  -- the kept checkpoints
  pub table : Table
  pub mounts : List Mounted
  -- how many mount numbers were given
  pub given : ℕ

abbrev pub kept_by : Lists → List Checkpoint
kept_by l = all l.table

-- the root of the latest checkpoint
abbrev pub latest_root : Lists → Root
latest_root l = checkpoint_root l.table.latest

abbrev pub mount_of : Mounted → ℕ × ℕ
mount_of m = (m.number, m.checkpoint)

-- ---- a change of the current tree

-- the lists with another current tree, once a change is done
abbrev pub with_change : Change → Current → Lists → Lists
with_change change current l = record l { current = current; dirty = l.dirty || is_dirtying change }

-- ---- a mount

-- the lists with one more mount, which has the next number
abbrev pub with_mount : ℕ → Lists → Lists
with_mount checkpoint l = record l {
  mounts = l.mounts ++ record { number = l.given + 1; checkpoint = checkpoint } ∷ [];
  given = l.given + 1;
}

abbrev pub is_other_mount : ℕ → Mounted → Bool
is_other_mount m mounted = not (mounted.number == m)

-- the lists without a mount
abbrev pub without_mount : ℕ → Lists → Lists
without_mount m l = record l { mounts = filter (is_other_mount m) l.mounts }

-- the lists without mounts
abbrev pub without_mounts : Lists → Lists
without_mounts l = record l { mounts = [] }

-- ---- kept checkpoints

-- whether what is told of a checkpoint is that of a mounted snapshot, which can't be made plain
abbrev pub is_held : (mounted : Bool) → Mode → Result Row VolError → Bool
is_held mounted mode (Ok row) = is_given_up row.mode mode && mounted
is_held mounted mode (Err e) = false

abbrev pub is_held_at : ℕ → Mode → Lists → Bool
is_held_at n mode l = is_held (is_mounted (map mount_of l.mounts) n) mode (kept_row n (rows l.table))

-- the lists, with this mode at the checkpoint of a number
abbrev pub with_checkpoint_mode : ℕ → Mode → Lists → Lists
with_checkpoint_mode n mode l = record l { table = with_mode n mode l.table }

-- the lists without earlier checkpoints of some numbers
abbrev pub without_checkpoints : List ℕ → Lists → Lists
without_checkpoints gone l = record l { table = without gone l.table }

-- earlier checkpoints of these numbers are gone, the latest one stays, and nothing else changes
pub record IsTakenOut (gone : List ℕ) (old new : Lists) : Type 0 where
  pub stays : is_one_of gone old.table.latest.number ≡ false
  pub lists : new ≡ without_checkpoints gone old

-- those of a range are gone that may go
pub record IsTakenOutOf (first last : ℕ) (range : Range) (old new : Lists) : Type 0 where
  pub judged : range_removal first last old.table.latest.number (rows old.table) ≡ Ok range
  pub taken : IsTakenOut range.removed old new

-- and the answer tells what became of each
abbrev pub IsTakenOutRange : (first last : ℕ) → Answer → Lists → Lists → Type 0
IsTakenOutRange first last (Removed range) old new = IsTakenOutOf first last range old new
IsTakenOutRange first last answer old new = ⊥

-- ---- an expiry

-- the least number that the period protects, or else the latest one
abbrev pub boundary_in : Table → (now period : ℕ) → ℕ
boundary_in t now period = boundary now period t.latest.number (rows t)

-- what an expiry takes out: what the removal of all numbers below the boundary does
abbrev pub gone_from : Table → (now period : ℕ) → List ℕ
gone_from t now period = removed_by (range_removal 1 (boundary_in t now period - 1) t.latest.number (rows t))

abbrev pub is_memory : VolError → Bool
is_memory Memory = true
is_memory _ = false

-- these are gone, and the answer tells them
pub record IsExpiredTo (now period : ℕ) (gone : List ℕ) (old new : Lists) : Type 0 where
  pub expired : gone ≡ gone_from old.table now period
  pub taken : IsTakenOut gone old new

abbrev pub IsExpired : (now period : ℕ) → Answer → Lists → Lists → Type 0
IsExpired now period (Expired gone) old new = IsExpiredTo now period gone old new
IsExpired now period answer old new = ⊥

-- ---- a checkpoint

-- the checkpoint that comes next, with this root: it has the paths of the current tree
abbrev pub next_checkpoint : Mode → ℕ → Root → Lists → Checkpoint
next_checkpoint mode moment root l = record {
  number = l.table.latest.number + 1;
  mode = mode;
  minor = false;
  stamp = max moment l.table.latest.stamp;
  root = root;
  inodes = l.current.names + 1;
}

-- the lists behind a checkpoint, from which nothing differs yet
abbrev pub published : Checkpoint → Lists → Lists
published checkpoint l = record l {
  current = record l.current { became = [] };
  dirty = false;
  table = with_next checkpoint l.table;
}

-- ---- a minor checkpoint

-- the latest checkpoint once more, as the volume makes it by itself: plain, under the next number, and with a
-- stamp that does not fall
abbrev pub minor_checkpoint : (moment : ℕ) → Lists → Checkpoint
minor_checkpoint moment l = record l.table.latest {
  number = l.table.latest.number + 1;
  mode = Plain;
  minor = true;
  stamp = max moment l.table.latest.stamp;
}

-- the lists behind it: the current tree and the dirty mark stay
abbrev pub with_minor : (moment : ℕ) → Lists → Lists
with_minor moment l = record l { table = with_next (minor_checkpoint moment l) l.table }

-- the lists behind a move, which makes one where it moved blocks
abbrev pub moved_lists : (moment : ℕ) → Answer → Lists → Lists
moved_lists moment answer l = if is_moving (Ok answer) then with_minor moment l else l

-- the lists with the latest checkpoint alone
abbrev pub latest_alone : Lists → Lists
latest_alone l = record l { table = with_latest_alone l.table }

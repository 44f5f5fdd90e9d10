-- A volume as its users see it: a current tree, whole copies of earlier trees, and mounts of these; and what
-- each event answers and leaves.
use Rattle.std.specs.Prelude.{◌≡◌, ◌≢◌, ℕ, ◌+◌, max, ◌==◌, Bool, true, false, ◌&&◌, ◌||◌, not, if◌then◌else◌, nat_lt, nat_le, IsTrue, List, [], ◌∷◌, ◌++◌, map, length, is_some, Option, Some, Result, Ok, Err, MatchResult}
use Rattle.std.specs.Option.{ok_or, option_map, option_map_or, ForSome}
use Rattle.std.specs.List.{filter, list_all}
use Rattle.std.specs.Ordering.{nat_cmp}
use Rattle.std.specs.FinMap.{find, is_sorted}
use Rattle.nl_types.specs.declared.error.VolError.{VolError}
use Rattle.nl_types.specs.declared.error.VolError.TheVariants as error
use Rattle.nl_types.specs.declared.event.Ask.{Ask}
use Rattle.nl_types.specs.declared.event.Change.{Change}
use Rattle.nl_types.specs.declared.event.Mode.{Mode}
use Rattle.nl_types.specs.declared.event.Mode.TheVariants.{Plain, Snapshot}
use Rattle.nl_types.specs.declared.event.Event.{Event}
use Rattle.nl_types.specs.declared.event.Event.TheVariants as event
use Rattle.nl_types.specs.declared.reply.Answer.{Answer}
use Rattle.nl_types.specs.declared.reply.Answer.TheVariants as answer
use Rattle.nl_types.specs.declared.row.Row.{Row}
use Rattle.nl_types.specs.Plain.Limits.{checkpoint_number_limit, mount_number_limit}
use Rattle.nl_types.specs.Plain.Trees.{Tree, IsTree, root_alone}
use Rattle.nl_types.specs.Plain.NumberLists.{is_one_of}
use Rattle.nl_types.specs.Plain.Rows.{is_snapshot, kept_row, removal, range_removal, listing}
use Rattle.nl_types.specs.Plain.Protection.{boundary, expired}
use Rattle.nl_types.specs.Plain.Calls.{and_then, change, is_dirtying, reply_to}

-- what an event answers, or its refusal
abbrev pub Reply : Type 0
Reply = Result Answer VolError

-- a kept checkpoint: a whole copy of a tree
pub record Copy : Type 0 where
  pub tree : Tree
  pub mode : Mode
  -- whether the volume made it by itself
  pub minor : Bool
  pub stamp : ℕ

-- the copies and mounts ascend by their numbers
pub record World : Type 0 where
  pub tree : Tree
  -- whether the current tree may differ from the latest copy
  pub dirty : Bool
  pub copies : List (ℕ × Copy)
  -- each mount's checkpoint
  pub mounts : List (ℕ × ℕ)
  -- how many mount numbers were given
  pub given : ℕ

-- a new volume: checkpoint 1 has the root alone
abbrev pub formatted : ℕ → World
formatted now = record {
  tree = root_alone;
  dirty = false;
  copies = (1, record { tree = root_alone; mode = Plain; minor = false; stamp = now }) ∷ [];
  mounts = [];
  given = 0;
}

abbrev pub copy_at : World → ℕ → Option Copy
copy_at w n = find nat_cmp n w.copies

abbrev pub greatest : List ℕ → ℕ
greatest [] = 0
greatest (n ∷ ns) = max n (greatest ns)

abbrev pub numbers : List (ℕ × Copy) → List ℕ
numbers copies = map (λ c. c.0) copies

-- the latest checkpoint's number
abbrev pub latest : World → ℕ
latest w = greatest (numbers w.copies)

-- the stamp of the copy with the greatest number, 0 where there is none
abbrev pub greatest_stamp : List (ℕ × Copy) → ℕ
greatest_stamp copies = option_map_or (λ copy. copy.stamp) (find nat_cmp (greatest (numbers copies)) copies) 0

abbrev pub latest_stamp : World → ℕ
latest_stamp w = greatest_stamp w.copies

-- what is told of a copy: in its tree the root is counted too
abbrev pub copy_row : ℕ × Copy → Row
copy_row c = record {
  number = c.0;
  stamp = c.1.stamp;
  mode = c.1.mode;
  minor = c.1.minor;
  inodes = length c.1.tree;
}

-- what is told of the kept copies, by which they are judged
abbrev pub rows : World → List Row
rows w = map copy_row w.copies

-- ---- changes of copies and mounts

-- the copy of a number, with this mode where that is n
abbrev pub moded : (n : ℕ) → Mode → (number : ℕ) → Copy → Copy
moded n mode number copy = if number == n then record copy { mode = mode } else copy

-- the copies, with this mode at a number
abbrev pub copies_with_mode : ℕ → Mode → List (ℕ × Copy) → List (ℕ × Copy)
copies_with_mode n mode copies = map (λ c. (c.0, moded n mode c.0 c.1)) copies

-- the copies without those of some numbers
abbrev pub copies_without : List ℕ → List (ℕ × Copy) → List (ℕ × Copy)
copies_without gone copies = filter (λ c. not (is_one_of gone c.0)) copies

-- the mounts without that of a number
abbrev pub mounts_without : ℕ → List (ℕ × ℕ) → List (ℕ × ℕ)
mounts_without m mounts = filter (λ e. not (e.0 == m)) mounts

-- whether a mount shows this checkpoint
abbrev pub is_mounted : List (ℕ × ℕ) → ℕ → Bool
is_mounted [] n = false
is_mounted (mount ∷ mounts) n = mount.1 == n || is_mounted mounts n

-- whether a snapshot becomes plain
abbrev pub is_given_up : (old new : Mode) → Bool
is_given_up old new = is_snapshot old && not (is_snapshot new)

-- ---- events

abbrev pub Outcome : Type 0
Outcome = Reply × World

-- a judgement's refusal keeps the world
abbrev pub either : {A : Type 0} → World → Result A VolError → (A → Outcome) → Outcome
either w (Ok a) next = next a
either w (Err e) next = (Err e, w)

abbrev pub refused_if : Bool → VolError → World → Outcome → Outcome
refused_if test e w next = if test then (Err e, w) else next

abbrev pub apply_change : World → Change → Outcome
apply_change w c =
    either w (change w.tree c) (λ done.
    (Ok done.0, record w { tree = done.1; dirty = w.dirty || is_dirtying c }))

-- the current tree is copied under the next number, with a stamp that is not below the latest one
abbrev pub checkpoint : World → Mode → ℕ → Outcome
checkpoint w mode now =
    let n = latest w + 1 in
    let stamp = max now (latest_stamp w) in
    let copy : Copy = record { tree = w.tree; mode = mode; minor = false; stamp = stamp } in
    refused_if (nat_le checkpoint_number_limit n) error.NumbersSpent w (
    (Ok (answer.Checkpoint n), record w { dirty = false; copies = w.copies ++ (n, copy) ∷ [] }))

-- whether blocks were moved
abbrev pub is_moving : Reply → Bool
is_moving (Ok (answer.Moved moved left)) = not (moved == 0)
is_moving (Ok other) = false
is_moving (Err e) = false

-- the latest copy once more, as the volume makes it by itself
abbrev pub minor_copy : World → (now : ℕ) → Copy → Copy
minor_copy w now copy = record copy { mode = Plain; minor = true; stamp = max now (latest_stamp w) }

abbrev pub minor_copies : World → (now : ℕ) → List (ℕ × Copy)
minor_copies w now =
    option_map_or (λ copy. (latest w + 1, minor_copy w now copy) ∷ []) (copy_at w (latest w)) []

-- it is kept under the next number
abbrev pub with_minor : World → (now : ℕ) → World
with_minor w now = record w { copies = w.copies ++ minor_copies w now }

-- a move that takes blocks keeps the latest copy once more; the current tree and the dirty mark stay
abbrev pub move_blocks : (cleaned : Reply) → World → (now : ℕ) → Outcome
move_blocks cleaned w now =
    if is_moving cleaned
    then refused_if (nat_le checkpoint_number_limit (latest w + 1)) error.NumbersSpent w
    (cleaned, with_minor w now)
    else (cleaned, w)

-- a mounted snapshot stays one
abbrev pub change_mode : World → ℕ → Mode → Outcome
change_mode w n mode =
    either w (kept_row n (rows w)) (λ row.
    refused_if (is_given_up row.mode mode && is_mounted w.mounts n) error.Mounted w (
    (Ok answer.Done, record w { copies = copies_with_mode n mode w.copies })))

-- a mounted copy is a snapshot, and stays, so mounts are as they were
abbrev pub take_out : List ℕ → World → World
take_out gone w = record w { copies = copies_without gone w.copies }

abbrev pub remove : World → ℕ → Outcome
remove w n = either w (removal n (latest w) (rows w)) (λ _. (Ok answer.Done, take_out (n ∷ []) w))

abbrev pub remove_range : World → (first last : ℕ) → Outcome
remove_range w first last =
    either w (range_removal first last (latest w) (rows w)) (λ range.
    (Ok (answer.Removed range), take_out range.removed w))

-- the least number of a copy that the period protects, or else the latest number
abbrev pub boundary_of : World → (now period : ℕ) → ℕ
boundary_of w now period = boundary now period (latest w) (rows w)

-- the plain copies below the boundary go, but for the latest one
abbrev pub expiry_of : World → (now period : ℕ) → List ℕ
expiry_of w now period = expired (boundary_of w now period) (latest w) (rows w)

abbrev pub expire : World → (now period : ℕ) → Outcome
expire w now period =
    let gone = expiry_of w now period in
    (Ok (answer.Expired gone), take_out gone w)

abbrev pub kept_copy : World → ℕ → Result Copy VolError
kept_copy w n = ok_or (copy_at w n) error.NoCheckpoint

abbrev pub mount : World → ℕ → Outcome
mount w n =
    let m = w.given + 1 in
    either w (kept_copy w n) (λ copy.
    refused_if (not (is_snapshot copy.mode)) error.NotSnapshot w (
    refused_if (nat_le mount_number_limit m) error.NumbersSpent w (
    (Ok (answer.Mount m), record w { mounts = w.mounts ++ (m, n) ∷ []; given = m }))))

abbrev pub mounted : World → ℕ → Result ℕ VolError
mounted w m = ok_or (find nat_cmp m w.mounts) error.BadMount

abbrev pub unmount : World → ℕ → Outcome
unmount w m =
    either w (mounted w m) (λ _.
    (Ok answer.Done, record w { mounts = mounts_without m w.mounts }))

-- the copy that a mount shows
abbrev pub mounted_copy : World → ℕ → Result Copy VolError
mounted_copy w m = and_then (mounted w m) (λ n. ok_or (copy_at w n) error.BadMount)

abbrev pub mount_read : World → ℕ → Ask → Reply
mount_read w m a = and_then (mounted_copy w m) (λ copy. reply_to copy.tree a)

-- The reply to an event, and the world after it. `cleaned` is what a move, a retirement or a resize answers
-- by the blocks that it moves, frees or adds, of which a world knows nothing.
abbrev pub step : (cleaned : Reply) → World → Event → Outcome
step cleaned w (event.Apply c) = apply_change w c
step cleaned w (event.Read a) = (reply_to w.tree a, w)
step cleaned w (event.Checkpoint mode now) = checkpoint w mode now
step cleaned w (event.ChangeMode n mode) = change_mode w n mode
step cleaned w (event.Remove n) = remove w n
step cleaned w (event.RemoveRange first last) = remove_range w first last
step cleaned w (event.Expire now period) = expire w now period
step cleaned w (event.Move segment limit now) = move_blocks cleaned w now
step cleaned w (event.Retire segment) = (cleaned, w)
step cleaned w (event.Resize segments) = (cleaned, w)
step cleaned w (event.Mount n) = mount w n
step cleaned w (event.Unmount m) = unmount w m
step cleaned w (event.MountRead m a) = (mount_read w m a, w)
step cleaned w (event.Listing options) = (Ok (answer.Rows (listing options (rows w))), w)

-- ---- what is true of every world

-- stamps never fall
abbrev pub are_stamps_rising : List (ℕ × Copy) → Bool
are_stamps_rising [] = true
are_stamps_rising (c ∷ copies) = list_all (λ d. nat_le c.1.stamp d.1.stamp) copies && are_stamps_rising copies

pub record IsWorld (w : World) : Type 0 where
  pub tree : IsTree w.tree
  pub trees : (n : ℕ) → ForSome (copy_at w n) (λ copy. IsTree copy.tree)
  -- a clean current tree is the latest copy's
  pub clean : w.dirty ≡ false → option_map (λ copy. copy.tree) (copy_at w (latest w)) ≡ Some w.tree
  pub numbers_rise : IsTrue (is_sorted nat_cmp w.copies)
  -- a checkpoint is always kept, and numbers are 1 to 2^64 - 2
  pub latest_kept : IsTrue (is_some (copy_at w (latest w)))
  pub numbers_fit : IsTrue (list_all (λ c. nat_lt 0 c.0 && nat_lt c.0 checkpoint_number_limit) w.copies)
  -- no later copy has a lower stamp
  pub stamps_rise : IsTrue (are_stamps_rising w.copies)
  pub mounts_rise : IsTrue (is_sorted nat_cmp w.mounts)
  -- each mount number was given, so none comes twice
  pub mounts_given : IsTrue (list_all (λ m. nat_lt 0 m.0 && nat_le m.0 w.given) w.mounts)
  pub given_fits : IsTrue (nat_lt w.given mount_number_limit)
  -- a mounted copy is kept, and a snapshot
  pub mounted : (m n : ℕ)
      → find nat_cmp m w.mounts ≡ Some n → option_map (λ copy. copy.mode) (copy_at w n) ≡ Some Snapshot

-- ---- how code meets these

-- the event is done as expected, unless memory ran out; then the world is the old one
abbrev pub IsDoneUnlessMemory : Reply → World → World → Outcome → Type 0
IsDoneUnlessMemory reply new old expected =
    MatchResult reply
    (λ answer. expected ≡ (Ok answer, new))
    (λ e. (new ≡ old) × ((e ≢ error.Memory) → expected ≡ (Err e, old)))

-- What moves, changes of modes, removals, expiries, unmounts and listings do, in words that do not speak of
-- how copies are listed.
use Rattle.std.specs.Prelude.{◌≡◌, ◌≢◌, ℕ, ◌+◌, ◌-◌, ◌≤◌, ◌==◌, Bool, true, false, ◌&&◌, ◌||◌, not, if◌then◌else◌, nat_le, nat_lt, IsTrue, List, [], ◌∷◌, map, take, Option, None, Some, Result, Ok, Err}
use Rattle.nl_types.specs.declared.error.VolError.{VolError}
use Rattle.std.specs.Option.{option_map, option_map_or}
use Rattle.std.specs.List.{list_all}
use Rattle.std.specs.Ordering.{nat_cmp}
use Rattle.std.specs.FinMap.{find}
use Rattle.nl_types.specs.declared.event.Event.TheVariants.{ChangeMode, Expire, Move, Remove, RemoveRange, Unmount}
use Rattle.nl_types.specs.declared.event.Mode.{Mode}
use Rattle.nl_types.specs.declared.reply.Answer.{Answer}
use Rattle.nl_types.specs.declared.reply.Answer.TheVariants.{Done, Expired, Removed}
use Rattle.nl_types.specs.declared.row.ListOptions.{ListOptions}
use Rattle.nl_types.specs.declared.row.Range.{Range}
use Rattle.nl_types.specs.declared.row.Row.{Row}
use Rattle.nl_types.specs.Plain.NumberLists.{is_one_of}
use Rattle.nl_types.specs.Plain.Rows.{is_snapshot, find_row, is_shown, in_direction, listing, range_removal, with_mode, without}
use Rattle.nl_types.specs.Plain.Worlds.{World, Copy, IsWorld, Reply, step, boundary_of, copy_at, expiry_of, is_moving, latest, minor_copy, copy_row, rows, take_out, copies_with_mode}
use Rattle.nl_types.specs.Plain.Runs.{Run}

-- what there is, if it passes the test
abbrev pub where_passes : {X : Type 0} → (X → Bool) → Option X → Option X
where_passes test None = None
where_passes test (Some x) = if test x then Some x else None

-- ---- minor copies

-- there is one copy more, under the next number: the latest one once more, plain and minor, with the raised
-- stamp
pub record MakesMinor (now : ℕ) (old new : World) : Type 0 where
  pub made : copy_at new (latest old + 1) ≡ option_map (minor_copy old now) (copy_at old (latest old))
  pub others : (n : ℕ) → n ≢ latest old + 1 → copy_at new n ≡ copy_at old n
  pub tree : new.tree ≡ old.tree
  pub dirty : new.dirty ≡ old.dirty
  pub mounts : new.mounts ≡ old.mounts
  pub given : new.given ≡ old.given

-- a move that is not refused and took blocks makes one
abbrev pub MovesMakeMinors : Type 0
MovesMakeMinors =
    (cleaned : Reply) (old new : World) (segment limit now : ℕ) (answer : Answer) → IsWorld old
    → is_moving cleaned ≡ true → step cleaned old (Move segment limit now) ≡ (Ok answer, new)
    → MakesMinor now old new

-- and one that took none changes nothing
abbrev pub IdleMovesStay : Type 0
IdleMovesStay =
    (cleaned reply : Reply) (old new : World) (segment limit now : ℕ)
    → is_moving cleaned ≡ false → step cleaned old (Move segment limit now) ≡ (reply, new) → new ≡ old

-- ---- modes

-- a change of a mode that is not refused gives it
abbrev pub ModesAreSet : Type 0
ModesAreSet =
    (cleaned : Reply) (old new : World) (n : ℕ) (mode : Mode) (answer : Answer)
    → step cleaned old (ChangeMode n mode) ≡ (Ok answer, new)
    → option_map (λ copy. copy.mode) (copy_at new n) ≡ Some mode

-- ---- removals

-- a removal that is not refused takes out one copy
abbrev pub RemovalsTakeOne : Type 0
RemovalsTakeOne =
    (cleaned : Reply) (old new : World) (n : ℕ) (answer : Answer)
    → step cleaned old (Remove n) ≡ (Ok answer, new)
    → (k : ℕ) → copy_at new k ≡ (if k == n then None else copy_at old k)

-- a plain copy between two numbers that is not the latest one
abbrev pub is_removable : World → (first last n : ℕ) → Copy → Bool
is_removable w first last n copy =
    (nat_le first n && nat_le n last) && not (is_snapshot copy.mode || n == latest w)

-- the removal of a range takes out exactly these
abbrev pub RangesTakeRemovable : Type 0
RangesTakeRemovable =
    (cleaned : Reply) (old new : World) (first last : ℕ) (range : Range)
    → IsWorld old → step cleaned old (RemoveRange first last) ≡ (Ok (Removed range), new)
    → (n : ℕ) → copy_at new n
    ≡ where_passes (λ copy. not (is_removable old first last n copy)) (copy_at old n)

-- and answers exactly their numbers
abbrev pub RangesAnswerRemovable : Type 0
RangesAnswerRemovable =
    (cleaned : Reply) (old new : World) (first last : ℕ) (range : Range)
    → IsWorld old → step cleaned old (RemoveRange first last) ≡ (Ok (Removed range), new)
    → (n : ℕ)
    → is_one_of range.removed n ≡ option_map_or (is_removable old first last n) (copy_at old n) false

-- it is the removal of each number that it answers, one after another, and none of these is refused
abbrev pub RangesAreRemovals : Type 0
RangesAreRemovals =
    (cleaned : Reply) (old new : World) (first last : ℕ) (range : Range)
    → IsWorld old → step cleaned old (RemoveRange first last) ≡ (Ok (Removed range), new)
    → Run (λ before event reply after. step cleaned before event ≡ (reply, after))
    old (map Remove range.removed) (map (λ _. Ok Done) range.removed) new

-- ---- expiries

-- the copy was made less than the period before the moment, or after it
abbrev pub is_protected_at : World → (now period n : ℕ) → Bool
is_protected_at w now period n = option_map_or (λ copy. nat_lt now (copy.stamp + period)) (copy_at w n) false

-- where the period protects copies, it is the least number of these, and else the latest number
pub record IsBoundary (w : World) (now period b : ℕ) : Type 0 where
  pub protects : (n : ℕ) → IsTrue (is_protected_at w now period n)
      → IsTrue (is_protected_at w now period b) × (b ≤ n)
  pub falls_back : ((n : ℕ) → is_protected_at w now period n ≡ false) → b ≡ latest w

abbrev pub BoundariesAreLeastProtected : Type 0
BoundariesAreLeastProtected =
    (w : World) (now period : ℕ) → IsWorld w → IsBoundary w now period (boundary_of w now period)

-- a plain copy below the boundary that is not the latest one
abbrev pub is_expiring : World → (now period n : ℕ) → Copy → Bool
is_expiring w now period n copy =
    nat_lt n (boundary_of w now period) && not (is_snapshot copy.mode || n == latest w)

-- an expiry takes out exactly these
abbrev pub ExpiriesTakeExpiring : Type 0
ExpiriesTakeExpiring =
    (cleaned : Reply) (old new : World) (now period : ℕ) (gone : List ℕ)
    → IsWorld old → step cleaned old (Expire now period) ≡ (Ok (Expired gone), new)
    → (n : ℕ) → copy_at new n ≡ where_passes (λ copy. not (is_expiring old now period n copy)) (copy_at old n)

-- and answers exactly their numbers
abbrev pub ExpiriesAnswerExpiring : Type 0
ExpiriesAnswerExpiring =
    (cleaned : Reply) (old new : World) (now period : ℕ) (gone : List ℕ)
    → IsWorld old → step cleaned old (Expire now period) ≡ (Ok (Expired gone), new)
    → (n : ℕ) → is_one_of gone n ≡ option_map_or (is_expiring old now period n) (copy_at old n) false

-- what the removal of a range takes out: nothing where it is refused
abbrev pub removed_by : Result Range VolError → List ℕ
removed_by (Ok range) = range.removed
removed_by (Err e) = []

-- it takes out what the removal of all numbers below the boundary does, and is not refused where that is
abbrev pub ExpiriesAreRemovals : Type 0
ExpiriesAreRemovals =
    (w : World) (now period : ℕ) → IsWorld w
    → expiry_of w now period ≡ removed_by (range_removal 1 (boundary_of w now period - 1) (latest w) (rows w))

-- ---- mounts

-- an unmount that is not refused takes out one mount
abbrev pub UnmountsTakeOne : Type 0
UnmountsTakeOne =
    (cleaned : Reply) (old new : World) (m : ℕ) (answer : Answer)
    → step cleaned old (Unmount m) ≡ (Ok answer, new)
    → (k : ℕ) → find nat_cmp k new.mounts ≡ (if k == m then None else find nat_cmp k old.mounts)

-- ---- listings

-- there is a row of each copy
abbrev pub RowsTellOfCopies : Type 0
RowsTellOfCopies =
    (w : World) (n : ℕ) → find_row n (rows w) ≡ option_map (λ copy. copy_row (n, copy)) (copy_at w n)

-- rows change as copies do
abbrev pub RowsFollowRemovals : Type 0
RowsFollowRemovals = (w : World) (gone : List ℕ) → rows (take_out gone w) ≡ without gone (rows w)

abbrev pub RowsFollowModes : Type 0
RowsFollowModes =
    (w : World) (n : ℕ) (mode : Mode)
    → rows (record w { copies = copies_with_mode n mode w.copies }) ≡ with_mode n mode (rows w)

-- where it is not said how many, a listing shows a row exactly where it is selected
abbrev pub ListingsShowSelected : Type 0
ListingsShowSelected =
    (w : World) (options : ListOptions) (n : ℕ) → IsWorld w → options.count ≡ None
    → find_row n (listing options (rows w)) ≡ where_passes (is_shown options) (find_row n (rows w))

-- each row has a smaller number than all later ones
abbrev pub are_numbers_rising : List Row → Bool
are_numbers_rising [] = true
are_numbers_rising (row ∷ rows) =
    list_all (λ later. nat_lt row.number later.number) rows && are_numbers_rising rows

-- and its numbers rise, or fall where it is reversed
abbrev pub ListingsAreInOrder : Type 0
ListingsAreInOrder =
    (w : World) (options : ListOptions) → IsWorld w → options.count ≡ None
    → IsTrue (are_numbers_rising (in_direction options.reverse (listing options (rows w))))

-- where it is said how many, it shows as many of these, from the first one on
abbrev pub ListingsEndAtCount : Type 0
ListingsEndAtCount =
    (w : World) (options : ListOptions) (count : ℕ) → options.count ≡ Some count
    → listing options (rows w) ≡ take count (listing (record options { count = None }) (rows w))

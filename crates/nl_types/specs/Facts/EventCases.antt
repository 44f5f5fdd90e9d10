-- What holds of the outcome of each event, case by case, holds of every step.
use Rattle.std.proofs.Common.{◌≡◌, ℕ, ◌+◌, max, Bool, true, false, cond, not, ◌&&◌, ◌||◌, [], ◌∷◌, ◌++◌, Some, Result, Ok, Err, refl, sym, subst, leb}
use Rattle.std.specs.Prelude.{IfOk}
use Rattle.nl_types.specs.declared.error.VolError.{VolError}
use Rattle.nl_types.specs.declared.error.VolError.TheVariants as error
use Rattle.nl_types.specs.declared.event.Change.{Change}
use Rattle.nl_types.specs.declared.event.Event.{Event}
use Rattle.nl_types.specs.declared.event.Event.TheVariants as event
use Rattle.nl_types.specs.declared.event.Mode.{Mode}
use Rattle.nl_types.specs.declared.reply.Answer.{Answer}
use Rattle.nl_types.specs.declared.reply.Answer.TheVariants as answer
use Rattle.nl_types.specs.declared.row.Range.{Range}
use Rattle.nl_types.specs.declared.row.Row.{Row}
use Rattle.nl_types.specs.Plain.Limits.{checkpoint_number_limit, mount_number_limit}
use Rattle.nl_types.specs.Plain.Trees.{Tree}
use Rattle.nl_types.specs.Plain.Calls.{change, is_dirtying, reply_to}
use Rattle.nl_types.specs.Plain.Rows.{is_snapshot, kept_row, removal, range_removal, listing}
use Rattle.nl_types.specs.Plain.Worlds.{World, Copy, Reply, Outcome, copy_at, latest, latest_stamp, rows, copies_with_mode, mounts_without, is_given_up, is_mounted, take_out, either, refused_if, is_moving, with_minor, expiry_of, kept_copy, mounted, mounted_copy, mount_read, step}
use Rattle.nl_types.specs.Facts.Judgements.{and_then_any, ok_or_is}
use Rattle.nl_types.specs.Facts.ChangeLaws.{IsNoMount, reply_gives_no_mount}
use Rattle.nl_types.specs.Facts.ToldCopies.{IsTold, kept_row-told, MayBecome, MayGo, removal-may_go, range_of, range_removal-is}

-- ---- judgements

-- what holds of a refusal, and of what a judgement goes on to, holds of the outcome
pub either_gives : {A : Type 0} (Q : Outcome → Type 0) (w : World) (r : Result A VolError)
    (next : A → Outcome)
    → ((e : VolError) → Q (Err e, w)) → ((a : A) → r ≡ Ok a → Q (next a)) → Q (either w r next)
either_gives Q w (Ok a) next refused rest = rest a refl
either_gives Q w (Err e) next refused rest = refused e

-- the same of a refusal by a test
pub refused_if_gives : (Q : Outcome → Type 0) (test : Bool) (e : VolError) (w : World) (next : Outcome)
    → ((e : VolError) → Q (Err e, w)) → (test ≡ false → Q next) → Q (refused_if test e w next)
refused_if_gives Q true e w next refused rest = refused e
refused_if_gives Q false e w next refused rest = rest refl

-- ---- what events leave that are not refused

abbrev pub after_change : World → Change → Tree → World
after_change w c tree = record w { tree = tree; dirty = w.dirty || is_dirtying c }

-- the copy that a checkpoint makes
abbrev pub new_copy : World → Mode → ℕ → Copy
new_copy w mode now = record { tree = w.tree; mode = mode; minor = false; stamp = max now (latest_stamp w) }

abbrev pub after_checkpoint : World → Copy → World
after_checkpoint w copy = record w { dirty = false; copies = w.copies ++ (latest w + 1, copy) ∷ [] }

abbrev pub after_mode : World → ℕ → Mode → World
after_mode w n mode = record w { copies = copies_with_mode n mode w.copies }

abbrev pub after_mount : World → ℕ → World
after_mount w n = record w { mounts = w.mounts ++ (w.given + 1, n) ∷ []; given = w.given + 1 }

abbrev pub after_unmount : World → ℕ → World
after_unmount w m = record w { mounts = mounts_without m w.mounts }

-- ---- each event

pub record EachEvent (cleaned : Reply) (P : Event → Outcome → Type 0) (w : World) : Type 0 where
  -- a refusal, or a call that only reads
  pub stays : (asked : Event) (reply : Reply) → IfOk reply IsNoMount → P asked (reply, w)
  -- an event that only moves, frees or adds blocks, and of which a world tells nothing
  pub cleans : (asked : Event) → P asked (cleaned, w)
  pub changed : (c : Change) (done : Answer × Tree) → change w.tree c ≡ Ok done
      → P (event.Apply c) (Ok done.0, after_change w c done.1)
  pub copied : (mode : Mode) (now : ℕ) → leb checkpoint_number_limit (latest w + 1) ≡ false
      → P (event.Checkpoint mode now)
      (Ok (answer.Checkpoint (latest w + 1)), after_checkpoint w (new_copy w mode now))
  pub minored : (segment limit now : ℕ) → leb checkpoint_number_limit (latest w + 1) ≡ false
      → P (event.Move segment limit now) (cleaned, with_minor w now)
  pub moded : (n : ℕ) (mode : Mode) → MayBecome w n mode
      → P (event.ChangeMode n mode) (Ok answer.Done, after_mode w n mode)
  pub removed : (n : ℕ) → MayGo w n → P (event.Remove n) (Ok answer.Done, take_out (n ∷ []) w)
  pub ranged : (first last : ℕ)
      → P (event.RemoveRange first last)
      (Ok (answer.Removed (range_of w first last)), take_out (range_of w first last).removed w)
  pub expired : (now period : ℕ)
      → P (event.Expire now period)
      (Ok (answer.Expired (expiry_of w now period)), take_out (expiry_of w now period) w)
  pub mounted : (n : ℕ) (copy : Copy) → copy_at w n ≡ Some copy → not (is_snapshot copy.mode) ≡ false
      → leb mount_number_limit (w.given + 1) ≡ false
      → P (event.Mount n) (Ok (answer.Mount (w.given + 1)), after_mount w n)
  pub unmounted : (m : ℕ) → P (event.Unmount m) (Ok answer.Done, after_unmount w m)

module _ (cleaned : Reply) (P : Event → Outcome → Type 0) (w : World) (each : EachEvent cleaned P w) where
  refused : (asked : Event) (e : VolError) → P asked (Err e, w)
  refused asked e = each.stays asked (Err e) tt

  mode_judged : (n : ℕ) (mode : Mode) (row : Row) → kept_row n (rows w) ≡ Ok row
      → (is_given_up row.mode mode && is_mounted w.mounts n) ≡ false
      → P (event.ChangeMode n mode) (Ok answer.Done, after_mode w n mode)
  mode_judged n mode row is allowed =
      let told : IsTold w n row = subst (λ r. IfOk r (IsTold w n)) is (kept_row-told w n) in
      each.moded n mode (record {
        copy = told.copy;
        kept = told.kept;
        allowed =
            subst
            (λ (r : Row). (is_given_up r.mode mode && is_mounted w.mounts n) ≡ false) told.row_is allowed;
      })

  range_judged : (first last : ℕ) (range : Range) → range_removal first last (latest w) (rows w) ≡ Ok range
      → P (event.RemoveRange first last) (Ok (answer.Removed range), take_out range.removed w)
  range_judged first last range is =
      let same : range ≡ range_of w first last =
      subst (λ r. IfOk r (λ g. g ≡ range_of w first last)) is (range_removal-is w first last) in
      subst (λ (g : Range). P (event.RemoveRange first last) (Ok (answer.Removed g), take_out g.removed w))
      (sym same) (each.ranged first last)

  move_gives : (segment limit now : ℕ) (b : Bool)
      → P (event.Move segment limit now)
      (cond b (refused_if (leb checkpoint_number_limit (latest w + 1)) error.NumbersSpent w
      (cleaned, with_minor w now))
      (cleaned, w))
  move_gives segment limit now true =
      refused_if_gives (P (event.Move segment limit now))
      (leb checkpoint_number_limit (latest w + 1)) error.NumbersSpent w _
      (refused (event.Move segment limit now)) (each.minored segment limit now)
  move_gives segment limit now false = each.cleans (event.Move segment limit now)

  pub step_gives : (asked : Event) → P asked (step cleaned w asked)
  step_gives (event.Apply c) =
      either_gives (P (event.Apply c)) w (change w.tree c) _ (refused (event.Apply c)) (each.changed c)
  step_gives (event.Read a) = each.stays (event.Read a) (reply_to w.tree a) (reply_gives_no_mount w.tree a)
  step_gives (event.Checkpoint mode now) =
      refused_if_gives (P (event.Checkpoint mode now))
      (leb checkpoint_number_limit (latest w + 1)) error.NumbersSpent w _
      (refused (event.Checkpoint mode now)) (each.copied mode now)
  step_gives (event.ChangeMode n mode) =
      either_gives (P (event.ChangeMode n mode)) w (kept_row n (rows w)) _ (refused (event.ChangeMode n mode))
      (λ row is.
      refused_if_gives (P (event.ChangeMode n mode))
      (is_given_up row.mode mode && is_mounted w.mounts n) error.Mounted w _
      (refused (event.ChangeMode n mode)) (mode_judged n mode row is))
  step_gives (event.Remove n) =
      either_gives (P (event.Remove n)) w (removal n (latest w) (rows w)) _ (refused (event.Remove n))
      (λ _ is.
      each.removed n (subst (λ r. IfOk r (λ _. MayGo w n)) is (removal-may_go w n)))
  step_gives (event.RemoveRange first last) =
      either_gives (P (event.RemoveRange first last)) w (range_removal first last (latest w) (rows w)) _
      (refused (event.RemoveRange first last)) (range_judged first last)
  step_gives (event.Expire now period) = each.expired now period
  step_gives (event.Move segment limit now) = move_gives segment limit now (is_moving cleaned)
  step_gives (event.Retire segment) = each.cleans (event.Retire segment)
  step_gives (event.Resize segments) = each.cleans (event.Resize segments)
  step_gives (event.Mount n) =
      either_gives (P (event.Mount n)) w (kept_copy w n) _ (refused (event.Mount n)) (λ copy found.
      refused_if_gives (P (event.Mount n)) (not (is_snapshot copy.mode)) error.NotSnapshot w _
      (refused (event.Mount n)) (λ snapshot.
      let there =
      subst (λ r. IfOk r (λ c. copy_at w n ≡ Some c)) found (ok_or_is (copy_at w n) error.NoCheckpoint) in
      refused_if_gives (P (event.Mount n)) (leb mount_number_limit (w.given + 1)) error.NumbersSpent w _
      (refused (event.Mount n)) (each.mounted n copy there snapshot)))
  step_gives (event.Unmount m) =
      either_gives (P (event.Unmount m)) w (mounted w m) _ (refused (event.Unmount m))
      (λ _ _. each.unmounted m)
  step_gives (event.MountRead m a) =
      each.stays (event.MountRead m a) (mount_read w m a)
      (and_then_any IsNoMount (mounted_copy w m) _ (λ copy. reply_gives_no_mount copy.tree a))
  step_gives (event.Listing options) =
      each.stays (event.Listing options) (Ok (answer.Rows (listing options (rows w)))) tt

-- The definitions judge by the world alone: they refuse nothing for space, a fault or memory.
use Rattle.std.proofs.Common.{ℕ, ◌+◌, Bool, true, false, cond, List, [], ◌∷◌, ◌++◌, length, Option, Some, None, Result, Ok, Err, is_some}
use Rattle.std.specs.Prelude.{◌==◌, ◌&&◌, ◌||◌, nat_lt, nat_le, not, IfErr}
use Rattle.std.specs.List.{list_all, list_any, slice_split}
use Rattle.std.specs.Ordering.{nat_cmp}
use Rattle.std.specs.FinMap.{find}
use Rattle.std.specs.Option.{option_or, ok_or}
use Rattle.nl_types.specs.declared.error.VolError.{VolError}
use Rattle.nl_types.specs.declared.error.VolError.TheVariants as error
use Rattle.nl_types.specs.declared.event.Ask.{Ask}
use Rattle.nl_types.specs.declared.event.Ask.TheVariants as ask
use Rattle.nl_types.specs.declared.event.Change.{Change}
use Rattle.nl_types.specs.declared.event.Change.TheVariants.{Create, Mkdir, Write, Truncate, Unlink, Rmdir, Rename}
use Rattle.nl_types.specs.declared.event.Event.TheVariants as event
use Rattle.nl_types.specs.declared.reply.Answer.TheVariants as answer
use Rattle.nl_types.specs.declared.reply.Object.{Object}
use Rattle.nl_types.specs.declared.reply.Object.TheVariants.{Dir, File}
use Rattle.nl_types.specs.Plain.Limits.{file_limit, path_limit, checkpoint_number_limit, mount_number_limit}
use Rattle.nl_types.specs.Plain.Paths.{Path, path_of, same_path, names_of, is_name}
use Rattle.nl_types.specs.Plain.Trees.{Tree, lookup, insert, remove, move_subtree}
use Rattle.nl_types.specs.Plain.Calls.{Changed, and_then, refuse_if, ok_unless, stops_walk, stop_from, walk, object_at, file_at, file_in, dir_at, dir_in, is_root, is_dir, is_above, has_names, overwritten, resized, create, write, truncate, unlink, rmdir, may_replace, rename, change, list, stat, reply_to}
use Rattle.nl_types.specs.declared.row.Range.{Range}
use Rattle.nl_types.specs.declared.row.Row.{Row}
use Rattle.nl_types.specs.Plain.Rows.{is_snapshot, find_row, kept_row, reason_to_stay, removal, is_between, rows_between, judged_range, is_no_range, range_removal}
use Rattle.nl_types.specs.Plain.Worlds.{World, Outcome, copy_at, latest, rows, is_given_up, is_mounted, is_moving, with_minor, either, refused_if, kept_copy, mounted, mounted_copy}
use Rattle.nl_types.specs.Plain.Laws.{IsJudged, StepsJudge}

-- ---- judgements, one after another

and_then_judges : {A B : Type 0} (r : Result A VolError) (next : A → Result B VolError) → IfErr r IsJudged
    → ((a : A) → IfErr (next a) IsJudged) → IfErr (and_then r next) IsJudged
and_then_judges (Ok a) next here rest = rest a
and_then_judges (Err e) next here rest = here

refuse_if_judges : {A : Type 0} (test : Bool) (e : VolError) (next : Result A VolError) → IsJudged e
    → IfErr next IsJudged → IfErr (refuse_if test e next) IsJudged
refuse_if_judges true e next here rest = here
refuse_if_judges false e next here rest = rest

ok_or_judges : {A : Type 0} (o : Option A) (e : VolError) → IsJudged e → IfErr (ok_or o e) IsJudged
ok_or_judges None e here = here
ok_or_judges (Some a) e here = tt

-- ---- file calls

path_judges : (bytes : List ℕ) → IfErr (path_of bytes) IsJudged
path_judges [] = tt
path_judges (b ∷ bytes) =
    elim (b == 47 && nat_lt (length bytes) 4095) as (λ t.
    IfErr (cond {A = Result Path VolError} t (names_of bytes) (Err error.BadPath)) IsJudged) [
      | true ↦ named
      | false ↦ tt
    ]
  where
    names : Path
    names = slice_split (λ c. c == 47) bytes

    named : IfErr (names_of bytes) IsJudged
    named =
        elim (length bytes == 0) as (λ t.
        IfErr (cond {A = Result Path VolError} t (Ok [])
        (cond (list_all is_name names) (Ok names) (Err error.BadName)))
        IsJudged) [
          | true ↦ tt
          | false ↦
              elim (list_all is_name names) as (λ t.
              IfErr (cond {A = Result Path VolError} t (Ok names) (Err error.BadName)) IsJudged) [
                | true ↦ tt
                | false ↦ tt
              ]
        ]

-- where the walk goes on, it is judged later
stops_judge : (found : Option Object) (later : Option VolError) → IfErr (ok_unless later) IsJudged
    → IfErr (ok_unless (option_or (stops_walk found) later)) IsJudged
stops_judge None later rest = tt
stops_judge (Some (File bytes)) later rest = tt
stops_judge (Some Dir) later rest = rest

stop_judges : (tree : Tree) (at names : Path) → IfErr (ok_unless (stop_from tree at names)) IsJudged
stop_judges tree at [] = tt
stop_judges tree at (name ∷ names) =
    stops_judge (lookup tree at) (stop_from tree (at ++ name ∷ []) names)
    (stop_judges tree (at ++ name ∷ []) names)

object_judges : (tree : Tree) (path : Path) → IfErr (object_at tree path) IsJudged
object_judges tree path =
    and_then_judges (walk tree path) _ (stop_judges tree [] path)
    (λ _. ok_or_judges (lookup tree path) error.NotFound tt)

file_judges : (tree : Tree) (path : Path) → IfErr (file_at tree path) IsJudged
file_judges tree path = and_then_judges (object_at tree path) file_in (object_judges tree path) by
  where
    by : (object : Object) → IfErr (file_in object) IsJudged
    by Dir = tt
    by (File bytes) = tt

dir_judges : (tree : Tree) (path : Path) → IfErr (dir_at tree path) IsJudged
dir_judges tree path = and_then_judges (object_at tree path) dir_in (object_judges tree path) by
  where
    by : (object : Object) → IfErr (dir_in object) IsJudged
    by Dir = tt
    by (File bytes) = tt

create_judges : (tree : Tree) (object : Object) (path : Path) → IfErr (create tree object path) IsJudged
create_judges tree object path =
    let made : Changed = Ok (answer.Done, insert tree path object) in
    and_then_judges (walk tree path) _ (stop_judges tree [] path) (λ _.
    refuse_if_judges (is_some (lookup tree path)) error.Exists _ tt
    (refuse_if_judges (nat_lt path_limit (length tree)) error.TooBig made tt tt))

write_judges : (tree : Tree) (offset : ℕ) (bytes : List ℕ) (path : Path)
    → IfErr (write tree offset bytes path) IsJudged
write_judges tree offset bytes path =
    and_then_judges (file_at tree path) _ (file_judges tree path) (λ old.
    let long = nat_lt file_limit (offset + length bytes) in
    let made : Changed =
    Ok (answer.Written (length bytes), insert tree path (File (overwritten old offset bytes))) in
    elim (length bytes == 0) as (λ b.
    IfErr
    (cond {A = Changed} b (Ok (answer.Written 0, tree)) (refuse_if long error.TooBig made)) IsJudged) [
      | true ↦ tt
      | false ↦ refuse_if_judges long error.TooBig made tt tt
    ])

truncate_judges : (tree : Tree) (size : ℕ) (path : Path) → IfErr (truncate tree size path) IsJudged
truncate_judges tree size path =
    and_then_judges (file_at tree path) _ (file_judges tree path) (λ bytes.
    let made : Changed = Ok (answer.Done, insert tree path (File (resized bytes size))) in
    refuse_if_judges (nat_lt file_limit size) error.TooBig made tt tt)

unlink_judges : (tree : Tree) (path : Path) → IfErr (unlink tree path) IsJudged
unlink_judges tree path = and_then_judges (file_at tree path) _ (file_judges tree path) (λ _. tt)

rmdir_judges : (tree : Tree) (path : Path) → IfErr (rmdir tree path) IsJudged
rmdir_judges tree path =
    let made : Changed = Ok (answer.Done, remove tree path) in
    refuse_if_judges (is_root path) error.BadPath _ tt
    (and_then_judges (dir_at tree path) _ (dir_judges tree path) (λ _.
    refuse_if_judges (has_names tree path) error.NotEmpty made tt tt))

may_replace_judges : (tree : Tree) (to : Path) (object : Object) (target : Option Object)
    → IfErr (may_replace tree to object target) IsJudged
may_replace_judges tree to object None = tt
may_replace_judges tree to (File bytes) (Some Dir) = tt
may_replace_judges tree to (File bytes) (Some (File others)) = tt
may_replace_judges tree to Dir (Some (File others)) = tt
may_replace_judges tree to Dir (Some Dir) = refuse_if_judges (has_names tree to) error.NotEmpty (Ok tt) tt tt

rename_judges : (tree : Tree) (from to : Path) → IfErr (rename tree from to) IsJudged
rename_judges tree from to =
    let made : Changed = Ok (answer.Done, move_subtree tree from to) in
    refuse_if_judges (is_root from || is_root to) error.BadPath _ tt
    (and_then_judges (object_at tree from) _ (object_judges tree from) (λ object.
    refuse_if_judges (is_dir object && is_above from to) error.IntoItself _ tt
    (and_then_judges (walk tree to) _ (stop_judges tree [] to) (λ _.
    elim (same_path from to) as (λ b.
    IfErr (cond {A = Changed} b (Ok (answer.Done, tree))
    (and_then (may_replace tree to object (lookup tree to)) (λ _. made)))
    IsJudged) [
      | true ↦ tt
      | false ↦
          and_then_judges (may_replace tree to object (lookup tree to)) _
          (may_replace_judges tree to object (lookup tree to)) (λ _. tt)
    ]))))

change_judges : (tree : Tree) (c : Change) → IfErr (change tree c) IsJudged
change_judges tree (Create path) =
    and_then_judges (path_of path) _ (path_judges path) (create_judges tree (File []))
change_judges tree (Mkdir path) = and_then_judges (path_of path) _ (path_judges path) (create_judges tree Dir)
change_judges tree (Write path offset bytes) =
    and_then_judges (path_of path) _ (path_judges path) (write_judges tree offset bytes)
change_judges tree (Truncate path size) =
    and_then_judges (path_of path) _ (path_judges path) (truncate_judges tree size)
change_judges tree (Unlink path) = and_then_judges (path_of path) _ (path_judges path) (unlink_judges tree)
change_judges tree (Rmdir path) = and_then_judges (path_of path) _ (path_judges path) (rmdir_judges tree)
change_judges tree (Rename from to) =
    and_then_judges (path_of from) _ (path_judges from)
    (λ f. and_then_judges (path_of to) _ (path_judges to) (rename_judges tree f))

list_judges : (tree : Tree) (path : Path) → IfErr (list tree path) IsJudged
list_judges tree path = and_then_judges (dir_at tree path) _ (dir_judges tree path) (λ _. tt)

stat_judges : (tree : Tree) (path : Path) → IfErr (stat tree path) IsJudged
stat_judges tree path = and_then_judges (object_at tree path) _ (object_judges tree path) (λ _. tt)

reply_judges : (tree : Tree) (a : Ask) → IfErr (reply_to tree a) IsJudged
reply_judges tree (ask.Bytes path offset len) =
    and_then_judges (path_of path) _ (path_judges path)
    (λ p. and_then_judges (file_at tree p) _ (file_judges tree p) (λ _. tt))
reply_judges tree (ask.List path) =
    and_then_judges (and_then (path_of path) (list tree)) _
    (and_then_judges (path_of path) _ (path_judges path) (list_judges tree)) (λ _. tt)
reply_judges tree (ask.Stat path) =
    and_then_judges (and_then (path_of path) (stat tree)) _
    (and_then_judges (path_of path) _ (path_judges path) (stat_judges tree)) (λ _. tt)

-- ---- removals

removal_judges : (n last : ℕ) (rs : List Row) → IfErr (removal n last rs) IsJudged
removal_judges n last rs =
    and_then_judges (kept_row n rs) _ (ok_or_judges (find_row n rs) error.NoCheckpoint tt) by
  where
    by : (row : Row) → IfErr (ok_unless (reason_to_stay last row)) IsJudged
    by row =
        elim (is_snapshot row.mode) as (λ s.
        IfErr
        (ok_unless (cond s (Some error.IsSnapshot) (cond (row.number == last) (Some error.Latest) None)))
        IsJudged) [
          | true ↦ tt
          | false ↦
              elim (row.number == last) as (λ e. IfErr (ok_unless (cond e (Some error.Latest) None)) IsJudged)
              [ true ↦ tt | false ↦ tt ]
        ]

range_judges : (first last latest : ℕ) (rs : List Row) → IfErr (range_removal first last latest rs) IsJudged
range_judges first last latest rs =
    let answer : Result Range VolError = Ok (judged_range latest (rows_between first last rs)) in
    let none = not (list_any (is_between first last) rs) in
    elim (is_no_range first last) as (λ b.
    IfErr (cond b (Err error.BadRange) (cond none (Err error.NoCheckpoint) answer)) IsJudged) [
      | true ↦ tt
      | false ↦
          elim none as (λ b. IfErr (cond b (Err error.NoCheckpoint) answer) IsJudged)
          [ true ↦ tt | false ↦ tt ]
    ]

-- ---- events

either_judges : {A : Type 0} (w : World) (r : Result A VolError) (next : A → Outcome) → IfErr r IsJudged
    → ((a : A) → IfErr (next a).0 IsJudged) → IfErr (either w r next).0 IsJudged
either_judges w (Ok a) next here rest = rest a
either_judges w (Err e) next here rest = here

refused_if_judges : (test : Bool) (e : VolError) (w : World) (next : Outcome) → IsJudged e
    → IfErr next.0 IsJudged → IfErr (refused_if test e w next).0 IsJudged
refused_if_judges true e w next here rest = here
refused_if_judges false e w next here rest = rest

pub steps_judge : StepsJudge
steps_judge cleaned w (event.Apply c) judged_range =
    either_judges w (change w.tree c) _ (change_judges w.tree c) (λ _. tt)
steps_judge cleaned w (event.Read a) judged_range = reply_judges w.tree a
steps_judge cleaned w (event.Checkpoint mode now) judged_range =
    refused_if_judges (nat_le checkpoint_number_limit (latest w + 1)) error.NumbersSpent w _ tt tt
steps_judge cleaned w (event.ChangeMode n mode) judged_range =
    either_judges w (kept_row n (rows w)) _ (ok_or_judges (find_row n (rows w)) error.NoCheckpoint tt) (λ row.
    refused_if_judges (is_given_up row.mode mode && is_mounted w.mounts n) error.Mounted w _ tt tt)
steps_judge cleaned w (event.Remove n) judged_range =
    either_judges w (removal n (latest w) (rows w)) _ (removal_judges n (latest w) (rows w)) (λ _. tt)
steps_judge cleaned w (event.RemoveRange first last) judged_range =
    either_judges w (range_removal first last (latest w) (rows w)) _
    (range_judges first last (latest w) (rows w)) (λ _. tt)
steps_judge cleaned w (event.Expire now period) judged_range = tt
steps_judge cleaned w (event.Move segment limit now) judged_range =
    let spent : Outcome =
    refused_if (nat_le checkpoint_number_limit (latest w + 1)) error.NumbersSpent w
    (cleaned, with_minor w now) in
    elim (is_moving cleaned) as (λ b. (let o : Outcome = cond b spent (cleaned, w) in IfErr o.0 IsJudged)) [
      | true ↦
          refused_if_judges (nat_le checkpoint_number_limit (latest w + 1)) error.NumbersSpent w
          (cleaned, with_minor w now) tt judged_range
      | false ↦ judged_range
    ]
steps_judge cleaned w (event.Retire segment) judged_range = judged_range
steps_judge cleaned w (event.Resize segments) judged_range = judged_range
steps_judge cleaned w (event.Mount n) judged_range =
    either_judges w (kept_copy w n) _ (ok_or_judges (copy_at w n) error.NoCheckpoint tt) (λ copy.
    refused_if_judges (not (is_snapshot copy.mode)) error.NotSnapshot w _ tt
    (refused_if_judges (nat_le mount_number_limit (w.given + 1)) error.NumbersSpent w _ tt tt))
steps_judge cleaned w (event.Unmount m) judged_range =
    either_judges w (mounted w m) _ (ok_or_judges (find nat_cmp m w.mounts) error.BadMount tt) (λ _. tt)
steps_judge cleaned w (event.Listing options) judged_range = tt
steps_judge cleaned w (event.MountRead m a) judged_range =
    and_then_judges (mounted_copy w m) _
    (and_then_judges (mounted w m) _ (ok_or_judges (find nat_cmp m w.mounts) error.BadMount tt)
    (λ n. ok_or_judges (copy_at w n) error.BadMount tt))
    (λ copy. reply_judges copy.tree a)

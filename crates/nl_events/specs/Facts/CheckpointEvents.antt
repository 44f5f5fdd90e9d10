-- What changes of modes, removals, expiries, unmounts and listings do to the world that a pen means.
use Rattle.std.proofs.Common.{◌≡◌, ◌≢◌, ℕ, ◌-◌, Bool, true, false, cond, not, eqb, List, [], ◌∷◌, refl, sym, ap, ◌∙◌, subst, inl, inr}
use Rattle.std.specs.Prelude.{map, Option, Some, None, Result, Ok, Err, ◌||◌, ◌&&◌}
use Rattle.std.specs.Option.{is_none, is_some, ok_or}
use Rattle.std.specs.List.{AllZip, filter}
use Rattle.std.specs.Ordering.{nat_cmp}
use Rattle.std.specs.FinMap.{find}
use Rattle.std.proofs.lemmas.Bool.{cases_Bool, eqb-false, eqb-true, ne_eqb}
use Rattle.nl_types.specs.declared.error.VolError.{VolError}
use Rattle.nl_types.specs.declared.error.VolError.TheVariants as error
use Rattle.nl_types.specs.declared.event.Event.TheVariants.{ChangeMode, Expire, Listing, Remove, RemoveRange, Unmount}
use Rattle.nl_types.specs.declared.event.Mode.{Mode}
use Rattle.nl_types.specs.declared.reply.Answer.TheVariants as answer
use Rattle.nl_types.specs.declared.row.ListOptions.{ListOptions}
use Rattle.nl_types.specs.declared.row.Range.{Range}
use Rattle.nl_types.specs.declared.row.Row.{Row}
use Rattle.nl_types.specs.Plain.Calls.{IsUnlessMemory, and_then, ok_unless}
use Rattle.nl_types.specs.Plain.CheckpointLaws.{removed_by}
use Rattle.nl_types.specs.Plain.Protection.{boundary}
use Rattle.nl_types.specs.Blocks.Roots.{Pages}
use Rattle.nl_types.specs.Plain.Rows as told
use Rattle.nl_types.specs.Plain.NumberLists.{is_one_of}
use Rattle.nl_types.specs.Plain.Rows.{is_snapshot, kept_row, may_go, mode_change, number_of, range_removal, reason_to_stay, removable, removal}
use Rattle.nl_types.specs.Plain.Worlds as worlds
use Rattle.nl_types.specs.Plain.Worlds.{Copy, Outcome, Reply, World, copies_with_mode, copies_without, either, expiry_of, is_given_up, is_mounted, latest, mounts_without, refused_if, take_out}
use Rattle.nl_layout.specs.declared.root.Root.{Root}
use Rattle.nl_cpfile.specs.Tables as tables
use Rattle.nl_cpfile.specs.Tables.{moded, checkpoint_root, rows_of}
use Rattle.nl_cpfile.specs.declared.checkpoint.Checkpoint.{Checkpoint}
use Rattle.nl_types.specs.Facts.Expiries.{expiries_are_removals}
use Rattle.nl_commit.specs.Means.{CopyMeans, CurrentMeans, StepsWorldsOver, Means}
use Rattle.nl_commit.specs.Volume.{Lists, gone_from, is_held, is_held_at, is_other_mount, kept_by, mount_of, with_checkpoint_mode, without_checkpoints, without_mount}
use Rattle.nl_commit.specs.declared.mounts.Mounted.{Mounted}
use Rattle.nl_commit.specs.Facts.Events.{answers, keeps, leads, mount_at, refuses_unless_memory}
use Rattle.nl_events.specs.Facts.Published.{latest-means}
use Rattle.nl_events.specs.Facts.TableChanges.{all-with_mode, all-without, left, moded-same}

-- ---- what is told

-- of checkpoints is told what is told of their copies
rows-told : (pages : Pages) (kept : List Checkpoint) (copies : List (ℕ × Copy))
    → AllZip (CopyMeans pages) kept copies
    → rows_of kept ≡ map worlds.copy_row copies
rows-told pages [] [] means = refl
rows-told pages [] (copy ∷ copies) means = absurd means
rows-told pages (c ∷ kept) [] means = absurd means
rows-told pages (c ∷ kept) (copy ∷ copies) means =
    let one : tables.checkpoint_row c ≡ worlds.copy_row copy = λ i. record {
      number = sym means.0.number i;
      stamp = sym means.0.stamp i;
      mode = sym means.0.mode i;
      minor = sym means.0.minor i;
      inodes = means.0.inodes i;
    } in
    let rest = rows-told pages kept copies means.1 in
    λ i. one i ∷ rest i

module _ (pages : Pages) (l : Lists) (w : World) (m : Means pages l w) where
  pub rows-means : tables.rows l.table ≡ worlds.rows w
  rows-means = rows-told pages (kept_by l) w.copies m.copies

  pub latest-same : l.table.latest.number ≡ latest w
  latest-same = sym (latest-means pages l w m)

  removal-same : (n : ℕ)
      → removal n l.table.latest.number (tables.rows l.table) ≡ removal n (latest w) (worlds.rows w)
  removal-same n i = removal n (latest-same i) (rows-means i)

  range-same : (first last : ℕ) → range_removal first last l.table.latest.number (tables.rows l.table)
      ≡ range_removal first last (latest w) (worlds.rows w)
  range-same first last i = range_removal first last (latest-same i) (rows-means i)

  held-same : (n : ℕ) (mode : Mode)
      → is_held_at n mode l ≡ is_held (is_mounted w.mounts n) mode (kept_row n (worlds.rows w))
  held-same n mode i = is_held (is_mounted (sym m.mounts i) n) mode (kept_row n (rows-means i))

-- ---- copies

one-moded : (pages : Pages) (n : ℕ) (mode : Mode) (c : Checkpoint) (copy : ℕ × Copy) → CopyMeans pages c copy
    → CopyMeans pages (moded n mode c) (copy.0, worlds.moded n mode copy.0 copy.1)
one-moded pages n mode c copy means =
    subst (λ b.
    CopyMeans pages (moded n mode c) (copy.0, cond {A = Copy} b (record copy.1 { mode = mode }) copy.1))
    (sym (ap (λ k. eqb k n) means.number)) (by (eqb c.number n))
  where
    by : (b : Bool) → CopyMeans pages (cond {A = Checkpoint} b (record c { mode = mode }) c)
        (copy.0, cond {A = Copy} b (record copy.1 { mode = mode }) copy.1)
    by true = record {
      number = means.number;
      mode = refl;
      minor = means.minor;
      stamp = means.stamp;
      inodes = means.inodes;
      tree = means.tree;
    }
    by false = means

copies-moded : (pages : Pages) (n : ℕ) (mode : Mode) (kept : List Checkpoint) (copies : List (ℕ × Copy))
    → AllZip (CopyMeans pages) kept copies
    → AllZip (CopyMeans pages) (map (moded n mode) kept) (copies_with_mode n mode copies)
copies-moded pages n mode [] [] means = means
copies-moded pages n mode [] (copy ∷ copies) means = absurd means
copies-moded pages n mode (c ∷ kept) [] means = absurd means
copies-moded pages n mode (c ∷ kept) (copy ∷ copies) means =
    (one-moded pages n mode c copy means.0, copies-moded pages n mode kept copies means.1)

copies-left : (pages : Pages) (gone : List ℕ) (kept : List Checkpoint) (copies : List (ℕ × Copy))
    → AllZip (CopyMeans pages) kept copies
    → AllZip (CopyMeans pages) (left gone kept) (copies_without gone copies)
copies-left pages gone [] [] means = means
copies-left pages gone [] (copy ∷ copies) means = absurd means
copies-left pages gone (c ∷ kept) [] means = absurd means
copies-left pages gone (c ∷ kept) (copy ∷ copies) means =
    subst (λ b. AllZip (CopyMeans pages) (left gone (c ∷ kept))
    (cond (not b) (copy ∷ copies_without gone copies) (copies_without gone copies)))
    (sym (ap (is_one_of gone) means.0.number))
    (by (is_one_of gone c.number) (copies-left pages gone kept copies means.1))
  where
    by : (b : Bool) → AllZip (CopyMeans pages) (left gone kept) (copies_without gone copies)
        → AllZip (CopyMeans pages) (cond (not b) (c ∷ left gone kept) (left gone kept))
        (cond (not b) (copy ∷ copies_without gone copies) (copies_without gone copies))
    by true rest = rest
    by false rest = (means.0, rest)

mounts-left : (m : ℕ) (mounts : List Mounted)
    → map mount_of (filter (is_other_mount m) mounts) ≡ mounts_without m (map mount_of mounts)
mounts-left m [] = refl
mounts-left m (mounted ∷ mounts) =
    elim (eqb mounted.number m) as (λ b.
    map mount_of
    (cond (not b) (mounted ∷ filter (is_other_mount m) mounts) (filter (is_other_mount m) mounts))
    ≡ cond (not b) (mount_of mounted ∷ mounts_without m (map mount_of mounts))
    (mounts_without m (map mount_of mounts))) [
      | true ↦ mounts-left m mounts
      | false ↦ ap (λ ms. mount_of mounted ∷ ms) (mounts-left m mounts)
    ]

-- ---- a mode changes

-- done where a judgement finds something
abbrev done_after : {A : Type 0} → Result A VolError → Result (Unit {0}) VolError
done_after judged = and_then judged (λ _. Ok tt)

-- what a change of the mode does, once it is known what is told of the checkpoint
abbrev mode_outcome : World → ℕ → Mode → Result Row VolError → Outcome
mode_outcome w n mode kept =
    either w kept (λ row.
    refused_if (is_given_up row.mode mode && is_mounted w.mounts n) error.Mounted w (
    (Ok answer.Done, record w { copies = copies_with_mode n mode w.copies })))

outcome-held : (w : World) (n : ℕ) (mode : Mode) (kept : Result Row VolError)
    → is_held (is_mounted w.mounts n) mode kept ≡ true → mode_outcome w n mode kept ≡ (Err error.Mounted, w)
outcome-held w n mode (Ok row) held = ap (λ b. refused_if b error.Mounted w
    ((Ok answer.Done, record w { copies = copies_with_mode n mode w.copies }))) held
outcome-held w n mode (Err e) held = cc

outcome-refused : (w : World) (n : ℕ) (mode : Mode) (kept : Result Row VolError) (e : VolError)
    → Err e ≡ done_after kept → mode_outcome w n mode kept ≡ (Err e, w)
outcome-refused w n mode (Ok row) e refused = cc
outcome-refused w n mode (Err f) e refused =
    let same : f ≡ e = cc in ap (λ (g : VolError). let o : Outcome = (Err g, w) in o) same

outcome-done : (w : World) (n : ℕ) (mode : Mode) (kept : Result Row VolError)
    → is_held (is_mounted w.mounts n) mode kept ≡ false → Ok tt ≡ done_after kept
    → mode_outcome w n mode kept ≡ (Ok answer.Done, record w { copies = copies_with_mode n mode w.copies })
outcome-done w n mode (Ok row) held done = ap (λ b. refused_if b error.Mounted w
    ((Ok answer.Done, record w { copies = copies_with_mode n mode w.copies }))) held
outcome-done w n mode (Err e) held done = cc

-- a mounted snapshot stays one
pub held_mode-follows : (pages : Pages) (l : Lists) (n : ℕ) (mode : Mode) → is_held_at n mode l ≡ true
    → StepsWorldsOver pages l (ChangeMode n mode) (Err error.Mounted) l
held_mode-follows pages l n mode held = λ cleaned w m.
    keeps cleaned w (ChangeMode n mode) (Err error.Mounted) pages l m
    (outcome-held w n mode (kept_row n (worlds.rows w)) (sym (held-same pages l w m n mode) ∙ held))

-- a checkpoint that isn't kept has no mode
pub no_mode-follows : (pages : Pages) (l : Lists) (n : ℕ) (mode : Mode) (e : VolError)
    → Err e ≡ mode_change n (tables.rows l.table) → StepsWorldsOver pages l (ChangeMode n mode) (Err e) l
no_mode-follows pages l n mode e refused = λ cleaned w m.
    keeps cleaned w (ChangeMode n mode) (Err e) pages l m
    (outcome-refused w n mode (kept_row n (worlds.rows w)) e
    (refused ∙ ap (mode_change n) (rows-means pages l w m)))

pub mode-follows : (pages : Pages) (l : Lists) (n : ℕ) (mode : Mode) → is_held_at n mode l ≡ false
    → Ok tt ≡ mode_change n (tables.rows l.table)
    → StepsWorldsOver pages l (ChangeMode n mode) (Ok answer.Done) (with_checkpoint_mode n mode l)
mode-follows pages l n mode held done = λ cleaned w m.
    leads cleaned w (record w { copies = copies_with_mode n mode w.copies }) (ChangeMode n mode)
    (Ok answer.Done) pages
    (with_checkpoint_mode n mode l) m.world
    (λ world. record {
      world = world;
      tree = subst (λ (root : Root). CurrentMeans pages root l.current w.tree)
          (sym (moded-same checkpoint_root n mode l.table.latest refl)) m.tree;
      dirty = m.dirty;
      copies =
          subst (λ (kept : List Checkpoint). AllZip (CopyMeans pages) kept (copies_with_mode n mode w.copies))
          (sym (all-with_mode n mode l.table)) (copies-moded pages n mode (kept_by l) w.copies m.copies);
      mounts = m.mounts;
      given = m.given;
    })
    (outcome-done w n mode (kept_row n (worlds.rows w)) (sym (held-same pages l w m n mode) ∙ held)
    (done ∙ ap (mode_change n) (rows-means pages l w m)))

-- ---- removals

-- the latest checkpoint isn't among those that may go
module _ (latest : ℕ) where
  other-removed : (s same : Bool)
      → Ok tt ≡ ok_unless (cond s (Some error.IsSnapshot) (cond same (Some error.Latest) None))
      → same ≡ false
  other-removed true same done = cc
  other-removed false true done = cc
  other-removed false false done = refl

  other-goes : (s same : Bool)
      → is_none (cond s (Some error.IsSnapshot) (cond same (Some error.Latest) None)) ≡ true
      → same ≡ false
  other-goes true same goes = cc
  other-goes false true goes = cc
  other-goes false false goes = refl

  other_way : (n : ℕ) → eqb n latest ≡ false → eqb latest n ≡ false
  other_way n other = ne_eqb latest n (λ same. eqb-false n latest other (sym same))

  pub removal-stays : (n : ℕ) (rows : List Row) → Ok tt ≡ removal n latest rows
      → is_one_of (n ∷ []) latest ≡ false
  removal-stays n [] done = cc
  removal-stays n (row ∷ rows) done = elim (cases_Bool (eqb row.number n)) [
    | inl here ↦
        let found : Ok tt ≡ ok_unless (reason_to_stay latest row) =
        done ∙ ap (λ b. and_then (ok_or (cond b (Some row) (told.find_row n rows)) error.NoCheckpoint)
        (λ r. ok_unless (reason_to_stay latest r))) here in
        ap (λ b. b || false)
        (ap (eqb latest) (sym (eqb-true row.number n here))
        ∙ other_way row.number (other-removed (is_snapshot row.mode) (eqb row.number latest) found))
    | inr other ↦
        removal-stays n rows
        (done ∙ ap (λ b. and_then (ok_or (cond b (Some row) (told.find_row n rows)) error.NoCheckpoint)
        (λ r. ok_unless (reason_to_stay latest r))) other)
  ]

  removable-stays : (rows : List Row) → is_one_of (removable latest rows) latest ≡ false
  removable-stays [] = refl
  removable-stays (row ∷ rows) =
      let those : Bool → List ℕ = λ b.
      map number_of (cond b (row ∷ filter (may_go latest) rows) (filter (may_go latest) rows)) in
      elim (cases_Bool (may_go latest row)) [
        | inl goes ↦
            ap (λ b. is_one_of (those b) latest) goes
            ∙ (ap (λ b. b || is_one_of (removable latest rows) latest)
            (other_way row.number (other-goes (is_snapshot row.mode) (eqb row.number latest) goes))
            ∙ removable-stays rows)
        | inr stays ↦ ap (λ b. is_one_of (those b) latest) stays ∙ removable-stays rows
      ]

  range-judged : (none empty : Bool) (range found : Range)
      → Ok range ≡ cond none (Err error.BadRange) (cond empty (Err error.NoCheckpoint) (Ok found))
      → range ≡ found
  range-judged true empty range found done = cc
  range-judged false true range found done = cc
  range-judged false false range found done = cc

  pub range-stays : (first last : ℕ) (rows : List Row) (range : Range)
      → Ok range ≡ range_removal first last latest rows
      → is_one_of range.removed latest ≡ false
  range-stays first last rows range done =
      ap (λ (r : Range). is_one_of r.removed latest)
      (range-judged _ _ range (told.judged_range latest (told.rows_between first last rows)) done)
      ∙ removable-stays (told.rows_between first last rows)

-- some checkpoints are gone, and the latest one stays
taken_out-means : (pages : Pages) (l : Lists) (w : World) (gone : List ℕ)
    → is_one_of gone l.table.latest.number ≡ false
    → Means pages l w → worlds.IsWorld (take_out gone w)
    → Means pages (without_checkpoints gone l) (take_out gone w)
taken_out-means pages l w gone stays m world = record {
  world = world;
  tree = m.tree;
  dirty = m.dirty;
  copies = subst (λ (kept : List Checkpoint). AllZip (CopyMeans pages) kept (copies_without gone w.copies))
      (sym (all-without gone l.table stays)) (copies-left pages gone (kept_by l) w.copies m.copies);
  mounts = m.mounts;
  given = m.given;
}

pub no_removal-follows : (pages : Pages) (l : Lists) (n : ℕ) (e : VolError)
    → Err e ≡ removal n l.table.latest.number (tables.rows l.table)
    → StepsWorldsOver pages l (Remove n) (Err e) l
no_removal-follows pages l n e refused = λ cleaned w m.
    keeps cleaned w (Remove n) (Err e) pages l m
    (ap (λ r. either w r (λ _. (Ok answer.Done, take_out (n ∷ []) w)))
    (sym (refused ∙ removal-same pages l w m n)))

pub removal-follows : (pages : Pages) (l : Lists) (n : ℕ)
    → Ok tt ≡ removal n l.table.latest.number (tables.rows l.table)
    → StepsWorldsOver pages l (Remove n) (Ok answer.Done) (without_checkpoints (n ∷ []) l)
removal-follows pages l n done = λ cleaned w m.
    let stays = removal-stays l.table.latest.number n (tables.rows l.table) done in
    leads cleaned w (take_out (n ∷ []) w) (Remove n) (Ok answer.Done) pages
    (without_checkpoints (n ∷ []) l) m.world
    (taken_out-means pages l w (n ∷ []) stays m)
    (ap (λ r. either w r (λ _. (Ok answer.Done, take_out (n ∷ []) w)))
    (sym (done ∙ removal-same pages l w m n)))

-- what a removal of a range does, once it is judged
abbrev range_outcome : World → Result Range VolError → Outcome
range_outcome w judged = either w judged (λ range. (Ok (answer.Removed range), take_out range.removed w))

pub no_range_removal-follows : (pages : Pages) (l : Lists) (first last : ℕ) (e : VolError)
    → ((e ≢ error.Memory) → Err e ≡ range_removal first last l.table.latest.number (tables.rows l.table))
    → StepsWorldsOver pages l (RemoveRange first last) (Err e) l
no_range_removal-follows pages l first last e refused = λ cleaned w m.
    refuses_unless_memory cleaned w (RemoveRange first last) e pages l m tt
    (λ other. ap (range_outcome w) (sym (refused other ∙ range-same pages l w m first last)))

pub range_removal-follows : (pages : Pages) (l : Lists) (first last : ℕ) (range : Range)
    → Ok range ≡ range_removal first last l.table.latest.number (tables.rows l.table)
    → StepsWorldsOver pages l (RemoveRange first last) (Ok (answer.Removed range))
    (without_checkpoints range.removed l)
range_removal-follows pages l first last range done = λ cleaned w m.
    let stays = range-stays l.table.latest.number first last (tables.rows l.table) range done in
    leads cleaned w (take_out range.removed w) (RemoveRange first last) (Ok (answer.Removed range)) pages
    (without_checkpoints range.removed l) m.world
    (taken_out-means pages l w range.removed stays m)
    (ap (range_outcome w) (sym (done ∙ range-same pages l w m first last)))

-- ---- expiries

-- what goes from the pen goes from the world
expiry-same : (pages : Pages) (l : Lists) (w : World) (now period : ℕ) → Means pages l w
    → gone_from l.table now period ≡ expiry_of w now period
expiry-same pages l w now period m =
    let number = latest-same pages l w m in
    let rows = rows-means pages l w m in
    (λ i. removed_by (range_removal 1 (boundary now period (number i) (rows i) - 1) (number i) (rows i)))
    ∙ sym (expiries_are_removals w now period m.world)

-- the latest checkpoint stays
pub expiry-stays : (l : Lists) (now period : ℕ)
    → is_one_of (gone_from l.table now period) l.table.latest.number ≡ false
expiry-stays l now period = by (range_removal 1 last l.table.latest.number (tables.rows l.table)) refl
  where
    last : ℕ
    last = boundary now period l.table.latest.number (tables.rows l.table) - 1

    by : (judged : Result Range VolError)
        → range_removal 1 last l.table.latest.number (tables.rows l.table) ≡ judged
        → is_one_of (removed_by judged) l.table.latest.number ≡ false
    by (Ok range) is = range-stays l.table.latest.number 1 last (tables.rows l.table) range (sym is)
    by (Err e) is = refl

pub no_expiry-follows : (pages : Pages) (l : Lists) (now period : ℕ)
    → StepsWorldsOver pages l (Expire now period) (Err error.Memory) l
no_expiry-follows pages l now period = λ cleaned w m.
    refuses_unless_memory cleaned w (Expire now period) error.Memory pages l m tt
    (λ other. absurd (other refl))

pub expiry-follows : (pages : Pages) (l : Lists) (now period : ℕ) (gone : List ℕ)
    → gone ≡ gone_from l.table now period
    → StepsWorldsOver pages l (Expire now period) (Ok (answer.Expired gone)) (without_checkpoints gone l)
expiry-follows pages l now period gone is = λ cleaned w m.
    let stays = ap (λ ns. is_one_of ns l.table.latest.number) is ∙ expiry-stays l now period in
    leads cleaned w (take_out gone w) (Expire now period) (Ok (answer.Expired gone)) pages
    (without_checkpoints gone l) m.world
    (taken_out-means pages l w gone stays m)
    (ap (λ ns. (let o : Outcome = (Ok (answer.Expired ns), take_out ns w) in o))
    (sym (is ∙ expiry-same pages l w now period m)))

-- ---- unmounts

-- what an unmount does, once the mount is looked up
abbrev unmount_outcome : World → ℕ → Option ℕ → Outcome
unmount_outcome w m found =
    either w (ok_or found error.BadMount)
    (λ _. (Ok answer.Done, record w { mounts = mounts_without m w.mounts }))

unmount-refused : (w : World) (m : ℕ) (found : Option ℕ) → is_some found ≡ false
    → unmount_outcome w m found ≡ (Err error.BadMount, w)
unmount-refused w m None none = refl
unmount-refused w m (Some n) none = cc

unmount-done : (w : World) (m : ℕ) (found : Option ℕ) → is_some found ≡ true
    → unmount_outcome w m found ≡ (Ok answer.Done, record w { mounts = mounts_without m w.mounts })
unmount-done w m None some = cc
unmount-done w m (Some n) some = refl

-- whether the pen has such a mount
abbrev pub has_mount : Lists → ℕ → Bool
has_mount l m = is_some (find nat_cmp m (map mount_of l.mounts))

has_mount-means : (pages : Pages) (l : Lists) (w : World) (m : ℕ) → Means pages l w
    → is_some (find nat_cmp m w.mounts) ≡ has_mount l m
has_mount-means pages l w m means =
    ap (λ (o : Option ℕ). is_some o)
    (mount_at pages l w m (find nat_cmp m (map mount_of l.mounts)) means refl)

-- there is no such mount
pub no_unmount-follows : (pages : Pages) (l : Lists) (m : ℕ) → has_mount l m ≡ false
    → StepsWorldsOver pages l (Unmount m) (Err error.BadMount) l
no_unmount-follows pages l m none = λ cleaned w means.
    keeps cleaned w (Unmount m) (Err error.BadMount) pages l means
    (unmount-refused w m (find nat_cmp m w.mounts) (has_mount-means pages l w m means ∙ none))

pub unmount-follows : (pages : Pages) (l : Lists) (m : ℕ) → has_mount l m ≡ true
    → StepsWorldsOver pages l (Unmount m) (Ok answer.Done) (without_mount m l)
unmount-follows pages l m has = λ cleaned w means.
    leads cleaned w (record w { mounts = mounts_without m w.mounts }) (Unmount m) (Ok answer.Done) pages
    (without_mount m l) means.world
    (λ world. record {
      world = world;
      tree = means.tree;
      dirty = means.dirty;
      copies = means.copies;
      mounts = ap (mounts_without m) means.mounts ∙ sym (mounts-left m l.mounts);
      given = means.given;
    })
    (unmount-done w m (find nat_cmp m w.mounts) (has_mount-means pages l w m means ∙ has))

-- ---- listings

pub listing-follows : (pages : Pages) (l : Lists) (options : ListOptions) (reply : Reply)
    → IsUnlessMemory reply (Ok (answer.Rows (told.listing options (tables.rows l.table))))
    → StepsWorldsOver pages l (Listing options) reply l
listing-follows pages l options reply is = λ cleaned w m.
    answers cleaned w (Listing options) reply
    (Ok (answer.Rows (told.listing options (tables.rows l.table)))) pages l m tt
    (ap (λ (rows : List Row). (let o : Outcome = (Ok (answer.Rows (told.listing options rows)), w) in o))
    (sym (rows-means pages l w m)))
    is

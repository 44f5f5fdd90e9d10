-- What an event does to a pen is told by its commits.
use Rattle.std.proofs.Common.{◌≡◌, ℕ, ◌+◌, ◌-◌, Bool, true, false, List, [], ◌∷◌, Option, refl, ap, sym, subst, take, ◌∙◌, arith}
use Rattle.std.specs.Prelude.{nat_lt, length, Ok, Err, MatchResult, Result, fold, map}
use Rattle.std.specs.Option.{option_map}
use Rattle.std.proofs.lemmas.Bool.{cond-false, cond-true}
use Rattle.nl_types.specs.declared.error.VolError.{VolError}
use Rattle.nl_types.specs.declared.error.VolError.TheVariants as error
use Rattle.nl_types.specs.declared.event.Event.{Event}
use Rattle.nl_types.specs.declared.event.Event.TheVariants as event
use Rattle.nl_types.specs.declared.event.Mode.{Mode}
use Rattle.nl_types.specs.declared.reply.Answer.{Answer}
use Rattle.nl_types.specs.declared.reply.Answer.TheVariants as answer
use Rattle.nl_types.specs.declared.segment.SegmentInfo.{SegmentInfo}
use Rattle.nl_types.specs.Plain.CheckpointLaws.{removed_by}
use Rattle.nl_types.specs.Plain.Worlds.{Reply, is_moving}
use Rattle.nl_vstore.specs.Batches.{Changes}
use Rattle.nl_vstore.specs.Located.{needed_in, numbers_in}
use Rattle.nl_vstore.specs.Stores.{IsReclaimed, Numbered, Store}
use Rattle.nl_vstore.specs.Facts.NumberAt.{in-numbers}
use Rattle.nl_reclaim.specs.Cleaning.{judged_for}
use Rattle.nl_cpfile.specs.Tables.{Table, range_in, with_mode, with_next, without}
use Rattle.nl_cpfile.specs.declared.checkpoint.Checkpoint.{Checkpoint}
use Rattle.nl_commit.specs.CleaningEvents.{HasMovedOut, HasResized, IsMoveRefusal, needed_by}
use Rattle.nl_commit.specs.Commits.{AllNext, IsShownState, IsNew, KeepsCheckpoints, applied, numbers_written, with_room, without_numbers}
use Rattle.nl_commit.specs.Layout.{AllowedBetween, Does, HasRefused, HasWrittenCheckpoint, IsPen, KeepsNumbers, Layout, layout_of}
use Rattle.nl_commit.specs.Notes.{AreCommitsOf, CommitsTellAll, HasNoted, freed_in, has_other_mode, known_commit, made_where, mounted_as, moved_as, new_checkpoint, noted_by, shown_of, shown_page, where_any, where_true, without_changes}
use Rattle.nl_commit.specs.Shown.{Shown}
use Rattle.nl_commit.specs.Volume.{IsTakenOut, Lists, boundary_in, minor_checkpoint, moved_lists, with_checkpoint_mode, with_minor}
use Rattle.nl_commit.specs.declared.commit.Commit.{Commit}
use Rattle.nl_commit.specs.declared.commit.Commit.TheVariants.{Freed, GivenBack, ModeSet, Mounted, RangeRemoved, Removed, Resized, Written}
use Rattle.nl_commit.specs.declared.commit.ShownPage.{ShownPage}
use Rattle.nl_commit.specs.declared.mounts.Mounted.{Mounted as Mount}
use Rattle.nl_events.specs.Facts.Checkpoints.{latest-next, number-next}
use Rattle.nl_events.specs.Facts.CleanedPens.{refused-numbers}
use Rattle.nl_events.specs.Facts.ExpiredNumbers.{without-none}
use Rattle.nl_events.specs.Facts.States.{pen-state, pen-table}
use Rattle.nl_events.specs.Facts.Keeping.{KeepsRoots, keeps-checkpoints, roots-moded, roots-next, roots-same, roots-without}
use Rattle.nl_commit.specs.Facts.MountEvents.{answers-mount, mounted-before}
use Rattle.nl_events.specs.Facts.SameModes.{no-other_mode}
use Rattle.nl_commit.specs.Facts.ShownNumbers.{numbers-freed, numbers-moved, numbers-written}
use Rattle.nl_events.specs.Facts.ResizedPens.{numbers-resized, resized-as-many, room-resized, unresized-numbers}

-- ---- commits that tell what readers see

-- from what readers saw, these commits lead to what they see then, and may follow
pub record TellsAll (old new : Layout) (more : List Commit) : Type 0 where
  pub state : shown_of new ≡ fold applied (shown_of old) more
  pub next : AllNext (shown_of old) more

-- nothing is seen of the event
tells-nothing : (old new : Layout) → shown_of new ≡ shown_of old → TellsAll old new []
tells-nothing old new same = record { state = same; next = tt }

-- a commit tells all
tells-one : (old new : Layout) (c : Commit) → IsPen new → KeepsCheckpoints (shown_of old) (shown_of new)
    → shown_of new ≡ applied (shown_of old) c → IsNew (shown_of old) c → TellsAll old new (c ∷ [])
tells-one old new c pen keeps is fresh = record {
  state = is;
  next = (
    record {
      state = subst IsShownState is (pen-state new pen);
      keeps = subst (KeepsCheckpoints (shown_of old)) is keeps;
      new = fresh;
    },
    tt,
  );
}

-- so it does where anything goes, and else there is nothing to tell
tells-any : {A : Type 0} (old new : Layout) (gone : List A) (c : Commit) → IsPen new
    → KeepsCheckpoints (shown_of old) (shown_of new)
    → shown_of new ≡ applied (shown_of old) c → IsNew (shown_of old) c
    → (gone ≡ [] → shown_of new ≡ shown_of old)
    → TellsAll old new (where_any gone c)
tells-any old new [] c pen keeps is fresh none = tells-nothing old new (none refl)
tells-any old new (x ∷ gone) c pen keeps is fresh none = tells-one old new c pen keeps is fresh

-- ---- what is shown of the parts

abbrev shown_with : List (Option ShownPage) → Table → List Mount → ℕ → Shown
shown_with numbers table mounts given =
    record { numbers = numbers; table = table; mounts = mounts; given = given }

-- with the same lists and numbers the same is shown
same-parts : (old new : Layout) → new.lists ≡ old.lists → (shown_of new).numbers ≡ (shown_of old).numbers
    → shown_of new ≡ shown_of old
same-parts old new lists numbers i = shown_with (numbers i) (lists i).table (lists i).mounts (lists i).given

same-store : (old new : Layout) → new.lists ≡ old.lists → new.store.numbers ≡ old.store.numbers
    → shown_of new ≡ shown_of old
same-store old new lists numbers =
    same-parts old new lists (ap (λ (vs : List (Option Numbered)). map (option_map shown_page) vs) numbers)

-- ---- refused events

-- of a refused event nothing is seen
refused-shown : (event : Event) (e : VolError) (old new : Layout) → HasRefused event e old new
    → shown_of new ≡ shown_of old
refused-shown (event.Checkpoint mode moment) error.Fault old new refused =
    same-store old new refused.lists refused.store.numbers
refused-shown (event.Checkpoint mode moment) _ old new refused = ap shown_of refused.0
refused-shown (event.Retire segment) e old new refused = ap shown_of refused.0
refused-shown (event.Resize segments) e old new refused =
    same-store old new refused.0 (unresized-numbers segments e old.store new.store refused.1)
refused-shown (event.Move segment limit moment) e old new refused =
    same-store old new refused.0 (by (judged_for old.store.segments segment limit) refused.1)
  where
    vs : List ℕ
    vs = take limit (needed_in old.store (needed_by old.lists) segment)

    of : (e : VolError) → IsMoveRefusal segment limit moment old.lists old.store new.store e
        → new.store.numbers ≡ old.store.numbers
    of error.NumbersSpent none = ap (λ (s : Store). s.numbers) none.0
    of error.NoSpace none =
        refused-numbers (old.lists.table.latest.number + 1) moment vs error.NoSpace old.store new.store none.1
    of error.Fault none =
        refused-numbers (old.lists.table.latest.number + 1) moment vs error.Fault old.store new.store none.1
    of e none = refused-numbers (old.lists.table.latest.number + 1) moment vs e old.store new.store none

    by : (r : Result SegmentInfo VolError)
        → MatchResult r (λ _. IsMoveRefusal segment limit moment old.lists old.store new.store e)
        (λ refusal. (e ≡ refusal) × (new.store ≡ old.store))
        → new.store.numbers ≡ old.store.numbers
    by (Ok i) none = of e none
    by (Err f) none = ap (λ (s : Store). s.numbers) none.1
refused-shown event e old new refused = ap shown_of refused

-- ---- done ones

-- these lead from one pen to another, and numbers stay
pub record Leads (old new : Layout) : Type 0 where
  pub before : IsPen old
  pub now : IsPen new
  pub numbers : KeepsNumbers old new

tells-commit : (old new : Layout) (c : Commit) → Leads old new → KeepsRoots old.lists.table new.lists.table
    → shown_of new ≡ applied (shown_of old) c → IsNew (shown_of old) c → TellsAll old new (c ∷ [])
tells-commit old new c leads roots is fresh =
    tells-one old new c leads.now (keeps-checkpoints old new leads.before leads.numbers roots) is fresh

-- ---- a checkpoint

tells-written : (old new : Layout) (mode : Mode) (moment : ℕ)
    (writes : HasWrittenCheckpoint mode moment old new)
    → Leads old new
    → TellsAll old new (Written (new_checkpoint writes.settled.changes new.lists.table.latest) ∷ [])
tells-written old new mode moment writes leads =
    tells-commit old new (Written (new_checkpoint changes new.lists.table.latest)) leads
    (subst (KeepsRoots old.lists.table) (sym table) (roots-next new.lists.table.latest old.lists.table))
    (λ i. shown_with (numbers i) (table i) (writes.lists i).mounts (writes.lists i).given)
    (omega (arith, number-next old new mode moment writes))
  where
    changes : Changes
    changes = writes.settled.changes

    table : new.lists.table ≡ with_next new.lists.table.latest old.lists.table
    table = ap (λ (l : Lists). l.table) writes.lists
        ∙ ap (λ (c : Checkpoint). with_next c old.lists.table) (sym (latest-next old new mode moment writes))

    numbers : (shown_of new).numbers
        ≡ numbers_written (new_checkpoint changes new.lists.table.latest) (shown_of old).numbers
    numbers =
        numbers-written old new leads.before.sound.store leads.now.sound.store new.lists.table.latest.number
        new.lists.table.latest.stamp changes writes.written

-- ---- removals

-- what is shown once some checkpoints are gone
abbrev shown_without : List ℕ → Shown → Shown
shown_without gone x = record x { table = without gone x.table }

module _ (old new : Layout) (gone : List ℕ) (leads : Leads old new)
    (taken : IsTakenOut gone old.lists new.lists)
    (store : new.store ≡ old.store) where
  shown-taken : shown_of new ≡ shown_without gone (shown_of old)
  shown-taken i = shown_of (layout_of (taken.lists i) (store i))

  roots-taken : KeepsRoots old.lists.table new.lists.table
  roots-taken =
      subst (λ (l : Lists). KeepsRoots old.lists.table l.table) (sym taken.lists)
      (roots-without gone old.lists.table taken.stays)

  keeps-taken : KeepsCheckpoints (shown_of old) (shown_of new)
  keeps-taken = keeps-checkpoints old new leads.before leads.numbers roots-taken

  tells-range : (first last : ℕ) → range_in first last old.lists.table ≡ gone
      → TellsAll old new (where_any gone (RangeRemoved first last))
  tells-range first last is =
      tells-any old new gone (RangeRemoved first last) leads.now keeps-taken
      (shown-taken ∙ ap (λ (ns : List ℕ). shown_without ns (shown_of old)) (sym is)) tt
      (λ none. shown-taken ∙ ap (λ (ns : List ℕ). shown_without ns (shown_of old)) none
      ∙ ap (λ (t : Table). record (shown_of old) { table = t }) (without-none old.lists.table))

-- ---- a change of a mode

tells-moded : (old new : Layout) (n : ℕ) (mode : Mode) (a : Answer) → Leads old new
    → new ≡ layout_of (with_checkpoint_mode n mode old.lists) old.store
    → TellsAll old new (noted_by a (known_commit old.lists (event.ChangeMode n mode)))
tells-moded old new n mode a leads is = by (has_other_mode n mode old.lists.table) refl
  where
    shown : shown_of new ≡ record (shown_of old) { table = with_mode n mode old.lists.table }
    shown = ap shown_of is

    by : (b : Bool) → has_other_mode n mode old.lists.table ≡ b
        → TellsAll old new (noted_by a (made_where b (ModeSet n mode)))
    by true other =
        tells-commit old new (ModeSet n mode) leads
        (subst (λ (l : Layout). KeepsRoots old.lists.table l.lists.table) (sym is)
        (roots-moded n mode old.lists.table))
        shown tt
    by false same =
        tells-nothing old new
        (shown ∙ ap (λ (t : Table). record (shown_of old) { table = t })
        (no-other_mode n mode old.lists.table (pen-table old leads.before) same))

-- ---- a retirement

tells-freed : (old new : Layout) (segment count : ℕ) → Leads old new → new.lists ≡ old.lists
    → IsReclaimed segment count old.store new.store → TellsAll old new (freed_in old.store segment)
tells-freed old new segment count leads lists reclaimed =
    tells-any old new gone (Freed gone) leads.now
    (keeps-checkpoints old new leads.before leads.numbers
    (subst (λ (l : Lists). KeepsRoots old.lists.table l.table) (sym lists) (roots-same old.lists.table)))
    shown tt
    (λ none.
    shown
    ∙ ap
    (λ (vs : List ℕ). record (shown_of old) { numbers = without_numbers vs (shown_of old).numbers }) none)
  where
    gone : List ℕ
    gone = numbers_in old.store segment

    numbers : (shown_of new).numbers ≡ without_numbers gone (shown_of old).numbers
    numbers =
        numbers-freed old new leads.before.sound.store leads.now.sound.store segment count gone reclaimed
        (λ v. in-numbers old.store segment v leads.before.sound.store)

    shown : shown_of new ≡ record (shown_of old) { numbers = without_numbers gone (shown_of old).numbers }
    shown i = shown_with (numbers i) (lists i).table (lists i).mounts (lists i).given

-- ---- a move

-- where blocks were moved there is one checkpoint more, and of where a page stands nothing is seen
tells-moved : (old new : Layout) (segment limit moment : ℕ) (a : Answer) → Leads old new
    → new.lists ≡ moved_lists moment a old.lists
    → HasMovedOut segment limit moment a old.lists old.store new.store
    → TellsAll old new (moved_as a new.lists.table.latest)
tells-moved old new segment limit moment a leads lists moved = by (is_moving (Ok a)) refl
  where
    numbers : (shown_of new).numbers ≡ (shown_of old).numbers
    numbers =
        numbers-moved old new leads.before.sound.store leads.now.sound.store segment
        (old.lists.table.latest.number + 1) moment
        (take limit (needed_in old.store (needed_by old.lists) segment)) moved.moved.moved

    by : (b : Bool) → is_moving (Ok a) ≡ b
        → TellsAll old new (where_true b (without_changes new.lists.table.latest))
    by false idle =
        tells-nothing old new
        (same-parts old new
        (lists ∙ cond-false (is_moving (Ok a)) (with_minor moment old.lists) old.lists idle) numbers)
    by true moving =
        let more : new.lists ≡ with_minor moment old.lists =
        lists ∙ cond-true (is_moving (Ok a)) (with_minor moment old.lists) old.lists moving in
        let latest : new.lists.table.latest ≡ minor_checkpoint moment old.lists =
        ap (λ (l : Lists). l.table.latest) more in
        let table : new.lists.table ≡ with_next new.lists.table.latest old.lists.table =
        ap (λ (l : Lists). l.table) more
        ∙ ap (λ (c : Checkpoint). with_next c old.lists.table) (sym latest) in
        let next : new.lists.table.latest.number ≡ old.lists.table.latest.number + 1 =
        ap (λ (c : Checkpoint). c.number) latest in
        tells-commit old new (without_changes new.lists.table.latest) leads
        (subst (KeepsRoots old.lists.table) (sym table) (roots-next new.lists.table.latest old.lists.table))
        (λ i. shown_with (numbers i) (table i) (more i).mounts (more i).given)
        (omega (arith, next))

-- ---- a resize

tells-resized : (old new : Layout) (segments : ℕ) (a : Answer) → Leads old new → new.lists ≡ old.lists
    → HasResized segments a old.store new.store
    → TellsAll old new
    (where_true (nat_lt (length old.store.segments.each) segments)
    (Resized segments old.store.segments.blocks))
tells-resized old new segments a leads lists resized =
    by (nat_lt (length old.store.segments.each) segments) refl
  where
    blocks : ℕ
    blocks = old.store.segments.blocks

    numbers : (shown_of new).numbers ≡ with_room segments blocks (shown_of old).numbers
    numbers = numbers-resized old new segments leads.before.sound.store leads.now.sound.store resized

    shown : shown_of new
        ≡ record (shown_of old) { numbers = with_room segments blocks (shown_of old).numbers }
    shown i = shown_with (numbers i) (lists i).table (lists i).mounts (lists i).given

    by : (b : Bool) → nat_lt (length old.store.segments.each) segments ≡ b
        → TellsAll old new (where_true b (Resized segments blocks))
    by true more =
        tells-commit old new (Resized segments blocks) leads
        (subst (λ (l : Lists). KeepsRoots old.lists.table l.table) (sym lists) (roots-same old.lists.table))
        shown (room-resized old segments leads.before.sound.store resized.judged)
    by false fewer =
        tells-nothing old new
        (same-store old new lists
        (ap (λ (s : Store). s.numbers)
        (resized.same (resized-as-many old.store segments resized.judged fewer))))

-- ---- each event

module _ (allowed : AllowedBetween) (old new : Layout) (pen : IsPen old) where
  leads-on : (event : Event) (reply : Reply) → Does allowed old event reply new → Leads old new
  leads-on event reply does = record { before = pen; now = does.pen; numbers = does.numbers }

  tells-nothing-of : (more : List Commit) → more ≡ [] → shown_of new ≡ shown_of old → TellsAll old new more
  tells-nothing-of more none same = subst (TellsAll old new) (sym none) (tells-nothing old new same)

  -- the commits of a done event tell all of it
  tells-done : (event : Event) (a : Answer) (more : List Commit) → Does allowed old event (Ok a) new
      → HasNoted old event a new more → TellsAll old new more
  tells-done (event.Checkpoint mode moment) a more does noted =
      subst (TellsAll old new) (sym noted.1)
      (tells-written old new mode moment noted.0 (leads-on (event.Checkpoint mode moment) (Ok a) does))
  tells-done (event.ChangeMode n mode) a more does noted =
      subst (TellsAll old new) (sym noted)
      (tells-moded old new n mode a (leads-on (event.ChangeMode n mode) (Ok a) does) does.becomes)
  tells-done (event.Remove n) a more does noted =
      let leads = leads-on (event.Remove n) (Ok a) does in
      subst (TellsAll old new) (sym noted)
      (tells-commit old new (Removed n) leads
      (roots-taken old new (n ∷ []) leads does.becomes.0 does.becomes.1)
      (shown-taken old new (n ∷ []) leads does.becomes.0 does.becomes.1) tt)
  tells-done (event.RemoveRange first last) (answer.Removed range) more does noted =
      subst (TellsAll old new) (sym noted)
      (tells-range old new range.removed
      (leads-on (event.RemoveRange first last) (Ok (answer.Removed range)) does)
      does.becomes.0.taken does.becomes.1 first last (ap removed_by does.becomes.0.judged))
  tells-done (event.RemoveRange first last) _ more does noted = absurd does.becomes.0
  tells-done (event.Expire now period) (answer.Expired gone) more does noted =
      subst (TellsAll old new) (sym noted)
      (tells-range old new gone (leads-on (event.Expire now period) (Ok (answer.Expired gone)) does)
      does.becomes.0.taken does.becomes.1 1 (boundary_in old.lists.table now period - 1)
      (sym does.becomes.0.expired))
  tells-done (event.Expire now period) _ more does noted = absurd does.becomes.0
  tells-done (event.Mount n) a more does noted =
      subst (TellsAll old new)
      (sym (noted ∙ ap (λ (b : Answer). mounted_as b n) (answers-mount allowed old new n a pen does)))
      (tells-commit old new (Mounted (record { number = old.lists.given + 1; checkpoint = n }))
      (leads-on (event.Mount n) (Ok a) does)
      (subst (λ (l : Layout). KeepsRoots old.lists.table l.lists.table) (sym does.becomes)
      (roots-same old.lists.table))
      (ap shown_of does.becomes) (omega arith))
  tells-done (event.Unmount m) a more does noted =
      subst (TellsAll old new) (sym noted)
      (tells-commit old new (GivenBack m) (leads-on (event.Unmount m) (Ok a) does)
      (subst (λ (l : Layout). KeepsRoots old.lists.table l.lists.table) (sym does.becomes)
      (roots-same old.lists.table))
      (ap shown_of does.becomes) (mounted-before allowed old new m a pen does))
  tells-done (event.Retire segment) a more does noted =
      subst (TellsAll old new) (sym noted)
      (tells-freed old new segment does.becomes.emptied.count (leads-on (event.Retire segment) (Ok a) does)
      does.becomes.lists does.becomes.emptied.reclaimed)
  tells-done (event.Resize segments) a more does noted =
      subst (TellsAll old new) (sym noted)
      (tells-resized old new segments a
      (leads-on (event.Resize segments) (Ok a) does) does.becomes.0 does.becomes.1)
  tells-done (event.Move segment limit moment) a more does noted =
      subst (TellsAll old new) (sym noted)
      (tells-moved old new segment limit moment a
      (leads-on (event.Move segment limit moment) (Ok a) does) does.becomes.0 does.becomes.1)
  tells-done (event.Apply change) a more does noted = tells-nothing-of more noted (ap shown_of does.becomes.0)
  tells-done event a more does noted = tells-nothing-of more noted (ap shown_of does.becomes)

  tells : (event : Event) (reply : Reply) (more : List Commit) → Does allowed old event reply new
      → AreCommitsOf old event reply new more → TellsAll old new more
  tells event (Ok a) more does noted = tells-done event a more does noted
  tells event (Err e) more does none = tells-nothing-of more none (refused-shown event e old new does.becomes)

pub commits_tell_all : (allowed : AllowedBetween) → CommitsTellAll allowed
commits_tell_all allowed old new event reply more pen does commits =
    let all = tells allowed old new pen event reply more does commits in
    record { commits = commits; state = all.state; next = all.next }

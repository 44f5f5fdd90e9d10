-- What each event on a shared volume comes to, beside a world.
use Rattle.std.proofs.Common.{◌≡◌, ◌≢◌, ◌⊎◌, ℕ, List, [], ◌∷◌, ◌++◌, map, true, false, Option, Some, None, Ok, Err, refl, sym, ap, ◌∙◌, subst, inl, inr}
use Rattle.std.proofs.lemmas.Option.{same_Some}
use Rattle.std.specs.List.{AllByRecursion}
use Rattle.std.specs.Prelude.{◌==◌, if◌then◌else◌}
use Rattle.std.specs.Option.{ok_or}
use Rattle.std.specs.Ordering.{nat_cmp}
use Rattle.std.specs.FinMap.{find}
use Rattle.nl_types.specs.declared.error.VolError.{VolError}
use Rattle.nl_types.specs.declared.error.VolError.TheVariants.{BadMount, Memory}
use Rattle.nl_types.specs.declared.event.Ask.{Ask}
use Rattle.nl_types.specs.declared.event.Event.{Event}
use Rattle.nl_types.specs.declared.event.Event.TheVariants as event
use Rattle.nl_types.specs.declared.event.Event.TheVariants.{Mount, Unmount}
use Rattle.nl_types.specs.Plain.Calls.{IsUnlessMemory, and_then, reply_to}
use Rattle.nl_types.specs.Plain.Laws.{GivesBack}
use Rattle.nl_types.specs.Plain.Worlds.{Copy, Reply, World, copy_at, formatted, mount_read}
use Rattle.nl_commit.specs.Layout.{DoesIn, Layout, MeansWorld}
use Rattle.nl_commit.specs.Notes.{shared}
use Rattle.nl_cleaner.specs.Job.{JobView, next_by, next_cleaning, next_event}
use Rattle.nl_cleaner.specs.Rounds.{cleaning_habits}
use Rattle.nl_cleaner.specs.declared.job.Stage.{Stage}
use Rattle.nl_cleaner.specs.declared.job.Stage.TheVariants.{Cleaning, Ended, Expiring}
use Rattle.nl_commit.specs.CleanerViews.{cleaning_event}
use Rattle.nl_commit.specs.CleaningEvents.{needed_by}
use Rattle.nl_vstore.specs.Located.{needed_count}
use Rattle.nl_publish.specs.Cleaning.{CleanRan}
use Rattle.nl_publish.specs.Cleaning as cleaning
use Rattle.nl_publish.specs.Locks.{HeldPen, MountRan, Ran, listed, mount_reply}
use Rattle.nl_publish.specs.Locks as locks
use Rattle.nl_publish.specs.Mounts.{Claim}
use Rattle.nl_mounts.specs.Sharing.{MountsCopy}
use Rattle.nlvol.specs.SessionLaws.{Came, ComesTo, HeldBack, IsDoneTo, IsHeldBackTo, IsReadTo, IsSteppedTo, MountLost, Next, NoNext, NotBegun, Stayed, StaysTo, VolumeAndWorld, with_world}
use Rattle.nlvol.specs.SharedLaws.{DifferAll, IsBeside, IsMountIn, KeptVolumesAreBeside, NewVolumesAreBeside, number_of}
use Rattle.nlvol.specs.Sessions.{IsUnused}
use Rattle.nlvol.specs.SharedVolumes.{IsHeldTold, IsRoundOver, MountComes, ReadComes, Sharing, mounts_left_by, mount_of, shared_does, shared_steps, without_mount}
use Rattle.nlvol.specs.SharedVolumes as volume
use Rattle.nl_script.specs.FileReads.{IsToldThrough}
use Rattle.nlvol.proofs.SharedWorlds.{Beside, Laws, all_hold, back_refused, mount_found, mount_is_new}
use Rattle.nlvol.proofs.SharedWorldsMounts.{all_and_one, differ_more, differ_none, differ_rest, differ_some, each_so, found_so, left_differ, left_others, left_so}
use Rattle.nlvol.proofs.SharedWorldsRuns.{IsBehind, Reached, behind_ready, behind_whole, comes_behind, comes_clear, comes_same, held_back, held_before, stays_ready, stays_so, still_beside}

-- ---- reads through mounts

read_is : (w : World) (n : ℕ) (m : Claim) (ask : Ask) (held : IsMountIn w m) → m.number ≡ n
    → mount_read w n ask ≡ reply_to held.told.copy.tree ask
read_is w n m ask held same =
    ap (λ (k : ℕ). mount_read w k ask) (sym same)
    ∙ ap (λ (o : Option ℕ).
    and_then (and_then (ok_or o BadMount) (λ (k : ℕ). ok_or (copy_at w k) BadMount))
    (λ (copy : Copy). reply_to copy.tree ask))
    held.mounted
    ∙ ap (λ (o : Option Copy). and_then (ok_or o BadMount) (λ (copy : Copy). reply_to copy.tree ask))
    held.told.kept

told_in : (w : World) (n : ℕ) (m : Claim) (ask : Ask) (reply : Reply) → IsMountIn w m → m.number ≡ n
    → IsToldThrough m ask reply
    → IsUnlessMemory reply (mount_read w n ask)
told_in w n m ask reply held same told other =
    told held.told.copy.tree held.told.shown other ∙ sym (read_is w n m ask held same)

held_told : (w : World) (s : Sharing) (n : ℕ) (ask : Ask) (reply : Reply) → IsBeside w s → (o : Option Claim)
    → mount_of n s.mounts ≡ o
    → IsHeldTold o ask reply → IsUnlessMemory reply (mount_read w n ask)
held_told w s n ask reply before None at told = absurd told
held_told w s n ask reply before (Some m) at told =
    let found = found_so (IsMountIn w) n s.mounts m before.mounts at in
    told_in w n m ask reply found.0 found.1 told

-- ---- events

-- the event gives no mount back
abbrev GivesNone : Event → Type 0
GivesNone asked = (n : ℕ) → GivesBack asked n → ⊥

each_given_none : (asked : Event) → GivesNone asked → (claims : List Claim)
    → AllByRecursion (λ (m : Claim). GivesBack asked m.number → ⊥) claims
each_given_none asked none [] = tt
each_given_none asked none (m ∷ claims) = (none m.number, each_given_none asked none claims)

none_given : (claims : List Claim) → AllByRecursion (λ (m : Claim). ⊥ → ⊥) claims
none_given [] = tt
none_given (m ∷ claims) = ((λ no. no), none_given claims)

module _ (laws : Laws) (w : World) (old new : Sharing) (reply : Reply) (before : IsBeside w old) where
  differ : DifferAll (map number_of old.mounts)
  differ = differ_rest old.held.lost (map number_of old.mounts) before.numbers

  abbrev from : VolumeAndWorld
  from = with_world old w

  abbrev IsDone : Event → Type 0
  IsDone asked = Reached new (IsDoneTo from asked reply)

  came : (asked : Event) → Reached new (ComesTo from asked reply) → IsDone asked
  came asked so = (so.0, so.1, Came so.2)

  stayed : (asked : Event) → reply ≡ Err Memory → Reached new (StaysTo from) → IsDone asked
  stayed asked is so = (so.0, so.1, Stayed is so.2)

  not_begun : (asked : Event) → reply ≡ Err Memory → Reached new (IsHeldBackTo from) → IsDone asked
  not_begun asked is so = (so.0, so.1, HeldBack is so.2)

  -- an event that gives no mount back that is held
  ran_same : (asked : Event) → Ran old.held asked reply new.held → new.mounts ≡ old.mounts
      → AllByRecursion (λ (m : Claim). GivesBack asked m.number → ⊥) old.mounts
      → IsDone asked
  ran_same asked (locks.Done backs goes none) same others =
      came asked (comes_same laws w old new asked reply before
      (behind_whole laws w old.held new.held asked reply backs before.means goes) none.lost same others)
  ran_same asked (locks.NotBegun stuck is) same others =
      not_begun asked is (held_back laws w old new before same stuck)

  -- ---- unmounts

  module _ (n : ℕ) (behind : IsBehind w old.held (Unmount n) reply new.held) where
    held : AllByRecursion (IsMountIn behind.middle.1) old.mounts
    held = held_before laws w old new (Unmount n) reply before behind

    mounts_left : (r : Reply) → reply ≡ r
        → AllByRecursion (IsMountIn behind.after) (mounts_left_by n r old.mounts)
    mounts_left (Ok answer) is =
        all_hold laws behind.middle (new.held.layout, behind.after) (Unmount n) reply
        (without_mount n old.mounts) behind.does
        (each_so (λ (m : Claim). m.number ≢ n) (λ (m : Claim). GivesBack (Unmount n) m.number → ⊥)
        (λ m other same. other (sym same))
        (without_mount n old.mounts) (left_others n old.mounts differ))
        (left_so (IsMountIn behind.middle.1) n old.mounts held)
    mounts_left (Err e) is =
        let still = back_refused behind.middle (new.held.layout, behind.after) n e
        (subst (λ (r : Reply). DoesIn shared behind.middle (Unmount n) r (new.held.layout, behind.after)) is
        behind.does) in
        subst (λ (v : World). AllByRecursion (IsMountIn v) old.mounts) (sym still) held

    numbers_left : (r : Reply) → DifferAll (map number_of (mounts_left_by n r old.mounts))
    numbers_left (Ok answer) = left_differ n old.mounts differ
    numbers_left (Err e) = differ

    back_comes : new.held.lost ≡ None → new.mounts ≡ mounts_left_by n reply old.mounts
        → Reached new (ComesTo from (Unmount n) reply)
    back_comes none same =
        comes_clear laws w old new (Unmount n) reply before behind none
        (subst (AllByRecursion (IsMountIn behind.after)) (sym same) (mounts_left reply refl))
        (subst (λ (claims : List Claim). DifferAll (map number_of claims)) (sym same) (numbers_left reply))

  ran_back : (n : ℕ) → Ran old.held (Unmount n) reply new.held
      → new.mounts ≡ mounts_left_by n reply old.mounts → IsDone (Unmount n)
  ran_back n (locks.Done backs goes none) same =
      came (Unmount n) (back_comes n
      (behind_whole laws w old.held new.held (Unmount n) reply backs before.means goes) none.lost same)
  ran_back n (locks.NotBegun stuck is) same =
      not_begun (Unmount n) is (held_back laws w old new before
      (same ∙ ap (λ (r : Reply). mounts_left_by n r old.mounts) is) stuck)

  -- ---- mounts

  module _ (k n : ℕ) (behind : IsBehind w old.held (Mount k) (mount_reply n) new.held) where
    abbrev b : Beside
    b = (new.held.layout, behind.after)

    were : AllByRecursion (IsMountIn behind.middle.1) old.mounts
    were = held_before laws w old new (Mount k) (mount_reply n) before behind

    are : AllByRecursion (IsMountIn behind.after) old.mounts
    are =
        all_hold laws behind.middle b (Mount k) (mount_reply n) old.mounts behind.does
        (none_given old.mounts) were

    -- the number is none of theirs
    new_number : AllByRecursion (λ (m : Claim). m.number ≢ n) old.mounts
    new_number =
        each_so (IsMountIn behind.middle.1) (λ (m : Claim). m.number ≢ n)
        (λ m held. mount_is_new laws behind.middle b k n behind.does behind.means.world m held) old.mounts
        were

    -- the mount is held
    mount_held : (m : Claim) → m.number ≡ n → m.checkpoint ≡ k → MountsCopy new.held m → new.held.lost ≡ None
        → new.mounts ≡ old.mounts ++ m ∷ [] → Reached new (ComesTo from (Mount k) (mount_reply n))
    mount_held m number checkpoint copy none same =
        let found = mount_found laws behind.middle b k n behind.does behind.means.world in
        let one : IsMountIn behind.after m = record {
          mounted =
              ap (λ (j : ℕ). find nat_cmp j behind.after.mounts) number
              ∙ (found ∙ ap (λ (j : ℕ). Some j) (sym checkpoint));
          told = copy behind.after behind.does.means;
        } in
        let others : AllByRecursion (λ (c : Claim). c.number ≢ m.number) old.mounts =
        subst (λ (j : ℕ). AllByRecursion (λ (c : Claim). c.number ≢ j) old.mounts) (sym number) new_number in
        comes_clear laws w old new (Mount k) (mount_reply n) before behind none
        (subst (AllByRecursion (IsMountIn behind.after)) (sym same)
        (all_and_one (IsMountIn behind.after) old.mounts m are one))
        (subst (λ (claims : List Claim). DifferAll (map number_of claims)) (sym same)
        (differ_more old.mounts m differ others))

    -- or it is lost
    mount_lost : new.held.lost ≡ Some n → new.mounts ≡ old.mounts
        → Reached new (ComesTo from (Mount k) (mount_reply n))
    mount_lost lost same =
        comes_behind laws w old new (Mount k) (mount_reply n) before behind
        (subst (AllByRecursion (IsMountIn behind.after)) (sym same) are)
        (subst (λ (claims : List Claim). DifferAll (listed new.held.lost ++ map number_of claims)) (sym same)
        (differ_some new.held.lost n old.mounts lost differ new_number))

  mount_made : (k : ℕ) (m : Claim) → reply ≡ mount_reply m.number → m.checkpoint ≡ k → MountsCopy new.held m
      → new.mounts ≡ old.mounts ++ m ∷ [] → MountRan old.held k (Ok m.number) new.held
      → IsDone (Mount k)
  mount_made k m is of copy same (locks.Mounted clear n begun goes result all none) =
      let number : m.number ≡ n = cc result in
      let behind = (behind_ready laws w old.held clear new.held (Mount k)
      (mount_reply n) before.means begun.ready goes).0 in
      came (Mount k) (subst (λ (r : Reply). Reached new (ComesTo from (Mount k) r)) (sym (is ∙ ap mount_reply number))
      (mount_held k n behind m number of copy none same))
  mount_made k m is of copy same (locks.Lost clear n begun goes result apart lost) = absurd (cc result)
  mount_made k m is of copy same (locks.Refused clear e begun goes result) = absurd (cc result)
  mount_made k m is of copy same (locks.Pending ready apart result) = absurd (cc result)
  mount_made k m is of copy same (locks.Stuck stuck result) = absurd (cc result)

  mount_refused : (k : ℕ) (e : VolError) → reply ≡ Err e → new.mounts ≡ old.mounts
      → MountRan old.held k (Err e) new.held
      → IsDone (Mount k)
  mount_refused k e is same (locks.Mounted clear n begun goes result all none) = absurd (cc result)
  mount_refused k e is same (locks.Lost clear n begun goes result apart lost) =
      let memory : e ≡ Memory = cc result in
      let behind = (behind_ready laws w old.held clear new.held (Mount k)
      (mount_reply n) before.means begun.ready goes).0 in
      let so = mount_lost k n behind lost same in
      (so.0, so.1, MountLost k n refl (is ∙ ap (λ (x : VolError). Err x) memory) lost so.2)
  mount_refused k e is same (locks.Refused clear x begun goes result) =
      let error : e ≡ x = cc result in
      let behind =
      (behind_ready laws w old.held clear new.held (Mount k) (Err x) before.means begun.ready goes.0).0 in
      came (Mount k) (subst (λ (r : Reply). Reached new (ComesTo from (Mount k) r))
      (sym (is ∙ ap (λ (y : VolError). Err y) error))
      (comes_same laws w old new (Mount k) (Err x) before behind (goes.1 ∙ begun.ready.lost) same
      (none_given old.mounts)))
  mount_refused k e is same (locks.Pending ready apart result) =
      let memory : e ≡ Memory = cc result in
      stayed (Mount k) (is ∙ ap (λ (x : VolError). Err x) memory) (stays_ready laws w old new before same ready)
  mount_refused k e is same (locks.Stuck stuck result) =
      let memory : e ≡ Memory = cc result in
      not_begun (Mount k) (is ∙ ap (λ (x : VolError). Err x) memory) (held_back laws w old new before same stuck)

  mount_comes : (k : ℕ) → MountComes old k reply new → IsDone (Mount k)
  mount_comes k (volume.NoPlace is same) = stayed (Mount k) is (stays_so w old new before same)
  mount_comes k (volume.Mounted m is of told ran copy same) = mount_made k m is of copy same ran
  mount_comes k (volume.Refused e is ran same) = mount_refused k e is same ran

  -- ---- answers

  abbrev IsAnswered : Event → Type 0
  IsAnswered asked = Reached new (λ u. IsReadTo from asked reply u ⊎ IsDoneTo from asked reply u)

  answered : (asked : Event) → IsDone asked → IsAnswered asked
  answered asked so = (so.0, so.1, inr so.2)

  read_comes : (n : ℕ) (ask : Ask) → ReadComes old n ask reply new → IsAnswered (event.MountRead n ask)
  read_comes n ask (inl told) = (
    w,
    subst (IsBeside w) (sym told.0) before,
    inl (
      held_told w old n ask reply before (mount_of n old.mounts) refl told.1,
      ap (λ (s : Sharing). (s.held.layout, w)) told.0,
    ),
  )
  read_comes n ask (inr ran) =
      answered (event.MountRead n ask)
      (ran_same (event.MountRead n ask) ran.0 ran.1 (none_given old.mounts))

  other_comes : (asked : Event) → GivesNone asked
      → Ran old.held asked reply new.held × (new.mounts ≡ old.mounts)
      → IsAnswered asked
  other_comes asked none ran =
      answered asked (ran_same asked ran.0 ran.1 (each_given_none asked none old.mounts))

pub events_follow : (laws : Laws) (w : World) (old new : Sharing) (asked : Event) (reply : Reply)
    → IsBeside w old → shared_does old asked reply new
    → Reached new (λ u. IsReadTo (with_world old w) asked reply u ⊎ IsDoneTo (with_world old w) asked reply u)
events_follow laws w old new (Mount k) reply before does =
    answered laws w old new reply before (Mount k) (mount_comes laws w old new reply before k does)
events_follow laws w old new (Unmount n) reply before does =
    answered laws w old new reply before (Unmount n) (ran_back laws w old new reply before n does.0 does.1)
events_follow laws w old new (event.MountRead n ask) reply before does =
    read_comes laws w old new reply before n ask does
events_follow laws w old new (event.Apply change) reply before does =
    other_comes laws w old new reply before (event.Apply change) (λ n no. no) does
events_follow laws w old new (event.Read ask) reply before does =
    other_comes laws w old new reply before (event.Read ask) (λ n no. no) does
events_follow laws w old new (event.Checkpoint mode now) reply before does =
    other_comes laws w old new reply before (event.Checkpoint mode now) (λ n no. no) does
events_follow laws w old new (event.ChangeMode n mode) reply before does =
    other_comes laws w old new reply before (event.ChangeMode n mode) (λ n no. no) does
events_follow laws w old new (event.Remove n) reply before does =
    other_comes laws w old new reply before (event.Remove n) (λ n no. no) does
events_follow laws w old new (event.RemoveRange first last) reply before does =
    other_comes laws w old new reply before (event.RemoveRange first last) (λ n no. no) does
events_follow laws w old new (event.Expire now period) reply before does =
    other_comes laws w old new reply before (event.Expire now period) (λ n no. no) does
events_follow laws w old new (event.Move segment limit now) reply before does =
    other_comes laws w old new reply before (event.Move segment limit now) (λ n no. no) does
events_follow laws w old new (event.Retire segment) reply before does =
    other_comes laws w old new reply before (event.Retire segment) (λ n no. no) does
events_follow laws w old new (event.Resize segments) reply before does =
    other_comes laws w old new reply before (event.Resize segments) (λ n no. no) does
events_follow laws w old new (event.Listing options) reply before does =
    other_comes laws w old new reply before (event.Listing options) (λ n no. no) does

-- ---- steps of rounds: none gives a mount back

cleaning_gives_none : (l : Layout) (segment now : ℕ) → GivesNone (cleaning_event l segment now)
cleaning_gives_none l segment now = elim (needed_count l.store (needed_by l.lists) segment == 0)
    as (λ b. GivesNone (if b then event.Retire segment else event.Move segment 30 now))
    [ true ↦ λ n no. no | false ↦ λ n no. no ]

left_gives_none : (left : List ℕ) (now : ℕ) (l : Layout) (asked : Event)
    → next_cleaning left now l ≡ Some asked → GivesNone asked
left_gives_none [] now l asked is = absurd (cc is)
left_gives_none (segment ∷ rest) now l asked is =
    subst GivesNone (same_Some (cleaning_event l segment now) asked is) (cleaning_gives_none l segment now)

next_gives_none : (stage : Stage) (job : JobView) (l : Layout) (asked : Event)
    → next_by stage job l ≡ Some asked → GivesNone asked
next_gives_none Expiring job l asked is =
    subst GivesNone (same_Some (event.Expire job.moment job.period) asked is) (λ n no. no)
next_gives_none Cleaning job l asked is = left_gives_none job.left job.moment l asked is
next_gives_none Ended job l asked is = absurd (cc is)

module _ (laws : Laws) (w : World) (old new : Sharing) (job next : JobView) (reply : Option Reply)
    (before : IsBeside w old) (same : new.mounts ≡ old.mounts) where
  abbrev IsStepped : Type 0
  IsStepped = Reached new (λ u. IsSteppedTo (with_world old w) job reply u next)

  ran_on : CleanRan cleaning_habits old.held job reply new.held next → IsStepped
  ran_on (cleaning.Stepped begun asked answer ready is goes replied now tried) =
      let run = behind_ready laws w old.held begun new.held asked answer before.means ready goes.0 in
      let behind = run.0 in (
        behind.after,
        still_beside laws w old new asked answer before behind (goes.1 ∙ ready.lost) same
            (each_given_none asked (next_gives_none job.stage job begun.layout asked is) old.mounts),
        Next behind.middle asked answer (behind.backs, behind.begins)
            (subst (λ (l : Layout). next_event job l ≡ Some asked) (sym run.1) is) behind.does replied now,
      )
  ran_on (cleaning.Over ready is replied now tried) =
      let so = stays_ready laws w old new before same ready in
      (so.0, so.1, NoNext so.2 is replied now)
  ran_on (cleaning.NotBegun stuck replied now) =
      let so = held_back laws w old new before same stuck in
      (so.0, so.1, NotBegun so.2 replied now)

  is_over : IsRoundOver cleaning_habits old.held job reply new.held next → IsStepped
  is_over round =
      let still : new ≡ old = λ i. record { held = round.2 i; mounts = same i } in
      let so = stays_so w old new before still in (
        so.0,
        so.1,
        NoNext so.2 (subst (λ (h : HeldPen). next_event job h.layout ≡ None) (sym round.2) round.0) round.1
            round.3,
      )

pub steps_follow : (laws : Laws) (w : World) (old new : Sharing) (job next : JobView) (reply : Option Reply)
    → IsBeside w old → shared_steps cleaning_habits old job reply new next
    → Reached new (λ u. IsSteppedTo (with_world old w) job reply u next)
steps_follow laws w old new job next reply before (inl round, same) =
    is_over laws w old new job next reply before same round
steps_follow laws w old new job next reply before (inr ran, same) =
    ran_on laws w old new job next reply before same ran

-- ---- volumes as sessions begin with them

pub unused_beside : (w : World) (s : Sharing) → IsUnused s → MeansWorld s.held.layout w → IsBeside w s
unused_beside w s unused means = record {
  means = means;
  mounts = subst (AllByRecursion (IsMountIn w)) (sym unused.mounts) tt;
  numbers = differ_none s.held.lost (map number_of s.mounts) unused.lost
      (subst (λ (claims : List Claim). DifferAll (map number_of claims)) (sym unused.mounts) tt);
}

pub new_beside : NewVolumesAreBeside
new_beside geometry s new = unused_beside (formatted 0) s new.unused new.pen.means

pub kept_beside : KeptVolumesAreBeside
kept_beside image w s kept means = unused_beside w s kept.unused means

-- What a refused event leaves, and when space is the reason.
use Rattle.std.proofs.Common.{◌≡◌, ◌≢◌, ℕ, ◌+◌, refl, subst, inl, inr, sym, take, ◌∙◌}
use Rattle.std.specs.Prelude.{true, length, List, ◌++◌, ◌∷◌, Result, Ok, Err, IfErr, MatchResult}
use Rattle.nl_types.specs.declared.error.VolError.{VolError}
use Rattle.nl_types.specs.declared.error.VolError.TheVariants as error
use Rattle.nl_types.specs.declared.event.Event.{Event}
use Rattle.nl_types.specs.declared.event.Event.TheVariants.{Checkpoint, Move, Resize, Retire}
use Rattle.nl_types.specs.declared.segment.Log.{Log}
use Rattle.nl_types.specs.Plain.Laws.{IsJudged}
use Rattle.nl_types.specs.Blocks.Placing.{LogsFit}
use Rattle.nl_types.specs.Plain.Worlds.{Outcome}
use Rattle.nl_types.specs.Facts.WorldJudgements.{steps_judge}
use Rattle.nl_types.specs.declared.segment.SegmentInfo.{SegmentInfo}
use Rattle.nl_vstore.specs.Batches.{items_of}
use Rattle.nl_vstore.specs.Located.{needed_in}
use Rattle.nl_vstore.specs.Stores.{IsMoveRefused, KeepsStored, Store}
use Rattle.nl_reclaim.specs.Cleaning.{judged_for, retired}
use Rattle.nl_commit.specs.CleaningEvents.{HasResizedNone, IsMoveRefusal, needed_by}
use Rattle.nl_events.specs.Facts.CleaningEvents.{cleaned_judges}
use Rattle.nl_layout.specs.declared.root.Root.{Root}
use Rattle.nl_commit.specs.Laws.{IsAsBefore, MemoryIsTaken, RefusalsKeepPens, RefusalsHaveReasons, NoSpaceIsTrue, NoSpaceIsSaid}
use Rattle.nl_commit.specs.Volume.{latest_root}
use Rattle.nl_commit.specs.Layout.{AllowedBetween, Does, HasRefused, IsPen, LacksSpaceToSettle, Layout, Settled, cleaned, layout_of, unshared}
use Rattle.nl_events.specs.Facts.NothingChanged.{keeps-same}
use Rattle.nl_events.specs.Facts.Settlings.{births-alike, count-items}

move-kept : (checkpoint stamp : ℕ) (numbers : List ℕ) (e : VolError) (old new : Store)
    → IsMoveRefused checkpoint stamp numbers old new e
    → (e ≢ error.Fault) → KeepsStored old new
move-kept checkpoint stamp numbers error.NoSpace old new refused other = refused.1
move-kept checkpoint stamp numbers error.Memory old new refused other = refused
move-kept checkpoint stamp numbers error.Fault old new refused other = absurd (other refl)
move-kept checkpoint stamp numbers _ old new refused other = absurd refused

resize-kept : (segments : ℕ) (e : VolError) (old new : Store) → HasResizedNone segments old new e
    → (e ≢ error.Fault) → new ≡ old
resize-kept segments error.Fault old new refused other = absurd (other refl)
resize-kept segments error.Memory old new refused other = refused.1
resize-kept segments _ old new refused other = refused.0

-- what is refused but for a fault is as it was
refused_same : (event : Event) (e : VolError) (old new : Layout) → HasRefused event e old new
    → (e ≢ error.Fault) → IsAsBefore event old new
refused_same (Checkpoint mode moment) error.Fault old new refused other = absurd (other refl)
refused_same (Checkpoint mode moment) _ old new refused other = refused.0
refused_same (Retire segment) e old new refused other = refused.0
refused_same (Resize segments) e old new refused other =
    λ i. layout_of (refused.0 i) (resize-kept segments e old.store new.store refused.1 other i)
refused_same (Move segment limit moment) e old new refused other =
    (refused.0, by (judged_for old.store.segments segment limit) refused.1)
  where
    numbers : List ℕ
    numbers = take limit (needed_in old.store (needed_by old.lists) segment)

    of : (e : VolError) → IsMoveRefusal segment limit moment old.lists old.store new.store e
        → (e ≢ error.Fault) → KeepsStored old.store new.store
    of error.NumbersSpent none other = keeps-same old.store new.store none.0
    of error.NoSpace none other =
        move-kept
        (old.lists.table.latest.number + 1) moment numbers error.NoSpace old.store new.store none.1 other
    of error.Fault none other = absurd (other refl)
    of e none other =
        move-kept (old.lists.table.latest.number + 1) moment numbers e old.store new.store none other

    by : (r : Result SegmentInfo VolError)
        → MatchResult r (λ _. IsMoveRefusal segment limit moment old.lists old.store new.store e)
        (λ refusal. (e ≡ refusal) × (new.store ≡ old.store))
        → KeepsStored old.store new.store
    by (Ok i) none = of e none other
    by (Err f) none = keeps-same old.store new.store none.1
refused_same event e old new refused other = refused

pub refusals_keep_pens : (allowed : AllowedBetween) → RefusalsKeepPens allowed
refusals_keep_pens allowed old new event e does other = refused_same event e old new does.becomes other

-- what the world doesn't judge has its reason
pub refusals_have_reasons : (allowed : AllowedBetween) → RefusalsHaveReasons allowed
refusals_have_reasons allowed old new event e held does =
    let next = does.follows held.world.0 held.world.1 in
    elim next.step [
      | inl is ↦
          inl (subst (λ (done : Outcome). IfErr done.0 IsJudged) is
          (steps_judge (cleaned old event) held.world.0 event (cleaned_judges old.lists old.store event)))
      | inr refused ↦
          let same : e ≡ refused.error = cc in inr (subst (allowed old new event) (sym same) refused.may_be)
    ]

-- memory is a reason only where it is taken
pub memory_is_taken : MemoryIsTaken
memory_is_taken old new event held does =
    elim (refusals_have_reasons unshared old new event error.Memory held does) [
      | inl judged ↦ absurd judged
      | inr taken ↦ taken
    ]

-- so a retirement that is refused to a pen alone is judged by the segment
pub retirements_are_judged : (old new : Layout) (segment : ℕ) (e : VolError) → IsPen old
    → Does unshared old (Retire segment) (Err e) new
    → retired old.store (needed_by old.lists) segment ≡ Err e
retirements_are_judged old new segment error.Memory held does =
    absurd (memory_is_taken old new (Retire segment) held does)
retirements_are_judged old new segment e held does = does.becomes.1

-- space is a reason only where it lacks
pub no_space_is_true : (allowed : AllowedBetween) → NoSpaceIsTrue allowed
no_space_is_true allowed old new mode moment does = does.becomes.1.1

-- no list of logs fits a settling where none fits another
none-fits : (l : Layout) (root : Root) (lacks : LacksSpaceToSettle l) (settled : Settled l root)
    (logs : List Log)
    → IsPen l → LogsFit l.store.segments true (length (items_of settled.changes.births)) logs → ⊥
none-fits l root lacks settled logs held fits =
    lacks.lacks logs (subst (λ (n : ℕ). LogsFit l.store.segments true n logs)
    (count-items settled.changes ∙ births-alike l held.sound root lacks.root settled lacks.settled) fits)

-- what is done, or ended by a fault, had a list of logs that fits
pub no_space_is_said : (allowed : AllowedBetween) → NoSpaceIsSaid allowed
no_space_is_said allowed old new mode moment (Ok answer) held lacks does =
    let writes = does.becomes.writes in
    let appended = writes.written.appended in
    absurd (none-fits old (latest_root new.lists) lacks writes.settled appended.logs held appended.fits)
no_space_is_said allowed old new mode moment (Err error.Fault) held lacks does =
    let faulted = does.becomes in
    let broken = faulted.store.broken_off in
    let logs = broken.written ++ broken.failed ∷ broken.left in
    absurd (none-fits old faulted.root lacks faulted.settled logs held broken.fits)
no_space_is_said allowed old new mode moment (Err e) held lacks does = (e, refl, λ same. cc)

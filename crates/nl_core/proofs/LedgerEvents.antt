-- Each event of a pen is events of its ledger.
use Rattle.std.proofs.Common.{◌≡◌, ℕ, zero, suc, ◌+◌, ◌==◌, ◌<◌, Bool, true, false, cond, not, List, [], ◌∷◌, ◌++◌, take, refl, ap, sym, subst, ◌∙◌, arith, true≢false}
use Rattle.std.specs.Prelude.{if◌then◌else◌, Result, Ok, Err, MatchResult, map}
use Rattle.std.proofs.lemmas.Bool.{cond-false, cond-true}
use Rattle.nl_types.specs.declared.error.VolError.{VolError}
use Rattle.nl_types.specs.declared.error.VolError.TheVariants as error
use Rattle.nl_types.specs.declared.event.Event.{Event}
use Rattle.nl_types.specs.declared.event.Event.TheVariants.{Apply, ChangeMode, Checkpoint, Expire, Mount, Move, RemoveRange, Resize, Retire, Unmount}
use Rattle.nl_types.specs.declared.event.Event.TheVariants as event
use Rattle.nl_types.specs.declared.event.Mode.{Mode}
use Rattle.nl_types.specs.declared.reply.Answer.{Answer}
use Rattle.nl_types.specs.declared.reply.Answer.TheVariants as answer
use Rattle.nl_types.specs.declared.segment.SegmentInfo.{SegmentInfo}
use Rattle.nl_types.specs.Blocks.Lifetimes.{CoveredNumbersStay, EachAllowed, EndsOnceSince, KeepsCovered, Ledger, LedgerEvent, NumbersEndOnce, Frees, Forgets, Makes, ledger_after, ledger_after_all}
use Rattle.nl_types.specs.Plain.Worlds.{is_moving}
use Rattle.nl_vstore.specs.Located.{needed_in}
use Rattle.nl_vstore.specs.Stores.{IsMoveRefused, IsStore}
use Rattle.nl_reclaim.specs.Cleaning.{judged_for}
use Rattle.nl_reclaim.specs.Reclaims.{stood_in}
use Rattle.nl_events.specs.CleanedPens.{AddsMinor, LeavesPen, StaysPen}
use Rattle.nl_commit.specs.CleaningEvents.{HasMovedOut, IsMoveRefusal, needed_by}
use Rattle.nl_commit.specs.Draft.{HasNextNumber}
use Rattle.nl_core.specs.LedgerEvents.{EventsAreLedgerEvents, LedgerGoesOn, RunsAreLedgerEvents, RunsKeepNumbers, done_events}
use Rattle.nl_commit.specs.Layout.{AllowedBetween, HasDone, HasPublished, HasRefused, HasRetired, IsPen, Layout, layout_of, ledger_of}
use Rattle.nl_commit.specs.Volume.{IsTakenOut, Lists, moved_lists, with_minor}
use Rattle.nl_events.specs.Facts.Checkpointing.{ledger-same}
use Rattle.nl_events.specs.Facts.Checkpoints.{allowed-behind, ledger-behind}
use Rattle.nl_events.specs.Facts.CleanedPens.{moves_keep_pens, refused_moves_keep_pens, retirements_keep_pens}
use Rattle.nl_events.specs.Facts.CleaningEvents.{none_needed}
use Rattle.nl_events.specs.Facts.Ledgers.{stands-latest}
use Rattle.nl_events.specs.Facts.MinorPens.{minors_keep_pens, nothing-allowed}
use Rattle.nl_events.specs.Facts.ModeChanges.{ledger-moded}
use Rattle.nl_events.specs.Facts.Removals.{each-allowed, ledger-left}
use Rattle.nl_events.specs.Facts.ResizedPens.{resized-ledger, unresized-ledger}

-- ---- one event

module _ (old new : Layout) (pen : IsPen old) where
  abbrev GoesOn : List LedgerEvent → Type 0
  GoesOn events = LedgerGoesOn events (ledger_of old) (ledger_of new)

  -- no ledger event
  stays : ledger_of new ≡ ledger_of old → GoesOn []
  stays same = record { each = tt; after = same }

  same-layout : new ≡ old → ledger_of new ≡ ledger_of old
  same-layout same = ap ledger_of same

  checkpointed : (mode : Mode) (moment : ℕ) (done : HasPublished mode moment old new)
      → GoesOn (Makes done.writes.settled.changes.births done.writes.settled.changes.ends ∷ [])
  checkpointed mode moment done =
      let tree = pen.world.1.tree in
      let w = pen.world.0 in
      let stands = stands-latest old pen.sound w.tree tree in
      record {
        each = (allowed-behind old new mode moment pen.sound tree.base w.tree stands done.writes, tt);
        after = ledger-behind old new mode moment pen.sound tree.base w.tree stands done.writes;
      }

  -- checkpoints are gone
  removed : (gone : List ℕ) → IsTakenOut gone old.lists new.lists → new.store ≡ old.store
      → GoesOn (map Forgets gone)
  removed gone taken store = record {
    each = each-allowed old gone taken.stays;
    after = (λ i. ledger_of (layout_of (taken.lists i) (store i))) ∙ ledger-left old gone taken.stays;
  }

  retired-segment : (segment : ℕ) (a : Answer) → HasRetired segment a old new → IsStore new.store
      → GoesOn (Frees (stood_in old.store segment) ∷ [])
  retired-segment segment a done store =
      let emptied = done.emptied in
      let leaves : LeavesPen segment old new =
      retirements_keep_pens segment emptied.count old new pen done.lists store
      (none_needed old.lists old.store segment emptied.count emptied.judged) emptied.reclaimed in
      record { each = (leaves.allowed, tt); after = leaves.ledger }

  -- where blocks were moved, a checkpoint without births and ends was written
  moved-segment : (segment limit moment : ℕ) (a : Answer) → new.lists ≡ moved_lists moment a old.lists
      → HasMovedOut segment limit moment a old.lists old.store new.store → IsStore new.store
      → GoesOn (if is_moving (Ok a) then Makes [] [] ∷ [] else [])
  moved-segment segment limit moment a lists moved store = by (is_moving (Ok a)) refl
    where
      mid : Layout
      mid = layout_of old.lists new.store

      kept : StaysPen old mid
      kept =
          moves_keep_pens segment (old.lists.table.latest.number + 1) moment
          (take limit (needed_in old.store (needed_by old.lists) segment))
          old mid pen refl store moved.moved.moved

      some : (m : ℕ) → not (m == 0) ≡ true → 0 < m
      some zero is = absurd (true≢false (sym is))
      some (suc m) is = omega arith

      by : (b : Bool) → is_moving (Ok a) ≡ b → GoesOn (cond b (Makes [] [] ∷ []) [])
      by false idle = stays (ap (λ (l : Lists). ledger_of (layout_of l new.store)) same ∙ kept.ledger)
        where
          same : new.lists ≡ old.lists
          same = lists ∙ cond-false (is_moving (Ok a)) (with_minor moment old.lists) old.lists idle
      by true moving = record {
        each = (nothing-allowed (ledger_of old), tt);
        after =
            ap (λ (l : Lists). ledger_of (layout_of l new.store)) more ∙ minor.ledger
            ∙ ap (ledger_after (Makes [] [])) kept.ledger;
      }
        where
          more : new.lists ≡ with_minor moment old.lists
          more = lists ∙ cond-true (is_moving (Ok a)) (with_minor moment old.lists) old.lists moving

          left : HasNextNumber old.lists
          left =
              moved.left (some moved.count.moved
              (sym (ap (λ (b : Answer). is_moving (Ok b)) moved.answer_is) ∙ moving))

          minor : AddsMinor moment mid (layout_of (with_minor moment old.lists) new.store)
          minor = minors_keep_pens moment mid kept.pen left

  done-goes_on : (e : Event) (a : Answer) (done : HasDone old e a new) → IsStore new.store
      → GoesOn (done_events old new e a done)
  done-goes_on (Checkpoint mode moment) a done store = checkpointed mode moment done
  done-goes_on (event.Remove n) a done store = removed (n ∷ []) done.0 done.1
  done-goes_on (RemoveRange first last) (answer.Removed range) done store =
      removed range.removed done.0.taken done.1
  done-goes_on (RemoveRange first last) a done store = absurd done.0
  done-goes_on (Expire now period) (answer.Expired gone) done store = removed gone done.0.taken done.1
  done-goes_on (Expire now period) a done store = absurd done.0
  done-goes_on (Retire segment) a done store = retired-segment segment a done store
  done-goes_on (Move segment limit moment) a done store =
      moved-segment segment limit moment a done.0 done.1 store
  done-goes_on (Resize segments) a done store = stays (resized-ledger old new pen done.0 store done.1.grown)
  done-goes_on (ChangeMode n mode) a done store = stays (ap ledger_of done ∙ ledger-moded old n mode)
  done-goes_on (Apply change) a done store = stays (ap ledger_of done.0)
  done-goes_on (Mount n) a done store = stays (ap ledger_of done)
  done-goes_on (Unmount m) a done store = stays (ap ledger_of done)
  done-goes_on event a done store = stays (same-layout done)

  -- a refusal changes nothing of the ledger
  refused-same : (event : Event) (e : VolError) → HasRefused event e old new → IsStore new.store
      → ledger_of new ≡ ledger_of old
  refused-same (Checkpoint mode moment) error.Fault refused store =
      ledger-same old new mode moment pen refused
  refused-same (Checkpoint mode moment) e refused store = same-layout refused.0
  refused-same (Move segment limit moment) e refused store =
      by (judged_for old.store.segments segment limit) refused.1
    where
      numbers : List ℕ
      numbers = take limit (needed_in old.store (needed_by old.lists) segment)

      same : new.store ≡ old.store → ledger_of new ≡ ledger_of old
      same is = λ i. ledger_of (layout_of (refused.0 i) (is i))

      moved-none : (e : VolError)
          → IsMoveRefused (old.lists.table.latest.number + 1) moment numbers old.store new.store e
          → ledger_of new ≡ ledger_of old
      moved-none e none =
          let kept : StaysPen old new =
          refused_moves_keep_pens
          (old.lists.table.latest.number + 1) moment numbers e old new pen refused.0 store none in
          kept.ledger

      of : (e : VolError) → IsMoveRefusal segment limit moment old.lists old.store new.store e
          → ledger_of new ≡ ledger_of old
      of error.NumbersSpent none = same none.0
      of error.NoSpace none = moved-none error.NoSpace none.1
      of error.Fault none = moved-none error.Fault none.1
      of e none = moved-none e none

      by : (r : Result SegmentInfo VolError)
          → MatchResult r (λ _. IsMoveRefusal segment limit moment old.lists old.store new.store e)
          (λ refusal. (e ≡ refusal) × (new.store ≡ old.store))
          → ledger_of new ≡ ledger_of old
      by (Ok i) none = of e none
      by (Err f) none = same none.1
  refused-same (Retire segment) e refused store = same-layout refused.0
  refused-same (Resize segments) e refused store = unresized-ledger old new segments e pen refused store
  refused-same event e refused store = same-layout refused

pub events_are_ledger_events : (allowed : AllowedBetween) → EventsAreLedgerEvents allowed
events_are_ledger_events allowed old new event (Ok a) pen does =
    done-goes_on old new pen event a does.becomes does.pen.sound.store
events_are_ledger_events allowed old new event (Err e) pen does =
    stays old new pen (refused-same old new pen event e does.becomes does.pen.sound.store)

-- ---- a list of events

-- one list of ledger events behind another
after-append : (es fs : List LedgerEvent) (l : Ledger)
    → ledger_after_all (es ++ fs) l ≡ ledger_after_all fs (ledger_after_all es l)
after-append [] fs l = refl
after-append (e ∷ es) fs l = after-append es fs (ledger_after e l)

each-append : (es fs : List LedgerEvent) (l : Ledger) → EachAllowed es l
    → EachAllowed fs (ledger_after_all es l)
    → EachAllowed (es ++ fs) l
each-append [] fs l here rest = rest
each-append (e ∷ es) fs l here rest = (here.0, each-append es fs (ledger_after e l) here.1 rest)

goes_on-append : (es fs : List LedgerEvent) (old mid new : Ledger) → LedgerGoesOn es old mid
    → LedgerGoesOn fs mid new
    → LedgerGoesOn (es ++ fs) old new
goes_on-append es fs old mid new first rest = record {
  each = each-append es fs old first.each (subst (EachAllowed fs) first.after rest.each);
  after = rest.after ∙ (ap (ledger_after_all fs) first.after ∙ sym (after-append es fs old));
}

pub runs_are_ledger_events : (allowed : AllowedBetween) → RunsAreLedgerEvents allowed
runs_are_ledger_events allowed old new [] [] pen run = ([], record { each = tt; after = ap ledger_of run })
runs_are_ledger_events allowed old new (e ∷ es) (r ∷ rs) pen run =
    let first = events_are_ledger_events allowed old run.0 e r pen run.1 in
    let rest = runs_are_ledger_events allowed run.0 new es rs run.1.pen run.2 in
    (_, goes_on-append _ rest.0 (ledger_of old) (ledger_of run.0) (ledger_of new) first rest.1)
runs_are_ledger_events allowed old new [] (r ∷ rs) pen run = absurd run
runs_are_ledger_events allowed old new (e ∷ es) [] pen run = absurd run

-- so numbers keep what they stand for, and end once
pub runs_keep_numbers : (allowed : AllowedBetween) → CoveredNumbersStay → NumbersEndOnce
    → RunsKeepNumbers allowed
runs_keep_numbers allowed stay end old new events replies pen run =
    let goes = runs_are_ledger_events allowed old new events replies pen run in
    let is = pen.sound.ledger in
    record {
      covered =
          subst (KeepsCovered (ledger_of old)) (sym goes.1.after)
          (stay goes.0 (ledger_of old) is goes.1.each);
      ends =
          subst (EndsOnceSince (ledger_of old)) (sym goes.1.after)
          (end goes.0 (ledger_of old) is goes.1.each);
    }

-- A move that is done leaves fewer needed numbers in its segment.
use Rattle.std.proofs.Common.{◌≡◌, ◌≢◌, ℕ, ◌+◌, ◌-◌, ◌<◌, ◌==◌, Bool, true, false, cond, List, length, Option, Some, None, Ok, Err, refl, sym, ap, subst, ◌∙◌, true≢false, arith}
use Rattle.std.specs.Prelude.{IsOk, slice_get}
use Rattle.std.proofs.lemmas.List.{length-drop}
use Rattle.std.proofs.lemmas.Bool.{eq-eqb}
use Rattle.std.proofs.lemmas.Option.{get_or_from_slice_get}
use Rattle.nl_types.specs.declared.event.Event.{Event}
use Rattle.nl_types.specs.declared.event.Event.TheVariants.{Move, Retire}
use Rattle.nl_types.specs.declared.reply.Answer.{Answer}
use Rattle.nl_types.specs.declared.segment.SegmentInfo.{SegmentInfo}
use Rattle.nl_types.specs.declared.segment.SegmentState.TheVariants.{Active, Clean, Dirty, Error}
use Rattle.nl_types.specs.Blocks.Segments.{IsClosed, Segments, clean_info, is_closed}
use Rattle.nl_types.specs.Plain.Worlds.{Reply}
use Rattle.nl_vstore.specs.Located.{needed_count}
use Rattle.nl_reclaim.specs.Cleaning.{judged_segment, judged_by, judged_info}
use Rattle.nl_reclaim.specs.Moves.{HasMovedPages, needed_now}
use Rattle.nl_reclaim.specs.Facts.Moves.{move-takes-first}
use Rattle.nl_events.specs.CleanedPens.{kept_store}
use Rattle.nl_commit.specs.CleaningEvents.{needed_by}
use Rattle.nl_commit.specs.Layout.{Does, IsPen, Layout, unshared}
use Rattle.nl_core.specs.Facts.MovedNeeds.{moved-needs}
use Rattle.nl_lib.specs.CleanedSegments.{Cleans, is_moved}

-- a segment that may be cleaned takes no more logs
closed-by-state : (i : SegmentInfo) → IsOk (judged_info (Some i)) → is_closed i.state ≡ true
closed-by-state i = elim i.state as (λ s. IsOk (judged_by s i) → is_closed s ≡ true) [
  | Clean ↦ λ h. absurd (true≢false (sym h))
  | Dirty ↦ λ _. refl
  | Active ↦ λ h. absurd (true≢false (sym h))
  | Error ↦ λ h. absurd (true≢false (sym h))
]

closed : (s : Segments) (segment : ℕ) → IsOk (judged_segment s segment) → IsClosed s segment
closed s segment ok = by (slice_get s.each segment) refl ok
  where
    by : (o : Option SegmentInfo) → slice_get s.each segment ≡ o → IsOk (judged_info o) → IsClosed s segment
    by None is h = absurd (true≢false (sym h))
    by (Some i) is h =
        ap (λ (x : SegmentInfo). is_closed x.state) (get_or_from_slice_get s.each segment i clean_info is)
        ∙ closed-by-state i h

-- how many numbers are needed whose pages stand in the segment
abbrev pub needed_of : Layout → ℕ → ℕ
needed_of l segment = needed_count l.store (needed_by l.lists) segment

after-move : (old new : Layout) (segment now : ℕ) (answer : Answer) → IsPen old
    → Does unshared old (Move segment 30 now) (Ok answer) new
    → needed_of new segment ≡ needed_of old segment - 30
after-move old new segment now answer held does =
    let has : HasMovedPages segment (old.lists.table.latest.number + 1) now 30 (kept_store old)
    (kept_store new) =
    record {
      needs = moved-needs old new segment 30 now answer held does;
      moved = does.becomes.1.moved.moved;
      store = does.pen.sound.store;
    } in
    let first =
    move-takes-first segment (old.lists.table.latest.number + 1) now 30 (kept_store old) (kept_store new)
    held.sound.store (closed old.store.segments segment does.becomes.1.moved.judged) has in
    ap (λ (vs : List ℕ). length vs) first.needed ∙ length-drop 30 (needed_now (kept_store old) segment)

pub fewer : (old new : Layout) (segment now : ℕ) (event : Event) (reply : Reply) → IsPen old
    → Cleans segment now old event reply new → is_moved event reply ≡ true
    → needed_of new segment < needed_of old segment
fewer old new segment now event reply held cleans moved =
    by (needed_of old segment == 0) refl
  where
    not-retired : (r : Reply) → is_moved (Retire segment) r ≡ true → ⊥
    not-retired (Ok answer) h = true≢false (sym h)
    not-retired (Err e) h = true≢false (sym h)

    done : (r : Reply) → is_moved (Move segment 30 now) r ≡ true
        → Does unshared old (Move segment 30 now) r new
        → (needed_of old segment ≢ 0) → needed_of new segment < needed_of old segment
    done (Ok answer) h does some =
        let is = after-move old new segment now answer held does in
        omega (arith, is, some)
    done (Err e) h does some = absurd (true≢false (sym h))

    by : (t : Bool) → (needed_of old segment == 0) ≡ t → needed_of new segment < needed_of old segment
    by true none =
        let is : event ≡ Retire segment =
        cleans.next ∙ ap (λ (b : Bool). cond {A = Event} b (Retire segment) (Move segment 30 now)) none in
        absurd (not-retired reply (subst (λ (e : Event). is_moved e reply ≡ true) is moved))
    by false some =
        let is : event ≡ Move segment 30 now =
        cleans.next ∙ ap (λ (b : Bool). cond {A = Event} b (Retire segment) (Move segment 30 now)) some in
        done reply (subst (λ (e : Event). is_moved e reply ≡ true) is moved)
        (subst (λ (e : Event). Does unshared old e reply new) is cleans.does)
        (λ zero-is. true≢false (sym (eq-eqb (needed_of old segment) 0 zero-is) ∙ some))

-- The counts of a pen's needed blocks behind each event.
use Rattle.std.proofs.Common.{◌≡◌, ℕ, ◌+◌, ◌<◌, ◌≤◌, Bool, true, List, [], ◌∷◌, ◌++◌, length, slice_get, take, Option, Result, Ok, Err, inl, inr, refl, ap, sym, subst, ◌∙◌, arith, true≢false}
use Rattle.std.specs.Prelude.{IfOk, IsOk, MatchResult, OnErr, map, max, min}
use Rattle.std.specs.List.{AllPairs}
use Rattle.std.specs.Option.{ok_or, option_map}
use Rattle.std.proofs.lemmas.List.{length-take}
use Rattle.std.proofs.lemmas.List.FromFn.{get_or-map-range_with_len, length-map-range_with_len}
use Rattle.std.proofs.lemmas.Option.{slice_get_cases}
use Rattle.nl_types.specs.declared.error.VolError.{VolError}
use Rattle.nl_types.specs.declared.error.VolError.TheVariants as error
use Rattle.nl_types.specs.declared.event.Event.TheVariants as event
use Rattle.nl_types.specs.declared.event.Mode.{Mode}
use Rattle.nl_types.specs.declared.reply.Answer.{Answer}
use Rattle.nl_types.specs.declared.reply.Answer.TheVariants as answer
use Rattle.nl_types.specs.declared.segment.SegmentInfo.{SegmentInfo}
use Rattle.nl_types.specs.Blocks.Entries.{Entry, is_needed}
use Rattle.nl_types.specs.Blocks.NeedLaws.{AreGone}
use Rattle.nl_types.specs.Plain.NumberLists.{is_one_of}
use Rattle.nl_types.specs.Plain.Trees.{Tree}
use Rattle.nl_types.specs.Plain.Worlds.{Reply}
use Rattle.nl_vstore.specs.Batches.{Changes}
use Rattle.nl_vstore.specs.Counts.{needed_counts}
use Rattle.nl_vstore.specs.Located.{needed_count, needed_in}
use Rattle.nl_vstore.specs.Stores.{IsMoveRefused, IsMoved, IsReclaimed, IsStore, Store, capacity, content_in}
use Rattle.nl_reclaim.specs.Cleaning.{CanBeMoved, HasListedFirst, HasListedNone, HasMovedFirst, freed_by, judged_for, judged_info, retired, retired_with, split}
use Rattle.nl_reclaim.specs.Moves.{ListedMovesAreFirst}
use Rattle.nl_reclaim.specs.declared.moving.MoveCount.{MoveCount}
use Rattle.nl_reclaim.specs.Counted.{Counted, IsCounted}
use Rattle.nl_reclaim.specs.Events.{AreNeededIn, HasMovedNeeded, IsLatest, IsNextWritten}
use Rattle.nl_reclaim.specs.Laws.{EmptyCheckpointsKeepCounts, FirstNeededStandThere, RefusedWritesKeepCounts, RetirementsKeepCounts}
use Rattle.nl_cpfile.specs.Searching.{IsLeastAbove}
use Rattle.nl_cpfile.specs.Tables.{all, moded}
use Rattle.nl_cpfile.specs.Tables as cpfile
use Rattle.nl_cpfile.specs.declared.checkpoint.Checkpoint.{Checkpoint}
use Rattle.nl_cpfile.specs.Facts.Rising.{map-push}
use Rattle.nl_layout.specs.Root.{root_of}
use Rattle.nl_tree.specs.Held.{Holding}
use Rattle.nl_files.specs.TreeLaws.{StandsOverLatest}
use Rattle.nl_commit.specs.CleaningEvents.{HasMovedNothing, IsMoveRefusal, kept_numbers, needed_by}
use Rattle.nl_commit.specs.Draft.{HasNextNumber, IsDraftRefusal}
use Rattle.nl_commit.specs.Layout.{HasRefused, IsPen, IsSoundPen, Layout, layout_of, ledger_of, layout_pages, reached_by}
use Rattle.nl_events.specs.NeededBlocks.{AreNeededCounts, HasLostBetween, HasWrittenBatch, IsSpanOf, taken_out}
use Rattle.nl_commit.specs.Volume.{IsExpired, IsTakenOut, IsTakenOutRange, Lists, kept_by, latest_root, minor_checkpoint, with_checkpoint_mode, with_minor, without_checkpoints}
use Rattle.nl_events.specs.Facts.Checkpoints.{differs-behind, kept-next, number-next}
use Rattle.nl_events.specs.Facts.CleaningEvents.{none_needed}
use Rattle.nl_events.specs.Facts.ExpiredNumbers.{without-none}
use Rattle.nl_events.specs.Facts.KeptLists.{among-found, in-span, left-or-gone, left-was}
use Rattle.nl_events.specs.Facts.KeptNumbers.{found-among}
use Rattle.nl_events.specs.Facts.Ledgers.{stands-latest}
use Rattle.nl_events.specs.Facts.NothingChanged.{keeps-same, nothing-fits, nothing-written}
use Rattle.nl_events.specs.Facts.Outside.{retired-inside}
use Rattle.nl_events.specs.Facts.TableChanges.{all-with_mode, all-without, left, moded-same}

-- ---- the latest checkpoint

pub latest-of : (l : Layout) → IsSoundPen l
    → IsLatest l.lists.table.latest.number (kept_numbers l.lists) l.store
latest-of l sound = record {
  there = found-among l.lists.table.latest.number (kept_by l.lists) l.lists.table.latest sound.latest;
  last = λ c among.
      let (k, at) = among-found c (kept_by l.lists) among in
      sound.ledger.below c (reached_by (layout_pages l) k) (ap (option_map (reached_by (layout_pages l))) at);
  bounded = sound.ledger.bounded;
}

-- ---- what changes lists alone

-- the same checkpoints are kept, whatever is answered
pub kept-unless : (r : Reply) (old new done : Lists) → IfOk r (λ _. new ≡ done) → OnErr r (new ≡ old)
    → kept_numbers done ≡ kept_numbers old
    → kept_numbers new ≡ kept_numbers old
kept-unless (Ok a) old new done is same kept = ap kept_numbers is ∙ kept
kept-unless (Err e) old new done is same kept = ap kept_numbers same

numbers-moded : (n : ℕ) (mode : Mode) (kept : List Checkpoint)
    → cpfile.kept_numbers (map (moded n mode) kept) ≡ cpfile.kept_numbers kept
numbers-moded n mode [] = refl
numbers-moded n mode (c ∷ kept) =
    ap (λ (m : ℕ). m ∷ cpfile.kept_numbers (map (moded n mode) kept))
    (moded-same (λ (d : Checkpoint). d.number) n mode c refl)
    ∙ ap (λ (ms : List ℕ). c.number ∷ ms) (numbers-moded n mode kept)

pub kept-moded : (n : ℕ) (mode : Mode) (l : Lists)
    → kept_numbers (with_checkpoint_mode n mode l) ≡ kept_numbers l
kept-moded n mode l =
    ap cpfile.kept_numbers (all-with_mode n mode l.table) ∙ numbers-moded n mode (all l.table)

-- so the counts stay
pub counts-over : (old new : Lists) (s : Store) (c : Counted) → kept_numbers new ≡ kept_numbers old
    → AreNeededCounts (layout_of old s) c
    → AreNeededCounts (layout_of new s) c
counts-over old new s c kept counted = subst (λ (ns : List ℕ). IsCounted s ns c) (sym kept) counted

-- ---- a checkpoint

module _ (old new : Layout) (mode : Mode) (moment : ℕ) (batch : Changes)
    (has : HasWrittenBatch mode moment batch old new) where
  -- over a current tree that stands over the latest checkpoint
  pub written-over : (sound : IsSoundPen old) (base : Holding) (tree : Tree)
      → StandsOverLatest (ledger_of old) (root_of (latest_root old.lists)) old.lists.current base tree
      → IsNextWritten new.lists.table.latest.number batch (kept_numbers old.lists) old.store new.store
  written-over sound base tree stands =
      subst (λ (b : Changes).
      IsNextWritten new.lists.table.latest.number b (kept_numbers old.lists) old.store new.store)
      has.batch_is
      (record {
        sound = sound.store;
        latest = old.lists.table.latest.number;
        is_latest = latest-of old sound;
        next = number-next old new mode moment has.writes;
        fits = has.writes.settled.fits;
        ends_once = (differs-behind old new mode moment sound base tree stands has.writes).ended_once;
        stamp = new.lists.table.latest.stamp;
        written = has.writes.written;
      })

  pub next-written : IsPen old
      → IsNextWritten new.lists.table.latest.number batch (kept_numbers old.lists) old.store new.store
  next-written pen =
      let means = pen.world.1.tree in
      written-over pen.sound means.base pen.world.0.tree (stands-latest old pen.sound pen.world.0.tree means)

  pub numbers-next : kept_numbers new.lists ≡ kept_numbers old.lists ++ new.lists.table.latest.number ∷ []
  numbers-next =
      ap cpfile.kept_numbers (kept-next old new mode moment has.writes)
      ∙ map-push (λ (c : Checkpoint). c.number) (kept_by old.lists) new.lists.table.latest

-- where it is refused, be it in the middle of its writes
pub refused-counts : RefusedWritesKeepCounts
    → (old new : Layout) (mode : Mode) (moment : ℕ) (e : VolError) (c : Counted) → IsStore old.store
    → IsStore new.store
    → HasRefused (event.Checkpoint mode moment) e old new → AreNeededCounts old c → AreNeededCounts new c
refused-counts keep old new mode moment error.Fault c old-store new-store refused counted =
    subst (λ (l : Lists). AreNeededCounts (layout_of l new.store) c) (sym refused.lists)
    (keep (old.lists.table.latest.number + 1)
    (max moment old.lists.table.latest.stamp) refused.settled.changes error.Fault (kept_numbers old.lists) c
    old.store new.store old-store new-store refused.store counted)
refused-counts keep old new mode moment _ c old-store new-store refused counted =
    subst (λ (l : Layout). AreNeededCounts l c) (sym refused.0) counted

-- ---- one segment's count

module _ (s : Store) (needed : Entry → Bool) (segment : ℕ) where
  abbrev told : Option ℕ → Result ℕ VolError
  told o = ok_or o error.BadRange

  as-many : length (needed_counts s needed) ≡ length s.segments.each
  as-many = length-map-range_with_len (needed_count s needed) 0 (length s.segments.each)

  -- what is told of a segment that there is
  pub told-count : (n : ℕ)
      → ◌≡◌ {A = Result ℕ VolError} (Ok n) (told (slice_get (needed_counts s needed) segment))
      → (segment < length s.segments.each) × (n ≡ needed_count s needed segment)
  told-count n is = elim (slice_get_cases (needed_counts s needed) segment).1 [
    | inl there ↦
        let found : ◌≡◌ {A = Result ℕ VolError} (Ok n) (Ok there.0) = is ∙ ap told there.2 in
        let one : n ≡ there.0 = cc in
        let low : segment < length s.segments.each = omega (arith, there.1, as-many) in (
          low,
          one ∙ sym there.3
              ∙ get_or-map-range_with_len (needed_count s needed) 0
              (length s.segments.each) segment segment there.0 low (omega arith),
        )
    | inr past ↦
        let none : ◌≡◌ {A = Result ℕ VolError} (Ok n) (Err error.BadRange) = is ∙ ap told past.1 in cc
  ]

  -- where there is none, no segment is retired
  pub told-none : (e : VolError)
      → ◌≡◌ {A = Result ℕ VolError} (Err e) (told (slice_get (needed_counts s needed) segment))
      → (length s.segments.each ≤ segment) × (retired s needed segment ≡ Err e)
  told-none e is = elim (slice_get_cases (needed_counts s needed) segment).1 [
    | inl there ↦ let some : ◌≡◌ {A = Result ℕ VolError} (Err e) (Ok there.0) = is ∙ ap told there.2 in cc
    | inr past ↦
        let outside : length s.segments.each ≤ segment = omega (arith, past.0, as-many) in
        let none : ◌≡◌ {A = Result ℕ VolError} (Err e) (Err error.BadRange) = is ∙ ap told past.1 in (
          outside,
          elim (slice_get_cases s.segments.each segment).1 [
            | inl there ↦ absurd (omega (arith, there.1, outside))
            | inr nowhere ↦
                ap (λ (o : Option SegmentInfo). freed_by (judged_info o) s needed segment) nowhere.1
                ∙ sym none
          ],
        )
  ]

-- ---- cleaning

-- the segment is judged by the blocks that are told to be needed in it
pub judged : (old : Store) (l : Lists) (segment count : ℕ)
    → ◌≡◌ {A = Result ℕ VolError} (Ok count)
    (ok_or (slice_get (needed_counts old (needed_by l)) segment) error.BadRange)
    → retired old (needed_by l) segment ≡ retired_with old count segment
judged old l segment count is =
    ap (λ (n : ℕ). retired_with old n segment) (sym (told-count old (needed_by l) segment count is).1)

module _ (l : Lists) (old new : Store) (segment : ℕ) (c : Counted) (pen : IsPen (layout_of l old))
    (new-store : IsStore new)
    (counted : AreNeededCounts (layout_of l old) c) where
  pub retired-counts : RetirementsKeepCounts → (count : ℕ) → retired old (needed_by l) segment ≡ Ok count
      → IsReclaimed segment count old new
      → AreNeededCounts (layout_of l new) c
  retired-counts keep count is reclaimed =
      keep segment count (kept_numbers l) c old new pen.sound.store new-store
      (retired-inside old (needed_by l) segment count is)
      (ap (λ (ns : List ℕ). length ns) (none_needed l old segment count is)) reclaimed counted

-- ---- a move in two halves

pub not-listed : (l : Lists) (s : Store) (segment limit moment : ℕ) (e : VolError)
    → HasListedNone segment limit s e
    → HasMovedNothing segment limit moment l s s e
not-listed l s segment limit moment e has = by (judged_for s.segments segment limit) has
  where
    by : (r : Result SegmentInfo VolError) → MatchResult r (λ _. e ≡ error.Memory) (λ refusal. e ≡ refusal)
        → MatchResult r (λ _. IsMoveRefusal segment limit moment l s s e) (λ refusal. (e ≡ refusal) × (s ≡ s))
    by (Ok i) is = subst (IsMoveRefusal segment limit moment l s s) (sym is) (keeps-same s s refl)
    by (Err f) is = (is, refl)

-- of a segment that may be cleaned
module _ (l : Lists) (old new : Store) (segment limit moment count : ℕ) (listed : List ℕ)
    (has : HasListedFirst (needed_by l) segment limit old listed count) where
  refused-there : (e : VolError) → IsMoveRefusal segment limit moment l old new e
      → HasMovedNothing segment limit moment l old new e
  refused-there e refused = by (judged_for old.segments segment limit) has.judged
    where
      by : (r : Result SegmentInfo VolError) → IsOk r
          → MatchResult r (λ _. IsMoveRefusal segment limit moment l old new e)
          (λ refusal. (e ≡ refusal) × (new ≡ old))
      by (Ok i) ok = refused
      by (Err f) ok = absurd (true≢false (sym ok))

  -- where numbers are spent, or memory is refused
  pub not-drafted : (e : VolError) → 0 < length listed → new ≡ old → IsDraftRefusal l e
      → HasMovedNothing segment limit moment l old new e
  not-drafted error.NumbersSpent some same refused =
      let most : length listed ≡ min limit (needed_count old (needed_by l) segment) =
      ap length has.first ∙ length-take limit (needed_in old (needed_by l) segment) in
      refused-there error.NumbersSpent (same, omega (arith, some, most), refused)
  not-drafted error.Memory some same refused = refused-there error.Memory (keeps-same old new same)
  not-drafted _ some same refused = absurd refused

  -- where the blocks are not moved
  pub not-moved : (checkpoint : ℕ) (e : VolError) → HasNextNumber l → checkpoint ≡ l.table.latest.number + 1
      → IsMoveRefused checkpoint moment listed old new e → HasMovedNothing segment limit moment l old new e
  not-moved checkpoint e left next refused = refused-there e (of e there)
    where
      there : IsMoveRefused (l.table.latest.number + 1) moment
          (take limit (needed_in old (needed_by l) segment)) old new e
      there =
          subst
          (λ (n : ℕ). IsMoveRefused n moment (take limit (needed_in old (needed_by l) segment)) old new e)
          next
          (subst (λ (vs : List ℕ). IsMoveRefused checkpoint moment vs old new e) has.first refused)

      of : (e : VolError)
          → IsMoveRefused (l.table.latest.number + 1) moment
          (take limit (needed_in old (needed_by l) segment)) old new e
          → IsMoveRefusal segment limit moment l old new e
      of error.NumbersSpent refused = absurd refused
      of error.NoSpace refused = (left, refused)
      of error.Fault refused = (left, refused)
      of e refused = refused

  pub moved-listed : ListedMovesAreFirst → (checkpoint : ℕ) (m : MoveCount)
      → checkpoint ≡ l.table.latest.number + 1 → m ≡ split (length listed) count
      → IsMoved segment checkpoint moment listed old new
      → HasMovedFirst (needed_by l) segment limit (l.table.latest.number + 1) moment old new m
  moved-listed first checkpoint m next is moved =
      subst (λ (n : ℕ). HasMovedFirst (needed_by l) segment limit n moment old new m) next
      (subst (HasMovedFirst (needed_by l) segment limit checkpoint moment old new) (sym is)
      (first (needed_by l) segment limit checkpoint moment count listed old new has moved))

  -- as many as are listed
  pub moved-some : (m : MoveCount) → m ≡ split (length listed) count → 0 < length listed → 0 < m.moved
  moved-some m is some =
      let most : length listed ≡ min limit (needed_count old (needed_by l) segment) =
      ap length has.first ∙ length-take limit (needed_in old (needed_by l) segment) in
      let all = has.total in
      let moved : m.moved ≡ min (length listed) count = ap (λ (m : MoveCount). m.moved) is in
      omega (arith, some, most, all, moved)

pub kept-minor : (moment : ℕ) (l : Lists)
    → kept_numbers (with_minor moment l) ≡ kept_numbers l ++ (l.table.latest.number + 1) ∷ []
kept-minor moment l = map-push (λ (c : Checkpoint). c.number) (kept_by l) (minor_checkpoint moment l)

-- one checkpoint more, at which no number starts or ends
pub minor-counted : EmptyCheckpointsKeepCounts → (moment : ℕ) (l : Layout) (c : Counted) → IsPen l
    → AreNeededCounts l c
    → AreNeededCounts (layout_of (with_minor moment l.lists) l.store) c
minor-counted keep moment l c pen counted =
    subst (λ (kept : List ℕ). IsCounted l.store kept c) (sym (kept-minor moment l.lists))
    (keep (l.lists.table.latest.number + 1) (kept_numbers l.lists) c l.store l.store pen.sound.store (record {
      sound = pen.sound.store;
      latest = l.lists.table.latest.number;
      is_latest = latest-of l pen.sound;
      next = refl;
      fits = nothing-fits (capacity l.store) (content_in l.store);
      ends_once = λ i j d before within. absurd (omega (arith, within));
      stamp = moment;
      written = nothing-written (l.lists.table.latest.number + 1) moment l.store;
    }) counted)

pub moved-needed : FirstNeededStandThere
    → (l : Lists) (old new : Store) (segment limit checkpoint stamp : ℕ) (listed numbers : List ℕ)
    → IsStore old
    → numbers ≡ listed → listed ≡ take limit (needed_in old (needed_by l) segment)
    → CanBeMoved segment listed old
    → IsMoved segment checkpoint stamp listed old new
    → HasMovedNeeded segment numbers (kept_numbers l) old new
moved-needed first l old new segment limit checkpoint stamp listed numbers old-store same is can moved =
    subst (λ (ns : List ℕ). HasMovedNeeded segment ns (kept_numbers l) old new) (sym same) (record {
      sound = old-store;
      there = can.there;
      needed = subst (AreNeededIn old (needed_by l) segment) (sym is) (first old (needed_by l) segment limit);
      checkpoint = checkpoint;
      stamp = stamp;
      moved = moved;
    })

-- ---- removals

-- what an answer tells to be gone is taken out
pub range-taken : (first last : ℕ) (a : Answer) (old new : Lists) → IsTakenOutRange first last a old new
    → IsTakenOut (taken_out a) old new
range-taken first last (answer.Removed range) old new is = is.taken
range-taken first last _ old new is = absurd is

pub expiry-taken : (now period : ℕ) (a : Answer) (old new : Lists) → IsExpired now period a old new
    → IsTakenOut (taken_out a) old new
expiry-taken now period (answer.Expired gone) old new is = is.taken
expiry-taken now period _ old new is = absurd is

module _ (gone : List ℕ) (old new : Lists) (taken : IsTakenOut gone old new) where
  numbers-left : kept_numbers new ≡ cpfile.kept_numbers (left gone (kept_by old))
  numbers-left = ap kept_numbers taken.lists ∙ ap cpfile.kept_numbers (all-without gone old.table taken.stays)

  lost : (first last : ℕ) → ((c : ℕ) → is_one_of gone c ≡ true → (first ≤ c) × (c ≤ last))
      → HasLostBetween first last old new
  lost first last between = record {
    gone = λ c among. elim (left-or-gone gone c (kept_by old) among) [
      | inl stays ↦ inl (subst (λ (ns : List ℕ). is_one_of ns c ≡ true) (sym numbers-left) stays)
      | inr goes ↦ inr (between c goes)
    ];
    fewer = λ c among.
        left-was gone c (kept_by old) (subst (λ (ns : List ℕ). is_one_of ns c ≡ true) numbers-left among);
  }

  pub lost-between : (first last : ℕ) → AllPairs ◌<◌ gone → IsSpanOf first last gone
      → HasLostBetween first last old new
  lost-between first last rising span =
      lost first last (λ c among. in-span first last gone rising span c among)

  -- where none is, nothing is lost
  pub lost-none : gone ≡ [] → (s : Store) (c : Counted) → AreNeededCounts (layout_of old s) c
      → AreNeededCounts (layout_of new s) c
  lost-none none s c counted = subst (λ (l : Lists). AreNeededCounts (layout_of l s) c) (sym same) counted
    where
      same : new ≡ old
      same =
          taken.lists
          ∙ (ap (λ (ns : List ℕ). without_checkpoints ns old) none
          ∙ ap (λ (t : cpfile.Table). record old { table = t }) (without-none old.table))

pub lost-one : (n : ℕ) (old new : Lists) → IsTakenOut (n ∷ []) old new → HasLostBetween n n old new
lost-one n old new taken =
    lost-between (n ∷ []) old new taken n n one
    (record { some = omega arith; first_is = refl; last_is = refl })
  where
    one : AllPairs ◌<◌ (n ∷ [])
    one i j d before within = absurd (omega (arith, before, within))

pub are-gone : (first last next : ℕ) (old new : Lists) → HasLostBetween first last old new
    → IsLeastAbove last (kept_numbers new) next
    → AreGone first next (kept_numbers old) (kept_numbers new)
are-gone first last next old new lost above = record {
  next_stays = above.among;
  gone = λ c among. elim (lost.gone c among) [
    | inl stays ↦ inl stays
    | inr within ↦ inr (within.0, omega (arith, within.1, above.above))
  ];
  fewer = lost.fewer;
}

-- ---- counts that are to come

-- where some checkpoints are taken as gone
pub counts-left : (r : Result (List ℕ) VolError) (s : Store) (c : Counted) (first next : ℕ)
    (kept stay : List ℕ)
    → IfOk r (λ counts. (kept : List ℕ) → IsCounted s kept c → AreGone first next kept stay
    → counts ≡ needed_counts s (is_needed stay))
    → IsCounted s kept c → AreGone first next kept stay
    → IfOk r (λ counts. counts ≡ needed_counts s (is_needed stay))
counts-left (Ok counts) s c first next kept stay after counted gone = after kept counted gone
counts-left (Err e) s c first next kept stay after counted gone = tt

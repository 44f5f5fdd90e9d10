-- What a move and a retirement do to a pen, as events.
use Rattle.std.proofs.Common.{◌≡◌, ℕ, zero, suc, ◌+◌, ◌-◌, ◌==◌, ◌<◌, ◌≤◌, true, false, cond, not, List, [], ◌∷◌, ◌++◌, length, take, refl, sym, ap, subst, ◌∙◌, inl, inr, true≢false, arith}
use Rattle.std.specs.Prelude.{IfErr, IsOk, is_ok, min, slice_get, None, Some, Result, Ok, Err, MatchResult, nat_le, nat_lt}
use Rattle.std.proofs.Math.Nat.{suc-ne-zero}
use Rattle.std.proofs.lemmas.Bool.{cond-true, eqb-true, le-leb, ne_eqb}
use Rattle.std.proofs.lemmas.List.{length-map, length-take}
use Rattle.nl_types.specs.declared.error.VolError.{VolError}
use Rattle.nl_types.specs.declared.error.VolError.TheVariants as error
use Rattle.nl_types.specs.declared.event.Event.{Event}
use Rattle.nl_types.specs.declared.event.Event.TheVariants.{Move, Resize, Retire}
use Rattle.nl_types.specs.declared.reply.Answer.{Answer}
use Rattle.nl_types.specs.declared.reply.Answer.TheVariants as answer
use Rattle.nl_types.specs.declared.segment.SegmentInfo.{SegmentInfo}
use Rattle.nl_types.specs.declared.segment.SegmentState.TheVariants.{Active, Clean, Dirty, Error}
use Rattle.nl_types.specs.Plain.Calls.{and_then}
use Rattle.nl_types.specs.Plain.Laws.{IsJudged}
use Rattle.nl_types.specs.Blocks.Placing.{LacksSpace, LogsFit}
use Rattle.nl_types.specs.Blocks.Lifetimes.{EndsOnce, KeepsCovered, Ledger}
use Rattle.nl_types.specs.Plain.Limits.{checkpoint_number_limit, is_geometry}
use Rattle.nl_types.specs.Blocks.Segments.{Segments}
use Rattle.nl_types.specs.Plain.Worlds as worlds
use Rattle.nl_types.specs.Plain.Worlds.{Outcome, Reply, World, latest}
use Rattle.nl_vstore.specs.Located.{needed_count, needed_in, numbers_in}
use Rattle.nl_vstore.specs.Stores.{IsMoveBrokenOff, IsMoveRefused, IsMoved, IsReclaimed, IsStore, Store, payload_under}
use Rattle.nl_reclaim.specs.Cleaning.{HasListedFirst, HasMovedFirst, freed_by, judged_segment, judged_by, judged_for, judged_info, retired, split}
use Rattle.nl_reclaim.specs.declared.moving.MoveCount.{MoveCount}
use Rattle.nl_events.specs.CleanedPens.{AddsMinor, LeavesPen, StaysPen}
use Rattle.nl_commit.specs.CleaningEvents.{HasMovedNothing, IsMoveRefusal, LacksSpaceToMove, cleaned_by, move_count, moved_answer, moved_by, needed_by, retired_by, resized_by}
use Rattle.nl_commit.specs.Draft.{HasNextNumber}
use Rattle.nl_commit.specs.Layout.{Does, IsPen, IsRetirementRefusal, MeansWorld, layout_of, ledger_of, layout_pages, unshared}
use Rattle.nl_commit.specs.Volume.{Lists, with_minor}
use Rattle.nl_events.specs.Facts.CleanedPens.{moves_keep_pens, refused_moves_keep_pens, retirements_keep_pens}
use Rattle.nl_events.specs.Facts.Ledgers.{same-numbers}
use Rattle.nl_events.specs.Facts.MinorPens.{minors_keep_pens, moves-on}
use Rattle.nl_events.specs.Facts.NothingChanged.{nothing-moved}
use Rattle.nl_events.specs.Facts.Published.{latest-means}

-- ---- what they refuse, they judge by the segments and the needs

info_judges : (i : SegmentInfo) → IfErr (judged_info (Some i)) IsJudged
info_judges i =
    elim i.state as (λ s. IfErr (judged_by s i) IsJudged)
    [ Clean ↦ tt | Dirty ↦ tt | Active ↦ tt | Error ↦ tt ]

segment_judges : (s : Segments) (segment : ℕ) → IfErr (judged_segment s segment) IsJudged
segment_judges s segment = elim (slice_get s.each segment) as (λ o. IfErr (judged_info o) IsJudged) [
  | None ↦ tt
  | Some i ↦ info_judges i
]

after_judges : {A B : Type 0} (r : Result A VolError) (next : A → Result B VolError) → IfErr r IsJudged
    → ((a : A) → IfErr (next a) IsJudged) → IfErr (and_then r next) IsJudged
after_judges (Ok a) next here rest = rest a
after_judges (Err e) next here rest = here

move_judges : (l : Lists) (s : Store) (segment limit : ℕ) → IfErr (moved_by l s segment limit) IsJudged
move_judges l s segment limit = after_judges (judged_for s.segments segment limit) _ first (λ _. tt)
  where
    first : IfErr (judged_for s.segments segment limit) IsJudged
    first =
        elim (limit == 0) as (λ b.
        IfErr (cond b (Err error.BadRange) (judged_segment s.segments segment)) IsJudged) [
          | true ↦ tt
          | false ↦ segment_judges s.segments segment
        ]

retirement_judges : (l : Lists) (s : Store) (segment : ℕ) → IfErr (retired_by l s segment) IsJudged
retirement_judges l s segment =
    after_judges (retired s (needed_by l) segment) _
    (by (judged_segment s.segments segment) (segment_judges s.segments segment)) (λ _. tt)
  where
    by : (r : Result SegmentInfo VolError) → IfErr r IsJudged
        → IfErr (freed_by r s (needed_by l) segment) IsJudged
    by (Err e) is = is
    by (Ok i) is =
        elim (needed_count s (needed_by l) segment == 0) as (λ b.
        IfErr (cond b (Ok (length (numbers_in s segment))) (Err error.StillNeeded)) IsJudged) [
          | true ↦ tt
          | false ↦ tt
        ]

resize_judges : (s : Store) (segments : ℕ) → IfErr (resized_by s segments) IsJudged
resize_judges s segments = elim (nat_lt segments (length s.segments.each))
    as (λ b.
    IfErr (cond b (Err error.BadRange)
    (cond (is_geometry segments s.segments.blocks) (Ok answer.Done) (Err error.BadGeometry)))
    IsJudged) [
      | true ↦ tt
      | false ↦
          elim (is_geometry segments s.segments.blocks) as (λ b.
          IfErr (cond b (Ok answer.Done) (Err error.BadGeometry)) IsJudged)
          [ true ↦ tt | false ↦ tt ]
    ]

pub cleaned_judges : (l : Lists) (s : Store) (event : Event) → IfErr (cleaned_by l s event) IsJudged
cleaned_judges l s (Move segment limit moment) = move_judges l s segment limit
cleaned_judges l s (Retire segment) = retirement_judges l s segment
cleaned_judges l s (Resize segments) = resize_judges s segments
cleaned_judges l s event = tt

-- ---- a move

pub some-moving : (n : ℕ) → 0 < n → not (n == 0) ≡ true
some-moving n some = ap not (ne_eqb n 0 (λ none. omega (arith, none, some)))

-- a limit that is judged is some
limit-some : (s : Segments) (segment limit : ℕ) → IsOk (judged_for s segment limit) → 0 < limit
limit-some s segment zero judged_segment = absurd (true≢false (sym judged_segment))
limit-some s segment (suc limit) judged_segment = omega arith

module _ (l : Lists) (old new : Store) (segment limit moment : ℕ) (pen : IsPen (layout_of l old))
    (store : IsStore new)
    (counted : old.failures ≤ new.failures) where
  answered : (r : Result SegmentInfo VolError) → IsOk r → (a : Answer)
      → ◌≡◌ {A = Reply} (and_then r (λ _. Ok a)) (Ok a)
  answered (Ok i) is a = refl
  answered (Err e) is a = absurd (true≢false (sym is))

  answers : (count : MoveCount)
      → HasMovedFirst (needed_by l) segment limit (l.table.latest.number + 1) moment old new count
      → moved_by l old segment limit ≡ Ok (moved_answer count)
  answers count moved =
      answered (judged_for old.segments segment limit) moved.judged
      (moved_answer (move_count l old segment limit))
      ∙ ap (λ (m : MoveCount). Ok (moved_answer m)) (sym moved.answers)

  pub stays : (count : MoveCount)
      → HasMovedFirst (needed_by l) segment limit (l.table.latest.number + 1) moment old new count
      → StaysPen (layout_of l old) (layout_of l new)
  stays count moved =
      moves_keep_pens segment (l.table.latest.number + 1) moment
      (take limit (needed_in old (needed_by l) segment)) (layout_of l old)
      (layout_of l new) pen refl store moved.moved

  -- blocks were moved, and the latest checkpoint is kept once more
  pub does-moved : (count : MoveCount) → 0 < count.moved → HasNextNumber l
      → HasMovedFirst (needed_by l) segment limit (l.table.latest.number + 1) moment old new count
      → Does unshared (layout_of l old) (Move segment limit moment) (Ok (moved_answer count))
      (layout_of (with_minor moment l) new)
  does-moved count some left moved =
      let kept = stays count moved in
      let minor : AddsMinor moment (layout_of l new) (layout_of (with_minor moment l) new) =
      minors_keep_pens moment (layout_of l new) kept.pen left in
      record {
        follows = λ w m. record {
          after = worlds.with_minor w moment;
          means = minor.means w (kept.means w m);
          step = inl (ap (λ (r : Reply). worlds.move_blocks r w moment) (answers count moved)
              ∙ moves-on moment (layout_of l old) left w m count.moved count.left moving);
        };
        becomes = (
          sym (cond-true {A = Lists} (not (count.moved == 0)) (with_minor moment l) l moving),
          record { count = count; answer_is = refl; moved = moved; left = λ _. left },
        );
        numbers = record {
          covered =
              subst
              (λ (ledger : Ledger). KeepsCovered ledger (ledger_of (layout_of (with_minor moment l) new)))
              kept.ledger minor.numbers.covered;
          ends =
              subst (λ (ledger : Ledger). EndsOnce ledger (ledger_of (layout_of (with_minor moment l) new)))
              kept.ledger minor.numbers.ends;
        };
        pen = minor.pen;
        failures = counted;
      }
    where
      moving : not (count.moved == 0) ≡ true
      moving = some-moving count.moved some

  -- the blocks that were read had a list of logs that fits
  space-there : IsMoveBrokenOff (l.table.latest.number + 1) moment
      (take limit (needed_in old (needed_by l) segment)) old new
      → LacksSpaceToMove l old segment limit → ⊥
  space-there (payload, theirs, fault) lacks =
      let numbers : List ℕ = take limit (needed_in old (needed_by l) segment) in
      let broken = fault.broken_off in
      let count : length payload ≡ min limit (needed_count old (needed_by l) segment) =
      sym (length-map payload Some) ∙ sym (ap length theirs) ∙ length-map numbers (payload_under old)
      ∙ length-take limit (needed_in old (needed_by l) segment) in
      lacks (broken.written ++ broken.failed ∷ broken.left)
      (subst (λ (n : ℕ). LogsFit old.segments false n (broken.written ++ broken.failed ∷ broken.left)) count
      broken.fits)

  -- a refusal that is no judgement has its reason
  allowed : (e : VolError)
      → IsMoveRefused (l.table.latest.number + 1) moment
      (take limit (needed_in old (needed_by l) segment)) old new e
      → unshared (layout_of l old) (layout_of l new) (Move segment limit moment) e
  allowed error.NoSpace refused = (
    tt,
    subst (LacksSpace old.segments false)
        (length-take limit (needed_in old (needed_by l) segment)) refused.0,
  )
  allowed error.Memory refused = tt
  allowed error.Fault refused = elim refused [
    | inl read ↦ (tt, inl read)
    | inr written ↦ (tt, inr (space-there written, written))
  ]
  allowed _ refused = absurd refused

  -- numbers are spent, and blocks would be moved
  spent-steps : IsOk (judged_for old.segments segment limit) → 0 < needed_count old (needed_by l) segment
      → checkpoint_number_limit ≤ l.table.latest.number + 1 → (w : World) → MeansWorld (layout_of l old) w
      → worlds.move_blocks (moved_by l old segment limit) w moment ≡ (Err error.NumbersSpent, w)
  spent-steps judged_segment some spent w m =
      let count = move_count l old segment limit in
      let low = limit-some old.segments segment limit judged_segment in
      let number = latest-means (layout_pages (layout_of l old)) l w m in
      let moving = some-moving count.moved (omega (arith, low, some)) in
      let done : Outcome = (Ok (moved_answer count), worlds.with_minor w moment) in
      ap (λ (r : Reply). worlds.move_blocks r w moment)
      (answered (judged_for old.segments segment limit) judged_segment (moved_answer count))
      ∙ cond-true {A = Outcome} (not (count.moved == 0))
      (worlds.refused_if (nat_le checkpoint_number_limit (latest w + 1)) error.NumbersSpent w done)
      (Ok (moved_answer count), w) moving
      ∙ cond-true {A = Outcome} (nat_le checkpoint_number_limit (latest w + 1))
      (Err error.NumbersSpent, w) done
      (le-leb checkpoint_number_limit (latest w + 1) (omega (arith, spent, number)))

  -- the store is as it was, and a world judges the refusal
  does-judged : (e : VolError) → new ≡ old
      → ((w : World) → MeansWorld (layout_of l old) w
      → worlds.move_blocks (moved_by l old segment limit) w moment ≡ (Err e, w))
      → HasMovedNothing segment limit moment l old new e
      → Does unshared (layout_of l old) (Move segment limit moment) (Err e) (layout_of l new)
  does-judged e same steps none = record {
    follows = λ w m. record {
      after = w;
      means = subst (λ (s : Store). MeansWorld (layout_of l s) w) (sym same) m;
      step = inl (steps w m);
    };
    becomes = (refl, none);
    numbers =
        same-numbers (layout_of l old) (layout_of l new) (ap (λ (s : Store). ledger_of (layout_of l s)) same);
    pen = subst (λ (s : Store). IsPen (layout_of l s)) (sym same) pen;
    failures = counted;
  }

  -- blocks could not be moved
  does-refused : (e : VolError)
      → IsMoveRefused (l.table.latest.number + 1) moment
      (take limit (needed_in old (needed_by l) segment)) old new e
      → HasMovedNothing segment limit moment l old new e
      → Does unshared (layout_of l old) (Move segment limit moment) (Err e) (layout_of l new)
  does-refused e refused none =
      let kept : StaysPen (layout_of l old) (layout_of l new) =
      refused_moves_keep_pens (l.table.latest.number + 1) moment
      (take limit (needed_in old (needed_by l) segment)) e (layout_of l old)
      (layout_of l new) pen refl store refused in
      record {
        follows = λ w m. record {
          after = w;
          means = kept.means w m;
          step = inr (record { error = e; reply_is = refl; may_be = allowed e refused; unchanged = refl });
        };
        becomes = (refl, none);
        numbers = kept.numbers;
        pen = kept.pen;
        failures = counted;
      }

  pub does-not-moved : (e : VolError) → HasMovedNothing segment limit moment l old new e
      → Does unshared (layout_of l old) (Move segment limit moment) (Err e) (layout_of l new)
  does-not-moved e none = by (judged_for old.segments segment limit) refl none
    where
      Answers : VolError → Type 0
      Answers e =
          HasMovedNothing segment limit moment l old new e
          → Does unshared (layout_of l old) (Move segment limit moment) (Err e) (layout_of l new)

      of : (e : VolError) → IsOk (judged_for old.segments segment limit)
          → IsMoveRefusal segment limit moment l old new e → Answers e
      of error.NumbersSpent judged_segment refused =
          does-judged error.NumbersSpent refused.0 (spent-steps judged_segment refused.1 refused.2)
      of error.NoSpace judged_segment refused = does-refused error.NoSpace refused.1
      of error.Fault judged_segment refused = does-refused error.Fault refused.1
      of e judged_segment refused = does-refused e refused

      by : (r : Result SegmentInfo VolError) → judged_for old.segments segment limit ≡ r
          → MatchResult r (λ _. IsMoveRefusal segment limit moment l old new e)
          (λ refusal. (e ≡ refusal) × (new ≡ old))
          → Does unshared (layout_of l old) (Move segment limit moment) (Err e) (layout_of l new)
      by (Ok i) is refused = of e (ap is_ok is) refused none
      by (Err f) is refused =
          does-judged e refused.1
          (λ w m.
          ap (λ (r : Result SegmentInfo VolError).
          worlds.move_blocks
          (and_then r (λ _. Ok (moved_answer (move_count l old segment limit)))) w moment)
          is
          ∙ ap (λ (g : VolError). (Err g, w)) (sym refused.0))
          none

-- no block of a segment that may be cleaned is needed
pub does-idle : (l : Lists) (s : Store) (segment limit moment count : ℕ) (listed : List ℕ)
    → IsPen (layout_of l s)
    → HasListedFirst (needed_by l) segment limit s listed count → length listed ≡ 0
    → Does unshared (layout_of l s) (Move segment limit moment) (Ok (answer.Moved 0 0)) (layout_of l s)
does-idle l s segment limit moment count listed pen has none = record {
  follows = λ w m. record {
    after = w;
    means = m;
    step =
        inl (ap (λ (r : Reply). worlds.move_blocks r w moment)
        (answers l s s segment limit moment pen pen.sound.store (omega arith) idle moved));
  };
  becomes = (
    refl,
    record {
      count = idle;
      answer_is = refl;
      moved = moved;
      left = λ some. absurd (omega (arith, some));
    },
  );
  numbers = same-numbers (layout_of l s) (layout_of l s) refl;
  pen = pen;
  failures = omega arith;
}
  where
    idle : MoveCount
    idle = record { moved = 0; left = 0 }

    nil : (ns : List ℕ) → length ns ≡ 0 → [] ≡ ns
    nil [] is = refl
    nil (n ∷ ns) is = absurd (suc-ne-zero (length ns) is)

    unneeded : needed_count s (needed_by l) segment ≡ 0
    unneeded =
        let low = limit-some s.segments segment limit has.judged in
        let most : length listed ≡ min limit (needed_count s (needed_by l) segment) =
        ap length has.first ∙ length-take limit (needed_in s (needed_by l) segment) in
        omega (arith, low, most, none)

    moved : HasMovedFirst (needed_by l) segment limit (l.table.latest.number + 1) moment s s idle
    moved = record {
      judged = has.judged;
      answers = (λ i. record { moved = least i; left = rest i }) ∙ ap (split limit) (sym unneeded);
      moved =
          subst (λ (vs : List ℕ). IsMoved segment (l.table.latest.number + 1) moment vs s s)
          (nil listed none ∙ has.first)
          (nothing-moved segment (l.table.latest.number + 1) moment s);
    }
      where
        least : 0 ≡ min limit 0
        least = omega arith

        rest : 0 ≡ 0 - limit
        rest = omega arith

-- ---- a retirement

-- where it is done, no number is needed
pub none_needed : (l : Lists) (old : Store) (segment count : ℕ) → retired old (needed_by l) segment ≡ Ok count
    → needed_in old (needed_by l) segment ≡ []
none_needed l old segment count is = by (judged_segment old.segments segment) is
  where
    empty : (ns : List ℕ) → length ns ≡ 0 → ns ≡ []
    empty [] is = refl
    empty (n ∷ ns) is = absurd (suc-ne-zero (length ns) is)

    by : (r : Result SegmentInfo VolError) → freed_by r old (needed_by l) segment ≡ Ok count
        → needed_in old (needed_by l) segment ≡ []
    by (Err e) is = absurd (true≢false (sym (ap is_ok is)))
    by (Ok i) is =
        elim (needed_count old (needed_by l) segment == 0) as (λ b.
        (needed_count old (needed_by l) segment == 0) ≡ b
        → cond b (Ok (length (numbers_in old segment))) (Err error.StillNeeded) ≡ Ok count
        → needed_in old (needed_by l) segment ≡ []) [
          | true ↦
              λ none _.
              empty (needed_in old (needed_by l) segment)
              (eqb-true (needed_count old (needed_by l) segment) 0 none)
          | false ↦ λ _ wrong. absurd (true≢false (sym (ap is_ok wrong)))
        ] refl is

module _ (l : Lists) (old new : Store) (segment : ℕ) (pen : IsPen (layout_of l old)) (store : IsStore new)
    (counted : old.failures ≤ new.failures) where
  pub does-retired : (count : ℕ) → retired old (needed_by l) segment ≡ Ok count
      → IsReclaimed segment count old new
      → Does unshared (layout_of l old) (Retire segment) (Ok (answer.Freed count)) (layout_of l new)
  does-retired count is reclaimed =
      let leaves : LeavesPen segment (layout_of l old) (layout_of l new) =
      retirements_keep_pens segment count (layout_of l old) (layout_of l new) pen refl store
      (none_needed l old segment count is) reclaimed in
      record {
        follows = λ w m. record {
          after = w;
          means = leaves.means w m;
          step = inl (ap (λ (r : Result ℕ VolError). (and_then r (λ n. Ok (answer.Freed n)), w)) is);
        };
        becomes = record {
          lists = refl;
          emptied = record { count = count; answer_is = refl; judged = is; reclaimed = reclaimed };
          unreached = leaves.unreached;
        };
        numbers = leaves.numbers;
        pen = leaves.pen;
        failures = counted;
      }

  -- the judgement is a reason
  why : (e : VolError) → retired old (needed_by l) segment ≡ Err e
      → IsRetirementRefusal (layout_of l old) segment e
  why error.Memory is = tt
  why e is = is

  pub does-not-retired : (e : VolError) → retired old (needed_by l) segment ≡ Err e → new ≡ old
      → Does unshared (layout_of l old) (Retire segment) (Err e) (layout_of l new)
  does-not-retired e is same =
      record {
        follows = λ w m. record {
          after = w;
          means = subst (λ (s : Store). MeansWorld (layout_of l s) w) (sym same) m;
          step = inl (ap (λ (r : Result ℕ VolError). (and_then r (λ n. Ok (answer.Freed n)), w)) is);
        };
        becomes = (ap (layout_of l) same, why e is);
        numbers =
            same-numbers (layout_of l old) (layout_of l new)
            (ap (λ (s : Store). ledger_of (layout_of l s)) same);
        pen = subst (λ (s : Store). IsPen (layout_of l s)) (sym same) pen;
        failures = counted;
      }

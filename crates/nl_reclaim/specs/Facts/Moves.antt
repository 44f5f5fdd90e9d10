-- Segments come clean: one move, a run of moves, and the retirement.
use Rattle.std.proofs.Common.{◌≡◌, ℕ, zero, suc, ◌+◌, ◌*◌, cond, List, [], ◌∷◌, Some, Result, Ok, Err, refl, ap, subst, ◌∙◌, length, take, drop, set, arith}
use Rattle.std.specs.Prelude.{slice_get, IfOk, ◌==◌}
use Rattle.std.proofs.Math.ListN.{drop_of_length-le}
use Rattle.std.proofs.lemmas.List.{drop-drop}
use Rattle.nl_types.specs.declared.error.VolError.{VolError}
use Rattle.nl_types.specs.declared.segment.SegmentInfo.{SegmentInfo}
use Rattle.nl_types.specs.declared.segment.SegmentState.{SegmentState}
use Rattle.nl_types.specs.declared.segment.SegmentState.TheVariants.{Dirty}
use Rattle.nl_types.specs.Blocks.Segments.{Segments, clean_info, info_of, is_closed}
use Rattle.nl_types.specs.Blocks.Entries.{is_needed}
use Rattle.nl_vstore.specs.Stores.{IsStore, IsReclaimed}
use Rattle.nl_vstore.specs.Located.{numbers_in}
use Rattle.nl_vstore.specs.Facts.MovedNumbers.{first-moved, others-kept}
use Rattle.nl_reclaim.specs.Cleaning.{judged_segment, judged_info, judged_by, freed_by}
use Rattle.nl_reclaim.specs.Moves.{KeptStore, needed_now, info_now, IsClosedIn, MoveTakesFirst, Moves, SegmentsComeClean, FullMoves, FullMovesComeClean}
use Rattle.nl_reclaim.specs.Facts.ClosedSegments.{moves-keep-closed}

pub move-takes-first : MoveTakesFirst
move-takes-first segment checkpoint stamp m old new store closed has = record {
  store = has.store;
  needed =
      first-moved segment checkpoint stamp m old.store new.store (is_needed old.kept)
      (is_needed new.kept) store has.store store.limits.tidy closed has.needs has.moved;
  others =
      others-kept segment checkpoint stamp m old.store new.store (is_needed old.kept)
      (is_needed new.kept) store has.store store.limits.tidy has.needs has.moved;
  closed = λ j is.
      moves-keep-closed segment checkpoint stamp j
      (take m (needed_now old segment)) old.store new.store store has.moved is;
}

-- ---- runs

pub record Moved (segment k : ℕ) (old new : KeptStore) : Type 0 where
  pub needed : needed_now new segment ≡ drop k (needed_now old segment)
  pub info : info_now new segment ≡ info_now old segment

run-moved : (n segment m : ℕ) (old new : KeptStore) → IsClosedIn old segment → Moves segment m n old new
    → Moved segment (n * m) old new
run-moved zero segment m old new closed run = record {
  needed =
      ap (λ (s : KeptStore). needed_now s segment) run
      ∙ ap (λ (k : ℕ). drop k (needed_now old segment))
      (let none : ◌≡◌ {A = ℕ} 0 (0 * m) = omega arith in none);
  info = ap (λ (s : KeptStore). info_now s segment) run;
}
run-moved (suc n) segment m old new closed (mid, first, rest) =
    let more =
    run-moved n segment m mid new
    (ap (λ (i : SegmentInfo). is_closed i.state) (first.closed segment closed) ∙ closed) rest in
    let sum : m + n * m ≡ suc n * m = omega arith in
    record {
      needed =
          more.needed ∙ ap (drop (n * m)) first.needed ∙ drop-drop (n * m) m (needed_now old segment)
          ∙ ap (λ k. drop k (needed_now old segment)) sum;
      info = more.info ∙ first.closed segment closed;
    }

got : (infos : List SegmentInfo) (i : ℕ) → (info_of infos i).state ≡ Dirty
    → slice_get infos i ≡ Some (info_of infos i)
got [] i h = cc
got (x ∷ infos) zero h = refl
got (x ∷ infos) (suc i) h = got infos i h

pub cleaned : (infos : List SegmentInfo) (i : ℕ) → info_of (set infos i clean_info) i ≡ clean_info
cleaned [] i = refl
cleaned (x ∷ infos) zero = refl
cleaned (x ∷ infos) (suc i) = cleaned infos i

pub segments-come-clean : SegmentsComeClean
segments-come-clean segment m n old mid new reply dirty enough run retires = (is_ok, clean)
  where
    closed : IsClosedIn old segment
    closed = ap is_closed dirty

    moved : Moved segment (n * m) old mid
    moved = run-moved n segment m old mid closed run

    none : needed_now mid segment ≡ []
    none = moved.needed ∙ drop_of_length-le (needed_now old segment) enough

    dirty_mid : (info_now mid segment).state ≡ Dirty
    dirty_mid = ap (λ (i : SegmentInfo). i.state) moved.info ∙ dirty

    fine : judged_segment mid.store.segments segment ≡ Ok (info_now mid segment)
    fine =
        ap judged_info (got mid.store.segments.each segment dirty_mid)
        ∙ ap (λ (s : SegmentState). judged_by s (info_now mid segment)) dirty_mid

    is_ok : reply ≡ Ok (length (numbers_in mid.store segment))
    is_ok =
        retires.answers
        ∙ ap (λ (r : Result SegmentInfo VolError). freed_by r mid.store (is_needed mid.kept) segment) fine
        ∙ ap (λ (xs : List ℕ).
        cond {A = Result ℕ VolError} (length xs == 0) (Ok (length (numbers_in mid.store segment)))
        (Err VolError.StillNeeded))
        none

    clean : info_now new segment ≡ clean_info
    clean =
        let is : IsReclaimed segment (length (numbers_in mid.store segment)) mid.store new.store =
        subst (λ (r : Result ℕ VolError). IfOk r (λ count. IsReclaimed segment count mid.store new.store))
        is_ok retires.reclaimed in
        ap (λ (s : Segments). info_of s.each segment) is.freed.segments
        ∙ cleaned mid.store.segments.each segment

plain-moves : (n segment m : ℕ) (old new : KeptStore) → IsStore old.store → IsClosedIn old segment
    → FullMoves segment m n old new → Moves segment m n old new
plain-moves zero segment m old new store closed run = run
plain-moves (suc n) segment m old new store closed (checkpoint, stamp, mid, has, rest) =
    let out = move-takes-first segment checkpoint stamp m old mid store closed has in (
      mid,
      out,
      plain-moves n segment m mid new has.store
          (ap (λ (i : SegmentInfo). is_closed i.state) (out.closed segment closed) ∙ closed) rest,
    )

pub full-moves-come-clean : FullMovesComeClean
full-moves-come-clean segment m n old mid new reply store dirty enough run retires =
    segments-come-clean segment m n old mid new reply dirty enough
    (plain-moves n segment m old mid store (ap is_closed dirty) run) retires

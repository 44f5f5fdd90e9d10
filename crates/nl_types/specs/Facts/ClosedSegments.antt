-- A segment that takes no more logs stays as it is.
use Rattle.std.proofs.Common.{◌≡◌, ◌≢◌, ℕ, true, cond, List, [], ◌∷◌, ◌++◌, Some, None, inl, inr, sym, refl, ap, subst, ◌∙◌}
use Rattle.std.specs.Prelude.{slice_get, slice_set}
use Rattle.std.specs.List.{AllByRecursion}
use Rattle.std.proofs.Math.ListN.{get_or-map}
use Rattle.std.proofs.lemmas.Bool.{cases_Bool}
use Rattle.std.proofs.lemmas.List.{get_or-set_other}
use Rattle.nl_types.specs.declared.segment.Log.{Log}
use Rattle.nl_types.specs.declared.segment.SegmentInfo.{SegmentInfo}
use Rattle.nl_types.specs.declared.segment.SegmentState.{SegmentState}
use Rattle.nl_types.specs.declared.segment.SegmentState.TheVariants.{Clean, Dirty, Active, Error}
use Rattle.nl_types.specs.Blocks.Segments.{Segments, AreTidy, IsClosed, info_of, clean_info, is_clean, is_active, is_closed, at_rest, none_active, clean_segments, with_error}
use Rattle.nl_types.specs.Blocks.Placing.{IsNextLog, AreNextLogs, start_of, with_log, with_logs}
use Rattle.nl_types.specs.Blocks.PlacingLaws.{ClosedGetNoLog, ClosedStay, ClosedStayAtFaults}
use Rattle.nl_types.specs.Facts.NextLogs.{tidy_with_log, has_active, has_lowest, placed}

active-open : (state : SegmentState) → is_active state ≡ true → is_closed state ≡ true → ⊥
active-open Clean a c = cc
active-open Dirty a c = cc
active-open Active a c = cc
active-open Error a c = cc

clean-open : (state : SegmentState) → is_clean state ≡ true → is_closed state ≡ true → ⊥
clean-open Clean a c = cc
clean-open Dirty a c = cc
clean-open Active a c = cc
clean-open Error a c = cc

-- the next log goes elsewhere
pub next-elsewhere : (s : Segments) (segment : ℕ) (log : Log) → AreTidy s → IsClosed s segment
    → IsNextLog s log → log.segment ≢ segment
next-elsewhere s segment log tidy closed next = λ same.
    let here : is_closed (info_of s.each log.segment).state ≡ true =
    ap (λ (i : ℕ). is_closed (info_of s.each i).state) same ∙ closed in
    elim next.at [
      | inl at ↦ active-open (info_of s.each log.segment).state (has_active s (start_of log) at).active here
      | inr at ↦ lowest (clean_segments s) refl at here
    ]
  where
    lowest : (free : List ℕ) → clean_segments s ≡ free → slice_get (clean_segments s) 0 ≡ Some log.segment
        → is_closed (info_of s.each log.segment).state ≡ true → ⊥
    lowest [] is at here = let none : None ≡ Some log.segment = sym (ap (λ xs. slice_get xs 0) is) ∙ at in cc
    lowest (x ∷ rest) is at here =
        let some : Some x ≡ Some log.segment = sym (ap (λ xs. slice_get xs 0) is) ∙ at in
        let same : x ≡ log.segment = cc in
        clean-open (info_of s.each log.segment).state
        (subst (λ i. is_clean (info_of s.each i).state ≡ true) same (has_lowest s x rest tidy is).clean)
        here

-- and leaves all that is known of the segment
rest-closed : (info : SegmentInfo) → is_closed info.state ≡ true → at_rest info ≡ info
rest-closed info c = elim (cases_Bool (is_active info.state)) [
  | inl a ↦ absurd (active-open info.state a c)
  | inr a ↦ ap (λ b. cond b (record info { state = Dirty }) info) a
]

changed-elsewhere : (s : Segments) (i k : ℕ) (new : SegmentInfo) → IsClosed s i → k ≢ i
    → info_of (slice_set (none_active s.each) k new) i ≡ info_of s.each i
changed-elsewhere s i k new closed other =
    get_or-set_other (none_active s.each) k i new clean_info (λ e. other (sym e))
    ∙ get_or-map at_rest s.each i clean_info ∙ rest-closed (info_of s.each i) closed

same-info : (s : Segments) (i stamp : ℕ) (log : Log) → IsClosed s i → log.segment ≢ i
    → info_of (with_log s log stamp).each i ≡ info_of s.each i
same-info s i stamp log closed other = changed-elsewhere s i log.segment _ closed other

pub still-closed : (s : Segments) (segment stamp : ℕ) (log : Log) → IsClosed s segment → log.segment ≢ segment
    → IsClosed (with_log s log stamp) segment
still-closed s segment stamp log closed other =
    ap (λ (info : SegmentInfo). is_closed info.state) (same-info s segment stamp log closed other) ∙ closed

next-stay : (logs : List Log) (s : Segments) (i stamp : ℕ) → AreTidy s → IsClosed s i
    → AreNextLogs s stamp logs → info_of (with_logs s logs stamp).each i ≡ info_of s.each i
next-stay [] s i stamp tidy closed next = refl
next-stay (log ∷ logs) s i stamp tidy closed next =
    let other = next-elsewhere s i log tidy closed next.0 in
    next-stay logs (with_log s log stamp) i stamp (tidy_with_log s log stamp tidy next.0.is_log.inside)
    (still-closed s i stamp log closed other) next.1
    ∙ same-info s i stamp log closed other

next-none : (logs : List Log) (s : Segments) (i stamp : ℕ) → AreTidy s → IsClosed s i
    → AreNextLogs s stamp logs → AllByRecursion (λ (log : Log). log.segment ≢ i) logs
next-none [] s i stamp tidy closed next = tt
next-none (log ∷ logs) s i stamp tidy closed next =
    let other = next-elsewhere s i log tidy closed next.0 in (
      other,
      next-none logs (with_log s log stamp) i stamp (tidy_with_log s log stamp tidy next.0.is_log.inside)
          (still-closed s i stamp log closed other) next.1,
    )

broken-stay : (done left : List Log) (failed : Log) (s : Segments) (i stamp : ℕ) → AreTidy s → IsClosed s i
    → AreNextLogs s stamp (done ++ failed ∷ left)
    → info_of (with_error (with_logs s done stamp) failed.segment).each i ≡ info_of s.each i
broken-stay [] left failed s i stamp tidy closed next =
    changed-elsewhere s i failed.segment _ closed (next-elsewhere s i failed tidy closed next.0)
broken-stay (log ∷ done) left failed s i stamp tidy closed next =
    let other = next-elsewhere s i log tidy closed next.0 in
    broken-stay done left failed (with_log s log stamp) i stamp
    (tidy_with_log s log stamp tidy next.0.is_log.inside) (still-closed s i stamp log closed other) next.1
    ∙ same-info s i stamp log closed other

pub closed-no-log : ClosedGetNoLog
closed-no-log s reserve n i logs tidy fits closed =
    next-none logs s i 0 tidy closed (placed s reserve n 0 logs tidy fits).next

pub closed-stay : ClosedStay
closed-stay s reserve n stamp i logs tidy fits closed =
    next-stay logs s i stamp tidy closed (placed s reserve n stamp logs tidy fits).next

pub closed-stay-at-faults : ClosedStayAtFaults
closed-stay-at-faults s reserve n stamp i done left failed tidy fits closed =
    broken-stay done left failed s i stamp tidy closed
    (placed s reserve n stamp (done ++ failed ∷ left) tidy fits).next

-- From staged logs to what an append leaves.
use Rattle.std.proofs.Common.{◌≡◌, ℕ, ◌+◌, List, [], ◌∷◌, ◌++◌, length, map, take, drop, Bool, refl, ap, sym, ◌∙◌, arith, subst}
use Rattle.std.proofs.lemmas.List.{length-map, map-append, length-take-le, take-append-drop, length-drop}
use Rattle.std.specs.List.{AllByRecursion}
use Rattle.nl_types.specs.declared.segment.Log.{Log}
use Rattle.nl_types.specs.Blocks.Segments.{Segments, AreTidy}
use Rattle.nl_types.specs.Blocks.Placing.{IsLog, AreNextLogs, LogsFit, first_block, addresses, payload_count, blocks_from, with_logs}
use Rattle.nl_types.specs.Facts.NextLogs.{placed}
use Rattle.nl_types.specs.Facts.UsedParts.{are_unused, payload_used}
use Rattle.nl_types.specs.Blocks.PartialMaps.{Stands}
use Rattle.nl_device.specs.Pages.{DevicePages}
use Rattle.nl_segwriter.specs.declared.staging.Staged.{Staged}
use Rattle.nl_vstore.specs.Content.{SpaceContent, HeldPayload, Payload, payload_page}
use Rattle.nl_vstore.specs.Logs.{WholeLog, StandsFrom}
use Rattle.nl_vstore.specs.Appended.{StandInLogs, KeepsOtherBlocks, IsAppended, IsBrokenOff}
use Rattle.nl_segwriter.specs.Private.Staging.{IsReady, AreStaged, AreSized, logs_of, whole_of}
use Rattle.nl_segwriter.specs.Writing.{LogsStand, BreaksOff}
use Rattle.nl_segwriter.proofs.Rows.{stand_row, stand-append}

pub sized : (blocks : ℕ) (logs : List Log) → AllByRecursion (IsLog blocks) logs → AreSized logs
sized blocks [] h = tt
sized blocks (log ∷ logs) h = ((h.0.some, h.0.most), sized blocks logs h.1)

-- ---- what was staged

pub staged_logs : (stamp checkpoint : ℕ) (logs : List Log) (items : List Payload) (xs : List Staged)
    → AreStaged stamp checkpoint logs items xs → logs_of xs ≡ logs
staged_logs stamp checkpoint [] items xs h = ap logs_of h.1
staged_logs stamp checkpoint (log ∷ logs) items [] h = absurd h
staged_logs stamp checkpoint (log ∷ logs) items (x ∷ xs) h =
    let a = h.0.log_is in let b = staged_logs stamp checkpoint logs (drop log.count items) xs h.1 in cc

pub staged_ready : (stamp checkpoint : ℕ) (logs : List Log) (items : List Payload) (xs : List Staged)
    → AreStaged stamp checkpoint logs items xs → AllByRecursion IsReady xs
staged_ready stamp checkpoint [] items [] h = tt
staged_ready stamp checkpoint [] items (x ∷ xs) h = let e = h.1 in absurd (cc)
staged_ready stamp checkpoint (log ∷ logs) items [] h = absurd h
staged_ready stamp checkpoint (log ∷ logs) items (x ∷ xs) h =
    (h.0.ready, staged_ready stamp checkpoint logs (drop log.count items) xs h.1)

pub staged_stamps : (stamp checkpoint : ℕ) (logs : List Log) (items : List Payload) (xs : List Staged)
    → AreStaged stamp checkpoint logs items xs → AllByRecursion (λ x. x.stamp ≡ stamp) xs
staged_stamps stamp checkpoint [] items [] h = tt
staged_stamps stamp checkpoint [] items (x ∷ xs) h = let e = h.1 in absurd (cc)
staged_stamps stamp checkpoint (log ∷ logs) items [] h = absurd h
staged_stamps stamp checkpoint (log ∷ logs) items (x ∷ xs) h = (
  ap (λ (w : WholeLog). w.stamp) h.0.whole_is,
  staged_stamps stamp checkpoint logs (drop log.count items) xs h.1,
)

stand_in_logs : (stamp checkpoint blocks : ℕ) (logs : List Log) (items : List Payload) (xs : List Staged)
    (held : HeldPayload) (stored : DevicePages)
    → AreStaged stamp checkpoint logs items xs → LogsStand blocks xs held stored
    → StandInLogs blocks stamp checkpoint logs items held stored
stand_in_logs stamp checkpoint blocks [] items xs held stored h stand = tt
stand_in_logs stamp checkpoint blocks (log ∷ logs) items [] held stored h stand = absurd h
stand_in_logs stamp checkpoint blocks (log ∷ logs) items (x ∷ xs) held stored h stand =
    let whole : WholeLog =
    record { stamp = stamp; checkpoint = checkpoint; payload = take log.count items } in
    let at : StandsFrom (first_block blocks log) (whole_of x) held stored =
    subst (λ (l : Log). StandsFrom (first_block blocks l) (whole_of x) held stored) h.0.log_is stand.0 in (
      subst (λ (w : WholeLog). StandsFrom (first_block blocks log) w held stored) h.0.whole_is at,
      stand_in_logs stamp checkpoint blocks logs (drop log.count items) xs held stored h.1 stand.1,
    )

-- the first of the logs that were staged
stand_in_front : (stamp checkpoint blocks : ℕ) (logs : List Log) (items : List Payload)
    (xs rest : List Staged) (held : HeldPayload) (stored : DevicePages)
    → AreStaged stamp checkpoint logs items (xs ++ rest) → LogsStand blocks xs held stored
    → StandInLogs blocks stamp checkpoint (logs_of xs) items held stored
stand_in_front stamp checkpoint blocks logs items [] rest held stored h stand = tt
stand_in_front stamp checkpoint blocks [] items (x ∷ xs) rest held stored h stand = let e = h.1 in absurd (cc)
stand_in_front stamp checkpoint blocks (log ∷ logs) items (x ∷ xs) rest held stored h stand =
    let whole : Log → WholeLog = λ l. record {
      stamp = stamp;
      checkpoint = checkpoint;
      payload = take l.count items;
    } in
    let at : StandsFrom (first_block blocks x.log) (whole log) held stored =
    subst (λ (w : WholeLog). StandsFrom (first_block blocks x.log) w held stored) h.0.whole_is stand.0 in
    let count : drop x.log.count items ≡ drop log.count items =
    ap (λ (l : Log). drop l.count items) h.0.log_is in (
      subst (λ (l : Log). StandsFrom (first_block blocks x.log) (whole l) held stored) (sym h.0.log_is) at,
      subst (λ (ps : List Payload). StandInLogs blocks stamp checkpoint (logs_of xs) ps held stored)
          (sym count)
          (stand_in_front stamp checkpoint blocks logs
          (drop log.count items) xs rest held stored h.1 stand.1),
    )

logs_of-append : (xs : List Staged) (x : Staged) (rest : List Staged)
    → logs_of (xs ++ x ∷ rest) ≡ logs_of xs ++ x.log ∷ logs_of rest
logs_of-append [] x rest = refl
logs_of-append (y ∷ ys) x rest = ap (λ (l : List Log). y.log ∷ l) (logs_of-append ys x rest)

-- ---- where the payload stands

rest_count : (log : Log) (logs : List Log) (items : List Payload) → payload_count (log ∷ logs) ≡ length items
    → payload_count logs ≡ length (drop log.count items)
rest_count log logs items e = let l = length-drop log.count items in omega (arith, l, e)

held_at : (stamp checkpoint blocks : ℕ) (logs : List Log) (items : List Payload) (held : HeldPayload)
    (stored : DevicePages)
    → StandInLogs blocks stamp checkpoint logs items held stored → payload_count logs ≡ length items
    → Stands held (addresses blocks logs) items
held_at stamp checkpoint blocks [] [] held stored h e = tt
held_at stamp checkpoint blocks [] (item ∷ items) held stored h e = absurd (omega (arith, e))
held_at stamp checkpoint blocks (log ∷ logs) items held stored h e =
    let long : length (take log.count items) ≡ log.count =
    length-take-le log.count items (omega (arith, e)) in
    let row = stand_row (first_block blocks log + 1) log.count (take log.count items) held long h.0.payload in
    let more =
    held_at stamp checkpoint blocks logs (drop log.count items) held stored h.1
    (rest_count log logs items e) in
    subst (λ (xs : List Payload).
    Stands held (blocks_from (first_block blocks log + 1) log.count ++ addresses blocks logs) xs)
    (take-append-drop log.count items)
    (stand-append (blocks_from (first_block blocks log + 1) log.count)
    (addresses blocks logs) _ _ held row more)

stored_at : (stamp checkpoint blocks : ℕ) (logs : List Log) (items : List Payload) (held : HeldPayload)
    (stored : DevicePages)
    → StandInLogs blocks stamp checkpoint logs items held stored → payload_count logs ≡ length items
    → Stands stored (addresses blocks logs) (map payload_page items)
stored_at stamp checkpoint blocks [] [] held stored h e = tt
stored_at stamp checkpoint blocks [] (item ∷ items) held stored h e = absurd (omega (arith, e))
stored_at stamp checkpoint blocks (log ∷ logs) items held stored h e =
    let front : List Payload = take log.count items in
    let rest : List Payload = drop log.count items in
    let long : length (map payload_page front) ≡ log.count =
    length-map front payload_page ∙ length-take-le log.count items (omega (arith, e)) in
    let row =
    stand_row (first_block blocks log + 1) log.count (map payload_page front) stored long h.0.pages in
    let more = stored_at stamp checkpoint blocks logs rest held stored h.1 (rest_count log logs items e) in
    subst (λ (xs : List (List ℕ)).
    Stands stored (blocks_from (first_block blocks log + 1) log.count ++ addresses blocks logs) xs)
    (sym (map-append payload_page front rest) ∙ ap (map payload_page) (take-append-drop log.count items))
    (stand-append (blocks_from (first_block blocks log + 1) log.count)
    (addresses blocks logs) _ _ stored row more)

-- ---- what an append leaves

-- the logs of an append, planned and staged
pub record Plan (s : Segments) (reserve : Bool) (stamp checkpoint : ℕ) (items : List Payload)
    (logs : List Log) (xs : List Staged) : Type 0 where
  pub tidy : AreTidy s
  pub fits : LogsFit s reserve (length items) logs
  pub staged : AreStaged stamp checkpoint logs items xs

pub next_logs : (s : Segments) (reserve : Bool) (stamp checkpoint : ℕ) (items : List Payload)
    (logs : List Log) (xs : List Staged)
    → Plan s reserve stamp checkpoint items logs xs → AreNextLogs s stamp logs
next_logs s reserve stamp checkpoint items logs xs plan =
    (placed s reserve (length items) stamp logs plan.tidy plan.fits).next

pub next_staged : (s : Segments) (reserve : Bool) (stamp checkpoint : ℕ) (items : List Payload)
    (logs : List Log) (xs : List Staged)
    → Plan s reserve stamp checkpoint items logs xs → AreNextLogs s stamp (logs_of xs)
next_staged s reserve stamp checkpoint items logs xs plan =
    subst (AreNextLogs s stamp) (sym (staged_logs stamp checkpoint logs items xs plan.staged))
    (next_logs s reserve stamp checkpoint items logs xs plan)

pub is_appended : (old new : SpaceContent) (reserve : Bool) (stamp checkpoint : ℕ) (items : List Payload)
    (logs : List Log) (xs : List Staged) (numbers : List ℕ)
    → Plan old.segments reserve stamp checkpoint items logs xs
    → numbers ≡ addresses old.segments.blocks logs → new.segments ≡ with_logs old.segments (logs_of xs) stamp
    → LogsStand old.segments.blocks xs new.held new.stored
    → KeepsOtherBlocks old.segments.blocks (logs_of xs) old new
    → IsAppended old new reserve stamp checkpoint items numbers
is_appended old new reserve stamp checkpoint items logs xs numbers plan at table stand others =
    let s : Segments = old.segments in
    let next = next_logs s reserve stamp checkpoint items logs xs plan in
    let same : logs_of xs ≡ logs = staged_logs stamp checkpoint logs items xs plan.staged in
    let segments : new.segments ≡ with_logs s logs stamp =
    table ∙ ap (λ (l : List Log). with_logs s l stamp) same in
    let in_logs =
    stand_in_logs stamp checkpoint s.blocks logs items xs new.held new.stored plan.staged stand in
    let used = payload_used logs s stamp plan.tidy next in
    record {
      logs = logs;
      fits = plan.fits;
      segments = segments;
      logs_stand = in_logs;
      at = at;
      unused_before = rw at (are_unused (length items) logs s stamp plan.tidy next plan.fits.total);
      used_now = rw (at, segments) used.1;
      held = rw at (held_at stamp checkpoint s.blocks logs items new.held new.stored in_logs plan.fits.total);
      stored =
          rw at (stored_at stamp checkpoint s.blocks logs items new.held new.stored in_logs plan.fits.total);
      others = subst (λ (l : List Log). KeepsOtherBlocks s.blocks l old new) same others;
    }

pub is_broken_off : (old new : SpaceContent) (reserve : Bool) (stamp checkpoint : ℕ) (items : List Payload)
    (logs : List Log) (xs : List Staged)
    → Plan old.segments reserve stamp checkpoint items logs xs
    → BreaksOff stamp xs old new → IsBrokenOff old new reserve stamp checkpoint items
is_broken_off old new reserve stamp checkpoint items logs xs plan broken =
    let same : logs_of xs ≡ logs = staged_logs stamp checkpoint logs items xs plan.staged in
    let all : logs ≡ logs_of broken.written ++ broken.failed.log ∷ logs_of broken.left =
    sym same ∙ ap logs_of broken.all_are ∙ logs_of-append broken.written broken.failed broken.left in
    record {
      written = logs_of broken.written;
      failed = broken.failed.log;
      left = logs_of broken.left;
      fits = subst (LogsFit old.segments reserve (length items)) all plan.fits;
      segments = broken.segments;
      logs_stand =
          stand_in_front stamp checkpoint old.segments.blocks logs items broken.written
          (broken.failed ∷ broken.left) new.held new.stored
          (subst (λ (ys : List Staged). AreStaged stamp checkpoint logs items ys) broken.all_are plan.staged)
          broken.stand;
      others = broken.others;
    }

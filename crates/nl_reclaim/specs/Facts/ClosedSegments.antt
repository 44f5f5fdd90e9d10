-- Closed segments stay as they are.
use Rattle.std.proofs.Common.{◌≡◌, ℕ, false, List, inl, inr, ap, ◌∙◌, length}
use Rattle.std.proofs.lemmas.List.{get_or-set_other}
use Rattle.nl_types.specs.declared.error.VolError.TheVariants.{Fault, Memory, NoSpace}
use Rattle.nl_types.specs.Blocks.Segments.{Segments, IsClosed, clean_info, info_of}
use Rattle.nl_types.specs.Facts.ClosedSegments.{closed-stay, closed-stay-at-faults}
use Rattle.nl_vstore.specs.Content.{Payload}
use Rattle.nl_vstore.specs.Stores.{Store, IsStore, IsFaulted, KeepsStored}
use Rattle.nl_reclaim.specs.Moves.{MovesKeepClosed, RefusedMovesKeepClosed, RetirementsKeepOthers}

pub moves-keep-closed : MovesKeepClosed
moves-keep-closed segment checkpoint stamp j numbers old new store moved closed =
    ap (λ (s : Segments). info_of s.each j) moved.appended.segments
    ∙ closed-stay old.segments false
    (length moved.payload) stamp j moved.appended.logs store.limits.tidy moved.appended.fits closed

stored-keep : (j : ℕ) (old new : Store) → KeepsStored old new
    → info_of new.segments.each j ≡ info_of old.segments.each j
stored-keep j old new same = ap (λ (s : Segments). info_of s.each j) same.segments

faulted-keep : (checkpoint stamp j : ℕ) (payload : List Payload) (old new : Store) → IsStore old
    → IsFaulted false checkpoint stamp payload old new → IsClosed old.segments j
    → info_of new.segments.each j ≡ info_of old.segments.each j
faulted-keep checkpoint stamp j payload old new store fault closed =
    ap (λ (s : Segments). info_of s.each j) fault.broken_off.segments
    ∙ closed-stay-at-faults old.segments false
    (length payload) stamp j fault.broken_off.written fault.broken_off.left fault.broken_off.failed
    store.limits.tidy fault.broken_off.fits closed

pub refused-moves-keep-closed : RefusedMovesKeepClosed
refused-moves-keep-closed checkpoint stamp j numbers old new NoSpace store refused closed =
    stored-keep j old new refused.1
refused-moves-keep-closed checkpoint stamp j numbers old new Memory store refused closed =
    stored-keep j old new refused
refused-moves-keep-closed checkpoint stamp j numbers old new Fault store (inl read) closed =
    stored-keep j old new read.stored_stays
refused-moves-keep-closed checkpoint stamp j numbers old new Fault store
    (inr (payload, theirs, fault)) closed =
    faulted-keep checkpoint stamp j payload old new store fault closed
refused-moves-keep-closed checkpoint stamp j numbers old new e store refused closed = absurd refused

pub retirements-keep-others : RetirementsKeepOthers
retirements-keep-others segment count j old new reclaimed other =
    ap (λ (s : Segments). info_of s.each j) reclaimed.freed.segments
    ∙ get_or-set_other old.segments.each segment j clean_info clean_info other

-- The used part of each segment stays whole logs.
use Rattle.std.proofs.Common.{◌≡◌, ◌≢◌, ℕ, zero, suc, ◌+◌, ◌-◌, ◌*◌, ◌<◌, ◌≤◌, ◌⊎◌, inl, inr, true, List, [], ◌∷◌, ◌++◌, length, map, set, get_or, Some, None, refl, ap, sym, ◌∙◌, arith, subst, length-set}
use Rattle.std.proofs.Math.ListN.{replicate}
use Rattle.std.proofs.Math.Logic.{∥∥₁_map, ∥∥₁_elim}
use mathlib.Core.HLevel.{⊥_prop}
use Rattle.std.proofs.lemmas.Option.{slice_get-get_or}
use Rattle.std.proofs.lemmas.List.{get_or-set_same, get_or-set_other, length-map}
use Rattle.std.proofs.lemmas.Bool.{cases_eq, cases_lt}
use Rattle.nl_types.specs.declared.segment.Log.{Log}
use Rattle.nl_types.specs.declared.segment.SegmentInfo.{SegmentInfo}
use Rattle.nl_types.specs.declared.segment.SegmentState.{SegmentState}
use Rattle.nl_types.specs.declared.segment.SegmentState.TheVariants.{Clean, Dirty, Active, Error}
use Rattle.nl_types.specs.Blocks.Segments.{AreTidy, HaveLogs, IsUsed, Segments, at_rest, clean_info, has_logs, info_of, none_active, with_clean, with_error}
use Rattle.nl_types.specs.Blocks.Placing.{end_of, first_block, IsNextLog, with_log}
use Rattle.nl_types.specs.Facts.SegmentChanges.{length-none_active, info_same, used_same, used_other, room_of}
use Rattle.nl_types.specs.Facts.UsedParts.{outside_row, outside_segment, used_row, stays_with_log, stays_with_error}
use Rattle.nl_device.specs.Pages.{DevicePages, ClearsBlocks}
use Rattle.nl_vstore.specs.Content.{SpaceContent, HeldPayload, payload_page, SameOutside, IsSameAt, HoldsOnlyUsed, IsEmptied, IsFreed}
use Rattle.nl_vstore.specs.Logs.{WholeLog, StandsFrom, FillUpTo, IsFilledBy, AreWholeLogs}
use Rattle.nl_vstore.specs.FactsOfSpace.KeptLogs.{fill_kept, filled_same}
use Rattle.nl_segwriter.specs.Writing.{SameOutsideLog, held_in}

-- one more log behind the others
pub fill_push : (b end : ℕ) (logs : List WholeLog) (log : WholeLog) (held : HeldPayload)
    (stored : DevicePages)
    → FillUpTo b end logs held stored → StandsFrom end log held stored
    → FillUpTo b (end + 1 + length log.payload) (logs ++ log ∷ []) held stored
fill_push b end [] log held stored h s =
    (subst (λ (k : ℕ). StandsFrom k log held stored) (sym h) s, ap (λ (k : ℕ). k + 1 + length log.payload) h)
fill_push b end (first ∷ logs) log held stored h s =
    (h.0, fill_push (b + 1 + length first.payload) end logs log held stored h.1 s)

-- a page of whole logs
pub fill_has : (b end c : ℕ) (logs : List WholeLog) (held : HeldPayload) (stored : DevicePages)
    → FillUpTo b end logs held stored → b ≤ c → c < end → (page : List ℕ) × (stored c ≡ Some page)
fill_has b end c [] held stored h low high = absurd (omega (arith, h, low, high))
fill_has b end c (log ∷ logs) held stored h low high =
    elim (cases_eq c b) [
      | inl e ↦ (_, ap stored e ∙ h.0.summary)
      | inr apart ↦ elim (cases_lt c (b + 1 + length log.payload)) [
        | inl inside ↦ (let pages : List (List ℕ) = map payload_page log.payload in
            let far : b < c = omega arith in
            let j : ℕ = c - (b + 1) in
            let at : b + 1 + j ≡ c = omega (arith, far) in
            let within : j < length pages =
            (let l = length-map log.payload payload_page in omega (arith, inside, far, l)) in
            (get_or pages j [], ap stored (sym at) ∙ h.0.pages j within ∙ slice_get-get_or pages j [] within))
        | inr behind ↦ fill_has (b + 1 + length log.payload) end c logs held stored h.1 behind high
      ]
    ]

-- each used block has a page on the device
pub used_stored : (c : SpaceContent) (b : ℕ) → AreWholeLogs c → IsUsed c.segments b → c.stored b ≡ None → ⊥
used_stored c b whole (place, at, used) none =
    ∥∥₁_elim (whole place.segment) ⊥_prop
    (λ filled.
    let page =
    fill_has (place.segment * c.segments.blocks) _ b filled.0 c.held c.stored filled.1
    (omega (arith, at)) (omega (arith, at, used)) in
    let there = page.1 in
    cc)

-- ---- after a log, a failed one, and without a segment

pub whole_with_log : (old : SpaceContent) (log : Log) (stamp : ℕ) (whole : WholeLog) (held : HeldPayload)
    (stored : DevicePages)
    → AreTidy old.segments → IsNextLog old.segments log → AreWholeLogs old
    → (let new : SpaceContent =
    record { segments = with_log old.segments log stamp; held = held; stored = stored } in
    length whole.payload ≡ log.count → StandsFrom (first_block old.segments.blocks log) whole held stored
    → SameOutsideLog old.segments.blocks log old new → AreWholeLogs new)
whole_with_log old log stamp whole held stored tidy next logs count stands same i =
    elim (cases_eq i log.segment) [
      | inl e ↦ ∥∥₁_map (logs i) (λ filled. here e filled)
      | inr apart ↦
          ∥∥₁_map (logs i)
          (filled_same old new i refl (used_other old.segments.each log.segment i info apart) kept)
    ]
  where
    info : SegmentInfo
    info = record { state = Active; stamp = stamp; used = end_of log }

    new : SpaceContent
    new = record { segments = with_log old.segments log stamp; held = held; stored = stored }

    kept : (c : ℕ) → IsUsed old.segments c → IsSameAt old new c
    kept c used = elim (outside_row old.segments log c tidy next used) [
      | inl h ↦ (same.held.below c h, same.stored.below c h)
      | inr h ↦ (same.held.above c h, same.stored.above c h)
    ]

    here : i ≡ log.segment → (ls : List WholeLog) × IsFilledBy old i ls
        → (ls : List WholeLog) × IsFilledBy new i ls
    here e (ls, filled) =
        let start : ℕ = log.segment * old.segments.blocks in
        let at : FillUpTo start
        (start + (info_of old.segments.each log.segment).used) ls old.held old.stored =
        subst (λ (k : ℕ). IsFilledBy old k ls) e filled in
        let first : start + (info_of old.segments.each log.segment).used
        ≡ first_block old.segments.blocks log =
        (let b = next.behind_used in omega (arith, b)) in
        let before : FillUpTo start (first_block old.segments.blocks log) ls held stored =
        fill_kept start (first_block old.segments.blocks log) ls old new
        (λ c low high. (same.held.below c high, same.stored.below c high))
        (subst (λ (k : ℕ). FillUpTo start k ls old.held old.stored) first at) in
        let all = fill_push start (first_block old.segments.blocks log) ls whole held stored before stands in
        let used : (info_of new.segments.each log.segment).used ≡ end_of log =
        used_same old.segments.each log.segment info next.segment in
        let end : first_block old.segments.blocks log + 1 + length whole.payload
        ≡ start + (info_of new.segments.each log.segment).used =
        omega (arith, count, used) in (
          ls ++ whole ∷ [],
          subst (λ (k : ℕ). IsFilledBy new k (ls ++ whole ∷ [])) (sym e)
              (subst (λ (k : ℕ). FillUpTo start k (ls ++ whole ∷ []) held stored) end all),
        )

pub whole_with_error : (old : SpaceContent) (log : Log) (held : HeldPayload) (stored : DevicePages)
    → AreTidy old.segments → IsNextLog old.segments log → AreWholeLogs old
    → (let new : SpaceContent =
    record { segments = with_error old.segments log.segment; held = held; stored = stored } in
    SameOutsideLog old.segments.blocks log old new → AreWholeLogs new)
whole_with_error old log held stored tidy next logs same i =
    ∥∥₁_map (logs i) (filled_same old new i refl used kept)
  where
    new : SpaceContent
    new = record { segments = with_error old.segments log.segment; held = held; stored = stored }

    info : SegmentInfo
    info = record (info_of old.segments.each log.segment) { state = Error }

    used : (info_of new.segments.each i).used ≡ (info_of old.segments.each i).used
    used = elim (cases_eq i log.segment) [
      | inl e ↦
          subst (λ (k : ℕ). (info_of new.segments.each k).used ≡ (info_of old.segments.each k).used) (sym e)
          (used_same old.segments.each log.segment info next.segment)
      | inr apart ↦ used_other old.segments.each log.segment i info apart
    ]

    kept : (c : ℕ) → IsUsed old.segments c → IsSameAt old new c
    kept c is = elim (outside_row old.segments log c tidy next is) [
      | inl h ↦ (same.held.below c h, same.stored.below c h)
      | inr h ↦ (same.held.above c h, same.stored.above c h)
    ]

-- what stays where a segment is emptied
pub whole_with_clean : (old : SpaceContent) (segment : ℕ) (held : HeldPayload) (stored : DevicePages)
    → segment < length old.segments.each → AreWholeLogs old
    → (let new : SpaceContent =
    record { segments = with_clean old.segments segment; held = held; stored = stored } in
    ((c : ℕ) → IsUsed new.segments c → IsSameAt old new c) → AreWholeLogs new)
whole_with_clean old segment held stored within logs kept i =
    elim (cases_eq i segment) [
      | inl e ↦
          ∣ (
            [],
            (let none : (info_of new.segments.each i).used
                ≡ 0 = subst (λ (k : ℕ). (info_of new.segments.each k).used ≡ 0) (sym e) clean in
                omega (arith, none)),
          ) ∣₁
      | inr apart ↦ ∥∥₁_map (logs i) (λ filled. there (other apart) filled)
    ]
  where
    new : SpaceContent
    new = record { segments = with_clean old.segments segment; held = held; stored = stored }

    clean : (info_of new.segments.each segment).used ≡ 0
    clean =
        ap (λ (x : SegmentInfo). x.used)
        (get_or-set_same old.segments.each segment clean_info clean_info within)

    other : i ≢ segment → (info_of new.segments.each i).used ≡ (info_of old.segments.each i).used
    other apart =
        ap (λ (x : SegmentInfo). x.used)
        (get_or-set_other old.segments.each segment i clean_info clean_info apart)

    there : (info_of new.segments.each i).used ≡ (info_of old.segments.each i).used
        → (ls : List WholeLog) × IsFilledBy old i ls → (ls : List WholeLog) × IsFilledBy new i ls
    there used (ls, filled) =
        let start : ℕ = i * old.segments.blocks in
        let end : ℕ = start + (info_of old.segments.each i).used in
        let stays : FillUpTo start end ls held stored = fill_kept start end ls old new
        (λ c low high.
        kept c
        (record { segment = i; block = c - start }, omega (arith, low), omega (arith, low, high, used)))
        filled in
        (ls, rw used stays)

-- ---- what memory has

pub held_with_log : (old : SpaceContent) (log : Log) (stamp : ℕ) (held : HeldPayload) (stored : DevicePages)
    → IsNextLog old.segments log → HoldsOnlyUsed old
    → (let new : SpaceContent =
    record { segments = with_log old.segments log stamp; held = held; stored = stored } in
    SameOutside (first_block old.segments.blocks log) (log.count + 1) old.held held → HoldsOnlyUsed new)
held_with_log old log stamp held stored next only same b unused =
    elim (cases_lt b first) [
      | inl h ↦ same.below b h ∙ only b before
      | inr low ↦ elim (cases_lt b (first + (log.count + 1))) [
        | inl high ↦ absurd (let at : first + (b - first) ≡ b = omega arith in
            unused (subst (IsUsed (with_log old.segments log stamp)) at
            (used_row old.segments log stamp (b - first) next (omega arith))))
        | inr h ↦ same.above b h ∙ only b before
      ]
    ]
  where
    first : ℕ
    first = first_block old.segments.blocks log

    before : IsUsed old.segments b → ⊥
    before used = unused (stays_with_log old.segments log stamp next b used)

pub held_with_error : (old : SpaceContent) (segment : ℕ) (stored : DevicePages)
    → segment < length old.segments.each → HoldsOnlyUsed old
    → (let new : SpaceContent =
    record { segments = with_error old.segments segment; held = old.held; stored = stored } in
    HoldsOnlyUsed new)
held_with_error old segment stored within only b unused =
    only b (λ used. unused (stays_with_error old.segments segment within b used))

-- what is used elsewhere stays used
pub stays_elsewhere : (s : Segments) (segment b : ℕ) → AreTidy s → IsUsed s b
    → (b < segment * s.blocks) ⊎ (segment * s.blocks + s.blocks ≤ b) → IsUsed (with_clean s segment) b
stays_elsewhere s segment b tidy (place, at, used) outside =
    let room = room_of s.blocks s.each tidy.each place.segment in
    let apart : place.segment ≢ segment = (λ e.
    let m : place.segment * s.blocks ≡ segment * s.blocks = ap (λ (n : ℕ). n * s.blocks) e in
    elim outside [ inl h ↦ omega (arith, m, at, h) | inr h ↦ omega (arith, m, at, h, used, room) ]) in (
      place,
      at,
      subst (λ (x : SegmentInfo). place.block < x.used)
          (sym (get_or-set_other s.each segment place.segment clean_info clean_info apart)) used,
    )

pub held_with_clean : (old : SpaceContent) (segment : ℕ) (held : HeldPayload) (stored : DevicePages)
    → AreTidy old.segments → HoldsOnlyUsed old
    → (let new : SpaceContent =
    record { segments = with_clean old.segments segment; held = held; stored = stored } in
    IsEmptied (segment * old.segments.blocks) old.segments.blocks old.held held → HoldsOnlyUsed new)
held_with_clean old segment held stored tidy only emptied b unused =
    elim (cases_lt b first) [
      | inl h ↦
          emptied.outside.below b h
          ∙ only b (λ used. unused (stays_elsewhere old.segments segment b tidy used (inl h)))
      | inr low ↦ elim (cases_lt b (first + old.segments.blocks)) [
        | inl high ↦
            (let at : b ≡ first + (b - first) = omega arith in
            ap held at ∙ emptied.inside (b - first) (omega arith))
        | inr h ↦
            emptied.outside.above b h
            ∙ only b (λ used. unused (stays_elsewhere old.segments segment b tidy used (inr h)))
      ]
    ]
  where
    first : ℕ
    first = segment * old.segments.blocks

-- ---- which segments have logs

rest_at : (infos : List SegmentInfo) (i : ℕ) → info_of (none_active infos) i ≡ at_rest (info_of infos i)
rest_at [] i = refl
rest_at (info ∷ infos) zero = refl
rest_at (info ∷ infos) (suc i) = rest_at infos i

has_logs-at_rest : (info : SegmentInfo) → has_logs (at_rest info).state ≡ has_logs info.state
has_logs-at_rest info = by_state info.state info.stamp info.used
  where
    by_state : (state : SegmentState) (stamp used : ℕ)
        → has_logs (at_rest (record { state = state; stamp = stamp; used = used })).state ≡ has_logs state
    by_state Clean stamp used = refl
    by_state Dirty stamp used = refl
    by_state Active stamp used = refl
    by_state Error stamp used = refl

-- a segment that changed has logs by itself
logs_changed : (s : Segments) (k : ℕ) (info : SegmentInfo) → k < length s.each → HaveLogs s
    → (has_logs info.state ≡ true → 0 < info.used)
    → HaveLogs (record s { each = set (none_active s.each) k info })
logs_changed s k info within logs new i has =
    elim (cases_eq i k) [
      | inl e ↦ (let same = info_same s.each k info within in
          let here : has_logs (info_of (set (none_active s.each) k info) k).state ≡ true =
          subst (λ (n : ℕ). has_logs (info_of (set (none_active s.each) k info) n).state ≡ true) e has in
          let used : 0 < info.used = new (ap (λ (x : SegmentInfo). has_logs x.state) (sym same) ∙ here) in
          subst (λ (n : ℕ). 0 < (info_of (set (none_active s.each) k info) n).used) (sym e)
          (let u = used_same s.each k info within in omega (arith, used, u)))
      | inr apart ↦
          (let same = get_or-set_other (none_active s.each) k i info clean_info apart ∙ rest_at s.each i in
          let before : has_logs (info_of s.each i).state ≡ true =
          sym (has_logs-at_rest (info_of s.each i))
          ∙ ap (λ (x : SegmentInfo). has_logs x.state) (sym same) ∙ has in
          let u = used_other s.each k i info apart in
          let used = logs i before in
          omega (arith, used, u))
    ]

pub logs_with_log : (s : Segments) (log : Log) (stamp : ℕ) → log.segment < length s.each → HaveLogs s
    → HaveLogs (with_log s log stamp)
logs_with_log s log stamp within logs =
    logs_changed s log.segment (record { state = Active; stamp = stamp; used = end_of log }) within logs
    (λ _. omega arith)

pub logs_with_error : (s : Segments) (segment : ℕ) → segment < length s.each → HaveLogs s
    → HaveLogs (with_error s segment)
logs_with_error s segment within logs =
    logs_changed s segment (record (info_of s.each segment) { state = Error }) within logs
    (λ has. absurd (cc))

pub logs_with_clean : (s : Segments) (segment : ℕ) → segment < length s.each → HaveLogs s
    → HaveLogs (with_clean s segment)
logs_with_clean s segment within logs i has =
    elim (cases_eq i segment) [
      | inl e ↦ (let same = get_or-set_same s.each segment clean_info clean_info within in
          let here : has_logs (info_of (set s.each segment clean_info) segment).state ≡ true =
          subst (λ (n : ℕ). has_logs (info_of (set s.each segment clean_info) n).state ≡ true) e has in
          let none : has_logs clean_info.state ≡ true =
          ap (λ (x : SegmentInfo). has_logs x.state) (sym same) ∙ here in
          absurd (cc))
      | inr apart ↦ (let same = get_or-set_other s.each segment i clean_info clean_info apart in
          let before : has_logs (info_of s.each i).state ≡ true =
          ap (λ (x : SegmentInfo). has_logs x.state) (sym same) ∙ has in
          let used = logs i before in
          let u : (info_of (set s.each segment clean_info) i).used ≡ (info_of s.each i).used =
          ap (λ (x : SegmentInfo). x.used) same in
          omega (arith, used, u))
    ]

-- ---- a new space

clean_new : (n i : ℕ) → info_of (replicate n clean_info) i ≡ clean_info
clean_new zero i = refl
clean_new (suc n) zero = refl
clean_new (suc n) (suc i) = clean_new n i

pub whole_new : (blocks n : ℕ) (held : HeldPayload) (stored : DevicePages)
    → (let new : SpaceContent = record {
      segments = record { blocks = blocks; each = replicate n clean_info };
      held = held;
      stored = stored;
    } in
    AreWholeLogs new)
whole_new blocks n held stored i =
    ∣ ([], (let none = ap (λ (x : SegmentInfo). x.used) (clean_new n i) in omega (arith, none))) ∣₁

pub logs_new : (blocks n : ℕ)
    → (let s : Segments = record { blocks = blocks; each = replicate n clean_info } in HaveLogs s)
logs_new blocks n i has =
    let clean = ap (λ (x : SegmentInfo). has_logs x.state) (sym (clean_new n i)) ∙ has in absurd (cc)

pub length-with_error : (s : Segments) (segment : ℕ) → length (with_error s segment).each ≡ length s.each
length-with_error s segment = rw (length-set, length-none_active) refl

pub none_held : (n b : ℕ) → held_in (replicate n None) b ≡ None
none_held zero b = refl
none_held (suc n) zero = refl
none_held (suc n) (suc b) = none_held n b

-- ---- a segment that is emptied

pub cleared : (segment blocks count : ℕ) (old new : DevicePages) → blocks ≡ count
    → ClearsBlocks (segment * count) count old new → IsEmptied (segment * blocks) blocks old new
cleared segment blocks count old new e h =
    rw e (record { inside = h.inside; outside = record { below = h.below; above = h.above } })

pub is_freed : (old : SpaceContent) (segment : ℕ) (held : HeldPayload) (stored : DevicePages)
    → AreTidy old.segments → segment < length old.segments.each
    → IsEmptied (segment * old.segments.blocks) old.segments.blocks old.held held
    → IsEmptied (segment * old.segments.blocks) old.segments.blocks old.stored stored
    → (let new : SpaceContent =
    record { segments = with_clean old.segments segment; held = held; stored = stored } in
    IsFreed segment old new)
is_freed old segment held stored tidy within in_memory on_device = record {
  segments = refl;
  held = in_memory;
  stored = on_device;
  used_stay = λ b used. elim (outside_segment old.segments segment b tidy within used) [
    | inl h ↦ (in_memory.outside.below b h, on_device.outside.below b h)
    | inr h ↦ (in_memory.outside.above b h, on_device.outside.above b h)
  ];
  stays = λ b used outside. stays_elsewhere old.segments segment b tidy used outside;
}

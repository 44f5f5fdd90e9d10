-- Counts that an event leaves as they are.
use Rattle.std.proofs.Common.{◌≡◌, ℕ, zero, suc, ◌<◌, Bool, true, false, cond, get_or, List, [], ◌∷◌, ◌++◌, length, Option, Some, None, inl, inr, sym, refl, ap, subst, ◌∙◌, arith}
use Rattle.std.specs.Option.{option_map}
use Rattle.std.proofs.lemmas.Bool.{cases_Bool}
use Rattle.std.proofs.lemmas.List.{append-nil, get_or-replicate, length-replicate}
use Rattle.nl_types.specs.declared.error.VolError.{VolError}
use Rattle.nl_types.specs.declared.error.VolError.TheVariants as error
use Rattle.nl_types.specs.Blocks.Entries.{Entry, is_needed}
use Rattle.nl_types.specs.Blocks.Lifetimes.{WritesAreByNumber}
use Rattle.nl_types.specs.Blocks.NeedLaws.{CheckpointsKeepNeeds}
use Rattle.nl_sufile.specs.BySegment as by_segment
use Rattle.nl_vstore.specs.Counts.{NeededAreStanding, needed_counts, needed_places}
use Rattle.nl_vstore.specs.Located.{entry_needed, needed_count}
use Rattle.nl_vstore.specs.Stores.{IsFaulted, IsMoveRefused, IsReclaimed, IsStore, IsWriteRefused, KeepsStored, Numbered, Store, address_in, capacity, content_in, entry_now, is_inside, numbered_in}
use Rattle.nl_vstore.specs.Batches.{Changes}
use Rattle.nl_vstore.specs.Content.{Payload}
use Rattle.nl_reclaim.specs.declared.ends.Ended.{Ended}
use Rattle.nl_reclaim.specs.Counted.{Counted, HasEndedNeeded, IsCounted}
use Rattle.nl_reclaim.specs.EndLists.{end_at}
use Rattle.nl_reclaim.specs.Laws.{EmptyCheckpointsKeepCounts, ReadsKeepCounts, RefusedMovesKeepCounts, RefusedWritesKeepCounts, RetirementsKeepCounts, UnusedStoresAreCounted, no_changes}
use Rattle.nl_reclaim.proofs.EndPlaces.{no-number}
use Rattle.nl_reclaim.proofs.JoinedCounts.{at-segment, counted-are-needed, has-block, needed-are-counted}
use Rattle.nl_reclaim.proofs.SegmentsOf.{Follow, some-counted}
use Rattle.nl_reclaim.proofs.StoreChanges.{counts-stay, numbers-stay, place-for, same-sizes, sizes-with-clean, sizes-with-error}
use Rattle.nl_reclaim.proofs.WrittenCounts.{counted-before, written-is-counted}

-- ---- refusals

module _ (standing : NeededAreStanding) (kept : List ℕ) (c : Counted) (old new : Store)
    (old-store : IsStore old) (new-store : IsStore new) (counted : IsCounted old kept c) where
  faulted : (reserve : Bool) (checkpoint stamp : ℕ) (payload : List Payload)
      → IsFaulted reserve checkpoint stamp payload old new → IsCounted new kept c
  faulted reserve checkpoint stamp payload fault =
      numbers-stay standing old new old-store new-store
      (sizes-with-error old.segments new.segments fault.broken_off.written stamp
      fault.broken_off.failed.segment fault.broken_off.segments)
      kept c counted fault.numbers

  stored : KeepsStored old new → IsCounted new kept c
  stored keeps =
      numbers-stay standing old new old-store new-store
      (same-sizes old.segments new.segments keeps.segments) kept c counted keeps.numbers

  unchanged : new ≡ old → IsCounted new kept c
  unchanged same = subst (λ (s : Store). IsCounted s kept c) (sym same) counted

  write-refused : (checkpoint stamp : ℕ) (changes : Changes) (e : VolError)
      → IsWriteRefused checkpoint stamp changes old new e → IsCounted new kept c
  write-refused checkpoint stamp changes error.NoSpace refused = unchanged refused.1
  write-refused checkpoint stamp changes error.Memory refused = unchanged refused
  write-refused checkpoint stamp changes error.Fault refused = faulted true checkpoint stamp _ refused
  write-refused checkpoint stamp changes _ refused = absurd refused

  move-refused : (checkpoint stamp : ℕ) (numbers : List ℕ) (e : VolError)
      → IsMoveRefused checkpoint stamp numbers old new e → IsCounted new kept c
  move-refused checkpoint stamp numbers error.NoSpace refused = stored refused.1
  move-refused checkpoint stamp numbers error.Memory refused = stored refused
  move-refused checkpoint stamp numbers error.Fault (inl read) = stored read.stored_stays
  move-refused checkpoint stamp numbers error.Fault (inr write) =
      faulted false checkpoint stamp write.0 write.2
  move-refused checkpoint stamp numbers _ refused = absurd refused

pub writes-refused : NeededAreStanding → RefusedWritesKeepCounts
writes-refused standing checkpoint stamp changes e kept c old new old-store new-store refused counted =
    write-refused standing kept c old new old-store new-store counted checkpoint stamp changes e refused

pub moves-refused : NeededAreStanding → RefusedMovesKeepCounts
moves-refused standing checkpoint stamp numbers e kept c old new old-store new-store refused counted =
    move-refused standing kept c old new old-store new-store counted checkpoint stamp numbers e refused

pub reads-keep : NeededAreStanding → ReadsKeepCounts
reads-keep standing kept c old new old-store new-store keeps counted =
    stored standing kept c old new old-store new-store counted keeps

-- ---- retirements

module _ (follow : Follow) (standing : NeededAreStanding) (segment count : ℕ) (kept : List ℕ) (c : Counted)
    (old new : Store) (old-store : IsStore old) (new-store : IsStore new)
    (there : segment < length old.segments.each) (none : needed_count old (is_needed kept) segment ≡ 0)
    (reclaimed : IsReclaimed segment count old new) (counted : IsCounted old kept c) where
  -- no needed number stands in the segment
  not-inside : (v : ℕ) (e : Entry) → content_in old v ≡ Some e → is_needed kept e ≡ true
      → is_inside old.segments segment (address_in old v) ≡ false
  not-inside v e at needed = elim (cases_Bool (is_inside old.segments segment (address_in old v))) [
    | inr outside ↦ outside
    | inl inside ↦
        let (b, stands) = has-block old v e at in
        let place : needed_places old (is_needed kept) v ≡ Some b =
        ap (λ (o : Option Entry).
        cond {A = Option ℕ} (entry_needed (is_needed kept) o) (address_in old v) None)
        at
        ∙ ap (λ t. cond {A = Option ℕ} t (address_in old v) None) needed ∙ stands in
        let some =
        some-counted follow old old-store v b segment (needed_places old (is_needed kept))
        (needed_counts old (is_needed kept)) (old-store.numbers v b stands) place
        (ap (is_inside old.segments segment) (sym stands) ∙ inside) there
        (needed-are-counted standing old (is_needed kept) old-store) in
        absurd (omega (arith, some, none, at-segment standing old (is_needed kept) old-store segment there))
  ]

  stays-there : (v : ℕ) → is_inside old.segments segment (address_in old v) ≡ false
      → numbered_in new v ≡ numbered_in old v
  stays-there v outside =
      reclaimed.numbers v ∙ ap (λ t. cond {A = Option Numbered} t None (numbered_in old v)) outside

  gone-there : (v : ℕ) → is_inside old.segments segment (address_in old v) ≡ true → numbered_in new v ≡ None
  gone-there v inside =
      reclaimed.numbers v ∙ ap (λ t. cond {A = Option Numbered} t None (numbered_in old v)) inside

  was-there : (v : ℕ) (e : Entry) → content_in new v ≡ Some e → content_in old v ≡ Some e
  was-there v e at = elim (cases_Bool (is_inside old.segments segment (address_in old v))) [
    | inl inside ↦
        absurd (let wrong : ◌≡◌ {A = Option Entry} None
        (Some e) = sym (ap (option_map entry_now) (gone-there v inside))
        ∙ at in
        cc)
    | inr outside ↦ sym (ap (option_map entry_now) (stays-there v outside)) ∙ at
  ]

  still-there : (v : ℕ) (e : Entry) → content_in old v ≡ Some e → is_needed kept e ≡ true
      → content_in new v ≡ Some e
  still-there v e at needed = ap (option_map entry_now) (stays-there v (not-inside v e at needed)) ∙ at

  same-place : (v : ℕ) → needed_places old (is_needed kept) v ≡ needed_places new (is_needed kept) v
  same-place v = elim (cases_Bool (is_inside old.segments segment (address_in old v))) [
    | inr outside ↦ ap (place-for (is_needed kept)) (sym (stays-there v outside))
    | inl inside ↦
        unneeded (content_in old v) refl inside ∙ sym (ap (place-for (is_needed kept)) (gone-there v inside))
  ]
    where
      counted-for : (o : Option Entry) → content_in old v ≡ o
          → needed_places old (is_needed kept) v
          ≡ cond {A = Option ℕ} (entry_needed (is_needed kept) o) (address_in old v) None
      counted-for o at =
          ap (λ (p : Option Entry).
          cond {A = Option ℕ} (entry_needed (is_needed kept) p) (address_in old v) None)
          at

      unneeded : (o : Option Entry) → content_in old v ≡ o
          → is_inside old.segments segment (address_in old v) ≡ true
          → needed_places old (is_needed kept) v ≡ None
      unneeded None at inside = counted-for None at
      unneeded (Some e) at inside = counted-for (Some e) at ∙ elim (cases_Bool (is_needed kept e)) [
        | inl needed ↦ absurd (let wrong : true ≡ false = sym inside ∙ not-inside v e at needed in cc)
        | inr spare ↦ ap (λ t. cond {A = Option ℕ} t (address_in old v) None) spare
      ]

  ended-still : (v end : ℕ) → HasEndedNeeded (content_in old) (is_needed kept) v end
      → HasEndedNeeded (content_in new) (is_needed kept) v end
  ended-still v end has = record {
    entry = has.entry;
    in_use = still-there v has.entry has.in_use has.passes;
    ended = has.ended;
    passes = has.passes;
  }

  ended-before : (v end : ℕ) → HasEndedNeeded (content_in new) (is_needed kept) v end
      → HasEndedNeeded (content_in old) (is_needed kept) v end
  ended-before v end has = record {
    entry = has.entry;
    in_use = was-there v has.entry has.in_use;
    ended = has.ended;
    passes = has.passes;
  }

  pub retired-is-counted : IsCounted new kept c
  retired-is-counted = record {
    counts =
        counts-stay standing old new old-store new-store
        (sizes-with-clean old.segments new.segments segment reclaimed.freed.segments) kept c counted
        same-place;
    ends = record {
      rising = counted.ends.rising;
      theirs = λ k v is. ended-still v (end_at c.ends k).end (counted.ends.theirs k v is);
      all = λ v end has. counted.ends.all v end (ended-before v end has);
      once = counted.ends.once;
    };
    below = counted.below;
  }

pub retirements-keep : Follow → NeededAreStanding → RetirementsKeepCounts
retirements-keep follow standing segment count kept c old new old-store new-store there none reclaimed
    counted =
    retired-is-counted follow standing segment count kept c old new old-store new-store there none reclaimed
    counted

-- ---- checkpoints without a change

pub empty-checkpoints-keep : NeededAreStanding → CheckpointsKeepNeeds → WritesAreByNumber
    → EmptyCheckpointsKeepCounts
empty-checkpoints-keep standing keep by_number checkpoint kept c old new store next counted =
    subst (λ (ends : List Ended). IsCounted new (kept ++ checkpoint ∷ []) (record c { ends = ends }))
    (append-nil c.ends)
    (written-is-counted standing keep by_number checkpoint no_changes kept old new next store c counted
    c.counts c.room
    (counted-before standing keep by_number checkpoint no_changes kept old new next store c counted))

-- ---- stores without a number in use

count-none : (test : ℕ → Bool) (n : ℕ) → ((v : ℕ) → test v ≡ false) → by_segment.count_to test n ≡ 0
count-none test zero none = refl
count-none test (suc n) none = omega (arith, count-none test n none, ap by_segment.bit (none (suc n)))

pub unused-is-counted : NeededAreStanding → UnusedStoresAreCounted
unused-is-counted standing s kept c store unused zeros no_ends = record {
  counts = counted-are-needed standing s (is_needed kept) store c.counts (record {
    size = ap length zeros ∙ length-replicate {A = ℕ} (length s.segments.each) 0;
    are = record {
      each = λ segment low.
          let there : segment < length s.segments.each =
          omega (arith, low, ap length zeros, length-replicate {A = ℕ} (length s.segments.each) 0) in
          ap (λ (counts : List ℕ). get_or counts segment 0) zeros
          ∙ get_or-replicate (length s.segments.each) segment 0 0 there
          ∙ sym (count-none
          (λ v. by_segment.lies_in s.segments.blocks segment (needed_places s (is_needed kept) v))
          (capacity s)
          (λ v. ap (by_segment.lies_in s.segments.blocks segment) (nowhere v)));
    };
  });
  ends = rw no_ends (record {
    rising = λ i j d order low. absurd (omega (arith, low));
    theirs = λ k v is. no-number v is;
    all = λ v end has.
        absurd (let wrong : ◌≡◌ {A = Option Entry} None (Some has.entry) = sym (unused v) ∙ has.in_use in cc);
    once = λ k j v one two. no-number v one;
  });
  below = rw no_ends (λ k low. absurd (omega (arith, low)));
}
  where
    nowhere : (v : ℕ) → needed_places s (is_needed kept) v ≡ None
    nowhere v =
        ap (λ (o : Option Entry). cond {A = Option ℕ} (entry_needed (is_needed kept) o) (address_in s v) None)
        (unused v)

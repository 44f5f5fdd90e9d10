-- What an append that is refused leaves.
use Rattle.std.proofs.Common.{◌≡◌, ℕ, ◌<◌, ◌≤◌, List, Option, Some, None, inl, inr, sym, refl, ap, subst, ◌∙◌, map, length, arith}
use Rattle.std.specs.Prelude.{Bool, true}
use Rattle.std.specs.List.{range_with_len}
use Rattle.std.specs.Option.{option_map}
use Rattle.std.proofs.lemmas.List.{ext_get_or, length-map}
use Rattle.nl_types.specs.declared.error.VolError.{VolError}
use Rattle.nl_types.specs.declared.error.VolError.TheVariants.{NoSpace, Fault, Memory}
use Rattle.nl_types.specs.Blocks.Segments.{AreTidy, total_blocks}
use Rattle.nl_types.specs.Blocks.Placing.{LacksSpace, with_logs}
use Rattle.nl_device.specs.Failures.{CountsReads, CountsWrites, FailsToWrite, Failures, failure_count, no_failures}
use Rattle.nl_vstore.specs.Content.{Payload, SpaceContent, KeepsUsed}
use Rattle.nl_vstore.specs.Appended.{IsAppendError, IsBrokenOff, IsLoadError}
use Rattle.nl_vstore.specs.Batches.{Changes, items_of}
use Rattle.nl_dat.specs.declared.entries.DatEntry.{DatEntry}
use Rattle.nl_dat.specs.Table.{entry_in, addresses_of, block_of}
use Rattle.nl_vstore.specs.Stores.{Store, IsFaulted, IsGrowthRefused, IsWriteRefused, StaysStored}
use Rattle.nl_dat.specs.Inside.{births_in, numbered_of, numbered_with, store_of, IsDatTable}
use Rattle.nl_dat.proofs.Contents.{KeepsAt}
use Rattle.nl_dat.proofs.StoreOf.{numbered_in-store_of}
use Rattle.nl_dat.specs.Facts.BlockCounts.{total-with_logs, total-with_error}
use Rattle.nl_dat.specs.Facts.ShownSpace.{broken-shown, kept-shown}
use Rattle.nl_dat.proofs.Writing.{keeps_at}

-- there are as many blocks as before
total-broken : (old later : SpaceContent) (reserve : Bool) (stamp checkpoint : ℕ) (payload : List Payload)
    → IsBrokenOff old later reserve stamp checkpoint payload
    → total_blocks later.segments ≡ total_blocks old.segments
total-broken old later reserve stamp checkpoint payload broken =
    ap total_blocks broken.segments
    ∙ total-with_error (with_logs old.segments broken.written stamp) broken.failed.segment
    ∙ total-with_logs old.segments broken.written stamp

pub total-refused : (old later : SpaceContent) (reserve : Bool) (stamp checkpoint : ℕ)
    (payload : List Payload) (e : VolError)
    → IsAppendError e → (e ≡ NoSpace → later ≡ old) → (e ≡ Memory → later ≡ old)
    → (e ≡ Fault → IsBrokenOff old later reserve stamp checkpoint payload)
    → total_blocks later.segments ≡ total_blocks old.segments
total-refused old later reserve stamp checkpoint payload e why no_space memory fault = elim why [
  | inl is ↦ ap (λ (s : SpaceContent). total_blocks s.segments) (no_space is)
  | inr or ↦ elim or [
    | inl is ↦ total-broken old later reserve stamp checkpoint payload (fault is)
    | inr is ↦ ap (λ (s : SpaceContent). total_blocks s.segments) (memory is)
  ]
]

-- and each number is seen as before
pub numbers-kept : (table : List (Option DatEntry)) (old later : SpaceContent)
    → KeepsAt (addresses_of (entry_in table)) (births_in old) (births_in later)
    → map (numbered_of (births_in later)) table ≡ map (numbered_of (births_in old)) table
numbers-kept table old later keeps =
    ext_get_or None _ _
    (length-map table (numbered_of (births_in later))
    ∙ sym (length-map table (numbered_of (births_in old))))
    (λ v h.
    numbered_in-store_of table later no_failures v ∙ same v (entry_in table v) refl
    ∙ sym (numbered_in-store_of table old no_failures v))
  where
    same : (v : ℕ) (o : Option DatEntry) → entry_in table v ≡ o
        → numbered_of (births_in later) o ≡ numbered_of (births_in old) o
    same v None is = refl
    same v (Some e) is = ap (option_map (numbered_with e)) (keeps v e.block (ap (option_map block_of) is))

pub is_faulted : (table : List (Option DatEntry)) (lowest : ℕ) (old later : SpaceContent)
    (before after : Failures) (reserve : Bool) (stamp checkpoint : ℕ) (payload : List Payload)
    → AreTidy old.segments → IsDatTable table lowest old → KeepsUsed old.segments old later
    → failure_count before < failure_count after → before.writes < after.writes
    → IsBrokenOff old later reserve stamp checkpoint payload
    → IsFaulted reserve checkpoint stamp payload (store_of table old before) (store_of table later after)
is_faulted table lowest old later before after reserve stamp checkpoint payload tidy is_table kept risen
    writes broken =
    record {
      failures = risen;
      writes = writes;
      numbers = numbers-kept table old later (keeps_at table lowest old later is_table kept);
      broken_off =
          broken-shown table table old later before after reserve stamp checkpoint payload tidy broken;
      used_stay =
          kept-shown table table old later before after
          (total-broken old later reserve stamp checkpoint payload broken) old.segments kept;
    }

pub write-refused : (checkpoint stamp : ℕ) (changes : Changes) (old new : Store) (e : VolError)
    → IsAppendError e → (e ≡ NoSpace → LacksSpace old.segments true (length changes.births))
    → (e ≡ NoSpace → new ≡ old) → (e ≡ Memory → new ≡ old)
    → (e ≡ Fault → IsFaulted true checkpoint stamp (items_of changes.births) old new)
    → IsWriteRefused checkpoint stamp changes old new e
write-refused checkpoint stamp changes old new e why lacks no_space memory fault = elim why [
  | inl is ↦ subst (IsWriteRefused checkpoint stamp changes old new) (sym is) (lacks is, no_space is)
  | inr or ↦ elim or [
    | inl is ↦ subst (IsWriteRefused checkpoint stamp changes old new) (sym is) (fault is)
    | inr is ↦ subst (IsWriteRefused checkpoint stamp changes old new) (sym is) (memory is)
  ]
]

-- ---- failures are counted on

pub reads-counted : (old new : Failures) → CountsReads old new → failure_count old ≤ failure_count new
reads-counted old new h = omega (arith, h.0, h.1)

pub writes-counted : (old new : Failures) → CountsWrites old new → failure_count old ≤ failure_count new
writes-counted old new h = omega (arith, h.0, h.1)

pub both-counted : (old mid new : Failures) → CountsReads old mid → CountsWrites mid new
    → failure_count old ≤ failure_count new
both-counted old mid new reads writes = omega (arith, reads.0, reads.1, writes.0, writes.1)

-- ---- a store that doesn't grow

pub growth-refused : (table now : List (Option DatEntry)) (old later : SpaceContent) (before after : Failures)
    (e : VolError)
    → IsLoadError e → now ≡ table → later ≡ old → (e ≡ Fault → FailsToWrite before after)
    → (e ≡ Memory → after ≡ before)
    → IsGrowthRefused (store_of table old before) (store_of now later after) e
growth-refused table now old later before after e why is same fault untried = elim why [
  | inl at ↦
      let risen = fault at in
      subst (IsGrowthRefused (store_of table old before) (store_of now later after)) (sym at)
      (omega (arith, risen.0, risen.1), risen.1, stays)
  | inr at ↦
      subst (IsGrowthRefused (store_of table old before) (store_of now later after)) (sym at)
      (λ i. store_of (is i) (same i) (untried at i))
]
  where
    stays : StaysStored (store_of table old before) (store_of now later after)
    stays = record {
      numbers =
          ap (map (numbered_of (births_in later))) is
          ∙ ap (λ (s : SpaceContent). map (numbered_of (births_in s)) table) same;
      segments = ap (λ (s : SpaceContent). s.segments) same;
      device =
          ap (λ (s : SpaceContent). map s.stored (range_with_len 0 (total_blocks s.segments))) same;
      payload = ap (λ (s : SpaceContent). map s.held (range_with_len 0 (total_blocks s.segments))) same;
    }

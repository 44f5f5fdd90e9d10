-- The lowest free number, and why there is one where there is space.
use Rattle.std.proofs.Common.{◌≡◌, ℕ, ◌+◌, ◌<◌, ◌≤◌, true, false, List, Some, None, Option, inl, inr, ⊎_elim, sym, refl, ap, ◌∙◌, length, is_some, arith}
use Rattle.std.specs.Prelude.{Bool, ◌||◌, max}
use Rattle.std.specs.Option.{option_map}
use Rattle.std.proofs.lemmas.Bool.{cases_Bool, cases_lt}
use Rattle.nl_types.specs.Blocks.Segments.{AreTidy, total_blocks}
use Rattle.nl_types.specs.declared.segment.Log.{Log}
use Rattle.nl_types.specs.Blocks.Placing as placing
use Rattle.nl_types.specs.Blocks.PlacingLaws.{WhatFitsHasRoom}
use Rattle.nl_types.specs.Blocks.PartialMaps.{Partial}
use Rattle.nl_types.specs.Blocks.Entries.{Content}
use Rattle.nl_device.specs.Failures.{Failures}
use Rattle.nl_vstore.specs.Content.{SpaceContent}
use Rattle.nl_dat.specs.declared.entries.DatEntry.{DatEntry}
use Rattle.nl_vstore.specs.Batches.{LacksSpaceFrom, Changes, CanBeTaken, IsLowestFree, is_born, is_taken, last_number}
use Rattle.nl_dat.specs.Table.{AreInUse, IsFirstFree, entry_in, addresses_of, block_of}
use Rattle.nl_vstore.specs.Stores.{content_in}
use Rattle.nl_dat.specs.Inside.{births_in, store_of, IsDatTable}
use Rattle.nl_dat.proofs.SoundTable.{is_some-content_of, HaveOwnPayload-apart}
use Rattle.nl_dat.proofs.StoreOf.{content_in-store_of}
use Rattle.nl_dat.proofs.Counting.{taken-need-blocks}

is_some-addresses_of : (entries : Partial DatEntry) (v : ℕ)
    → is_some (addresses_of entries v) ≡ is_some (entries v)
is_some-addresses_of entries v = of_entry (entries v)
  where
    of_entry : (o : Option DatEntry) → is_some (option_map block_of o) ≡ is_some o
    of_entry None = refl
    of_entry (Some e) = refl

module _ (table : List (Option DatEntry)) (lowest : ℕ) (space : SpaceContent) (failures : Failures)
    (changes : Changes) (is_table : IsDatTable table lowest space)
    (fits : CanBeTaken (total_blocks space.segments)
    (content_in (store_of table space failures)) changes) where
  abbrev pub content : Content
  content = content_in (store_of table space failures)

  -- a number is in use exactly where the table has an entry
  pub in_use : (v : ℕ) → is_some (content v) ≡ is_some (entry_in table v)
  in_use v =
      ap (λ (f : Content). is_some (f v)) (content_in-store_of table space failures)
      ∙ sym (is_some-content_of (entry_in table) (births_in space) v is_table.sound)
      ∙ is_some-addresses_of (entry_in table) v

  -- what the batch has taken, and what the table has, from 1 up to a number
  taken_to : (end : ℕ) → AreInUse table (max lowest (last_number changes.births + 1)) end → (v : ℕ) → 1 ≤ v
      → v < end → is_taken content changes.births v ≡ true
  taken_to end found v low high = ⊎_elim
      (λ (born : v < last_number changes.births + 1). fits.taken v low (omega (arith, born)))
      (λ (behind : last_number changes.births + 1 ≤ v).
      ap (λ b. b || is_born changes.births v) (in_use v ∙ ⊎_elim
      (λ (below : v < lowest). is_table.below_lowest v low below)
      (λ (above : lowest ≤ v). found v (omega (arith, behind, above)) high)
      (cases_lt v lowest)))
      (cases_lt v (last_number changes.births + 1))

  pub lowest-free : (n : ℕ) → IsFirstFree table (max lowest (last_number changes.births + 1)) n
      → IsLowestFree content changes.births n
  lowest-free n first = record {
    positive = omega (arith, first.low);
    free = ap (λ b. b || is_born changes.births n) (in_use n ∙ ap is_some first.free) ∙ unborn;
    lowest = λ w low high. taken_to n first.before w low high;
  }
    where
      unborn : is_born changes.births n ≡ false
      unborn = elim (cases_Bool (is_born changes.births n)) [
        | inl born ↦ absurd (omega (arith, fits.upto_last n born, first.low))
        | inr e ↦ e
      ]

  -- where every number is taken, no list of logs fits one block more, or yet more
  pub no_number-no_space : WhatFitsHasRoom → AreTidy space.segments
      → AreInUse table (max lowest (last_number changes.births + 1)) (length table)
      → LacksSpaceFrom space.segments (length changes.births + 1)
  no_number-no_space has_room tidy found = λ reserve m more logs that_fits.
      let room = has_room space.segments reserve m logs tidy that_fits in
      let need =
      taken-need-blocks space.segments (addresses_of (entry_in table)) content changes.births
      (total_blocks space.segments)
      (λ v w b at_v at_w.
      HaveOwnPayload-apart (addresses_of (entry_in table)) (births_in space) v w b is_table.sound at_v at_w)
      is_table.used
      (λ v. is_some-addresses_of (entry_in table) v ∙ sym (in_use v))
      (λ v low high. taken_to (length table) found v low (omega (arith, high, is_table.full))) in
      omega (arith, room, need, more)

  -- where a list of logs fits the births, their numbers are among those that there are
  pub numbers-inside : WhatFitsHasRoom → AreTidy space.segments → (reserve : Bool) (logs : List Log)
      → placing.LogsFit space.segments reserve (length changes.births) logs
      → last_number changes.births ≤ total_blocks space.segments
  numbers-inside has_room tidy reserve logs that_fits =
      let room = has_room space.segments reserve (length changes.births) logs tidy that_fits in
      let need =
      taken-need-blocks space.segments (addresses_of (entry_in table)) content changes.births
      (last_number changes.births)
      (λ v w b at_v at_w.
      HaveOwnPayload-apart (addresses_of (entry_in table)) (births_in space) v w b is_table.sound at_v at_w)
      is_table.used
      (λ v. is_some-addresses_of (entry_in table) v ∙ sym (in_use v))
      fits.taken in
      omega (arith, room, need)

  -- where no number from there on is free, each is taken
  pub all-taken : AreInUse table (max lowest (last_number changes.births + 1)) (length table) → (v : ℕ)
      → 1 ≤ v → v ≤ total_blocks space.segments → is_taken content changes.births v ≡ true
  all-taken found v low high = taken_to (length table) found v low (omega (arith, high, is_table.full))

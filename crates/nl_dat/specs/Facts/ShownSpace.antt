-- A store shows the space that it lies over, block by block.
use Rattle.std.proofs.Common.{◌≡◌, ℕ, ◌+◌, ◌*◌, ◌<◌, ◌≤◌, Bool, List, [], ◌∷◌, ◌++◌, None, Option, inl, inr, sym, refl, ap, subst, ◌∙◌, map, take, drop, length, arith}
use Rattle.std.specs.List.{AllByRecursion, range_with_len}
use Rattle.std.proofs.Math.Logic.{∥∥₁_map}
use Rattle.std.proofs.lemmas.Bool.{cases_lt}
use Rattle.std.proofs.lemmas.List.{get_or_past, length-take}
use Rattle.std.proofs.lemmas.List.FromFn.{get_or-map-range_with_len, length-map-range_with_len}
use Rattle.nl_types.specs.declared.segment.Log.{Log}
use Rattle.nl_types.specs.Blocks.Segments.{Segments, AreTidy, total_blocks}
use Rattle.nl_types.specs.Blocks.Placing.{first_block, with_logs}
use Rattle.nl_types.specs.Facts.NextLogs.{placed}
use Rattle.nl_types.specs.Facts.UsedParts.{used_inside}
use Rattle.nl_types.specs.Blocks.PartialMaps.{Stands}
use Rattle.nl_device.specs.Failures.{Failures}
use Rattle.nl_vstore.specs.Content.{SpaceContent, Payload, IsSameAt, IsFreed, KeepsUsed, HoldsOnlyUsed, payload_page}
use Rattle.nl_vstore.specs.Logs.{AreWholeLogs}
use Rattle.nl_vstore.specs.Appended.{StandInLogs, KeepsOtherBlocks, IsAppended, IsBrokenOff}
use Rattle.nl_vstore.specs.FactsOfSpace.LogNumbers.{logs_inside}
use Rattle.nl_vstore.specs.FactsOfSpace.KeptLogs.{filled_same, stands_kept}
use Rattle.nl_dat.specs.declared.entries.DatEntry.{DatEntry}
use Rattle.nl_vstore.specs.Stores.{payload_in, device_in, space_in}
use Rattle.nl_dat.specs.Inside.{store_of}
use Rattle.nl_dat.specs.Facts.BlockCounts.{total-with_logs, total-with_error}

module _ (table : List (Option DatEntry)) (space : SpaceContent) (failures : Failures) where
  pub shown : (b : ℕ) → b < total_blocks space.segments
      → IsSameAt space (space_in (store_of table space failures)) b
  shown b low = (
    get_or-map-range_with_len space.held 0 (total_blocks space.segments) b b None low (omega arith),
    get_or-map-range_with_len space.stored 0 (total_blocks space.segments) b b None low (omega arith),
  )

  -- there is nothing behind the last block
  pub none-payload : (b : ℕ) → total_blocks space.segments ≤ b
      → payload_in (store_of table space failures) b ≡ None
  none-payload b high =
      let size = length-map-range_with_len space.held 0 (total_blocks space.segments) in
      get_or_past (map space.held (range_with_len 0 (total_blocks space.segments))) b None
      (omega (arith, size, high))

  pub none-device : (b : ℕ) → total_blocks space.segments ≤ b
      → device_in (store_of table space failures) b ≡ None
  none-device b high =
      let size = length-map-range_with_len space.stored 0 (total_blocks space.segments) in
      get_or_past (map space.stored (range_with_len 0 (total_blocks space.segments))) b None
      (omega (arith, size, high))

  pub whole-shown : AreTidy space.segments → AreWholeLogs space
      → AreWholeLogs (space_in (store_of table space failures))
  whole-shown tidy whole i =
      ∥∥₁_map (whole i)
      (filled_same space (space_in (store_of table space failures)) i refl refl
      (λ c used. shown c (used_inside space.segments c tidy used)))

  pub only-shown : HoldsOnlyUsed space → HoldsOnlyUsed (space_in (store_of table space failures))
  only-shown only b unused = elim (cases_lt b (total_blocks space.segments)) [
    | inl low ↦ (shown b low).0 ∙ only b unused
    | inr high ↦ none-payload b high
  ]

  -- ---- what stands

  pub stand_at-shown : (at : List ℕ) (payload : List Payload)
      → AllByRecursion (λ b. b < total_blocks space.segments) at → Stands space.held at payload
      → Stands (payload_in (store_of table space failures)) at payload
  stand_at-shown [] [] all h = tt
  stand_at-shown [] (p ∷ payload) all h = absurd h
  stand_at-shown (b ∷ at) [] all h = absurd h
  stand_at-shown (b ∷ at) (p ∷ payload) all h = ((shown b all.0).0 ∙ h.0, stand_at-shown at payload all.1 h.1)

  pub stored_at-shown : (at : List ℕ) (pages : List (List ℕ))
      → AllByRecursion (λ b. b < total_blocks space.segments) at → Stands space.stored at pages
      → Stands (device_in (store_of table space failures)) at pages
  stored_at-shown [] [] all h = tt
  stored_at-shown [] (p ∷ pages) all h = absurd h
  stored_at-shown (b ∷ at) [] all h = absurd h
  stored_at-shown (b ∷ at) (p ∷ pages) all h = ((shown b all.0).1 ∙ h.0, stored_at-shown at pages all.1 h.1)

  pub logs-shown : (blocks stamp checkpoint : ℕ) (logs : List Log) (payload : List Payload)
      → AllByRecursion (λ log. first_block blocks log + 1 + log.count ≤ total_blocks space.segments) logs
      → StandInLogs blocks stamp checkpoint logs payload space.held space.stored
      → StandInLogs blocks stamp checkpoint logs payload (payload_in (store_of table space failures))
      (device_in (store_of table space failures))
  logs-shown blocks stamp checkpoint [] payload all h = tt
  logs-shown blocks stamp checkpoint (log ∷ logs) payload all h = (
    stands_kept (first_block blocks log)
        (record { stamp = stamp; checkpoint = checkpoint; payload = take log.count payload }) space
        (space_in (store_of table space failures))
        (λ c low high. shown c (let few = at_most log.count payload in omega (arith, all.0, high, few))) h.0,
    logs-shown blocks stamp checkpoint logs (drop log.count payload) all.1 h.1,
  )
    where
      at_most : (n : ℕ) (xs : List Payload) → length (take n xs) ≤ n
      at_most n xs = omega (arith, length-take n xs)

-- ---- what changes

module _ (table new : List (Option DatEntry)) (old later : SpaceContent) (before after : Failures)
    (total : total_blocks later.segments ≡ total_blocks old.segments) where
  pub same-shown : (b : ℕ) → IsSameAt old later b
      → IsSameAt (space_in (store_of table old before)) (space_in (store_of new later after)) b
  same-shown b same = elim (cases_lt b (total_blocks old.segments)) [
    | inl low ↦
        let was = shown table old before b low in
        let is = shown new later after b (omega (arith, low, total)) in
        (is.0 ∙ same.0 ∙ sym was.0, is.1 ∙ same.1 ∙ sym was.1)
    | inr high ↦ (
      none-payload new later after b (omega (arith, high, total))
          ∙ sym (none-payload table old before b high),
      none-device new later after b (omega (arith, high, total)) ∙ sym (none-device table old before b high),
    )
  ]

  pub kept-shown : (s : Segments) → KeepsUsed s old later
      → KeepsUsed s (space_in (store_of table old before)) (space_in (store_of new later after))
  kept-shown s kept b used = same-shown b (kept b used)

  pub others-shown : (blocks : ℕ) (logs : List Log) → KeepsOtherBlocks blocks logs old later
      → KeepsOtherBlocks blocks logs (space_in (store_of table old before))
      (space_in (store_of new later after))
  others-shown blocks logs others b outside = same-shown b (others b outside)

  pub freed-shown : (segment : ℕ) → IsFreed segment old later
      → IsFreed segment (space_in (store_of table old before)) (space_in (store_of new later after))
  freed-shown segment freed = record {
    segments = freed.segments;
    held = record {
      inside = λ j low. elim (cases_lt (segment * old.segments.blocks + j) (total_blocks later.segments)) [
        | inl h ↦ (shown new later after (segment * old.segments.blocks + j) h).0 ∙ freed.held.inside j low
        | inr h ↦ none-payload new later after (segment * old.segments.blocks + j) h
      ];
      outside = record {
        below = λ b h. (same-shown b (freed.held.outside.below b h, freed.stored.outside.below b h)).0;
        above = λ b h. (same-shown b (freed.held.outside.above b h, freed.stored.outside.above b h)).0;
      };
    };
    stored = record {
      inside = λ j low. elim (cases_lt (segment * old.segments.blocks + j) (total_blocks later.segments)) [
        | inl h ↦ (shown new later after (segment * old.segments.blocks + j) h).1 ∙ freed.stored.inside j low
        | inr h ↦ none-device new later after (segment * old.segments.blocks + j) h
      ];
      outside = record {
        below = λ b h. (same-shown b (freed.held.outside.below b h, freed.stored.outside.below b h)).1;
        above = λ b h. (same-shown b (freed.held.outside.above b h, freed.stored.outside.above b h)).1;
      };
    };
    used_stay = kept-shown later.segments freed.used_stay;
    stays = freed.stays;
  }

-- ---- an append

module _ (table new : List (Option DatEntry)) (old later : SpaceContent) (before after : Failures)
    (reserve : Bool) (stamp checkpoint : ℕ) (payload : List Payload) (tidy : AreTidy old.segments) where
  pub appended-shown : (at : List ℕ) → IsAppended old later reserve stamp checkpoint payload at
      → IsAppended (space_in (store_of table old before))
      (space_in (store_of new later after)) reserve stamp checkpoint payload at
  appended-shown at a = record {
    logs = a.logs;
    fits = a.fits;
    segments = a.segments;
    logs_stand =
        logs-shown new later after old.segments.blocks stamp checkpoint a.logs payload
        (logs_inside a.logs old.segments stamp (total_blocks later.segments)
        (placed old.segments reserve (length payload) stamp a.logs tidy a.fits).next
        (omega (arith, total)))
        a.logs_stand;
    at = a.at;
    unused_before = a.unused_before;
    used_now = a.used_now;
    held = stand_at-shown new later after at payload inside a.held;
    stored = stored_at-shown new later after at (map payload_page payload) inside a.stored;
    others = others-shown table new old later before after total old.segments.blocks a.logs a.others;
  }
    where
      total : total_blocks later.segments ≡ total_blocks old.segments
      total = ap total_blocks a.segments ∙ total-with_logs old.segments a.logs stamp

      inside : AllByRecursion (λ b. b < total_blocks later.segments) at
      inside = subst (λ (n : ℕ). AllByRecursion (λ b. b < n) at) (sym total) a.unused_before.inside

  pub broken-shown : IsBrokenOff old later reserve stamp checkpoint payload
      → IsBrokenOff (space_in (store_of table old before))
      (space_in (store_of new later after)) reserve stamp checkpoint payload
  broken-shown a = record {
    written = a.written;
    failed = a.failed;
    left = a.left;
    fits = a.fits;
    segments = a.segments;
    logs_stand = logs-shown new later after old.segments.blocks stamp checkpoint a.written payload
        (front
        (λ (log : Log). first_block old.segments.blocks log + 1 + log.count ≤ total_blocks later.segments)
        a.written
        (a.failed ∷ a.left)
        (logs_inside (a.written ++ a.failed ∷ a.left) old.segments stamp (total_blocks later.segments)
        (placed old.segments reserve (length payload) stamp
        (a.written ++ a.failed ∷ a.left) tidy a.fits).next
        (omega (arith, total))))
        a.logs_stand;
    others =
        others-shown table new old later before after total old.segments.blocks
        (a.written ++ a.failed ∷ []) a.others;
  }
    where
      total : total_blocks later.segments ≡ total_blocks old.segments
      total =
          ap total_blocks a.segments
          ∙ total-with_error (with_logs old.segments a.written stamp) a.failed.segment
          ∙ total-with_logs old.segments a.written stamp

      front : (P : Log → Type 0) (xs ys : List Log) → AllByRecursion P (xs ++ ys) → AllByRecursion P xs
      front P [] ys h = tt
      front P (x ∷ xs) ys h = (h.0, front P xs ys h.1)

-- A table whose space is grown.
use Rattle.std.proofs.Common.{◌≡◌, ℕ, zero, suc, ◌+◌, ◌-◌, ◌*◌, ◌<◌, ◌≤◌, List, [], ◌∷◌, ◌++◌, length, take, Option, None, Some, inl, inr, refl, ap, sym, subst, ◌∙◌, is_some, arith}
use Rattle.std.proofs.Math.ListN.{replicate}
use Rattle.std.specs.Option.{option_map}
use Rattle.std.proofs.Math.Nat.{mul-le-mul_right}
use Rattle.std.proofs.lemmas.Bool.{cases_lt}
use Rattle.std.proofs.lemmas.List.{length-append, length-replicate}
use Rattle.nl_types.specs.Blocks.Segments.{IsUsed, Segments, grown_to, total_blocks}
use Rattle.nl_types.specs.Blocks.GrowingLaws.{UsedStays}
use Rattle.nl_types.specs.Blocks.Entries.{Birth, number_of}
use Rattle.nl_types.specs.Blocks.PartialMaps.{Partial}
use Rattle.nl_types.specs.Facts.UsedParts.{used_inside}
use Rattle.nl_types.specs.Blocks.Segments.{AreTidy}
use Rattle.nl_device.specs.Failures.{Failures}
use Rattle.nl_vstore.specs.Content.{HoldsOnlyUsed, IsGrown, Payload, SpaceContent, payload_page}
use Rattle.nl_vstore.specs.Batches.{birth_of_item}
use Rattle.nl_vstore.specs.Stores.{HasGrown, device_in, numbered_in, payload_in}
use Rattle.nl_dat.specs.declared.entries.DatEntry.{DatEntry}
use Rattle.nl_dat.specs.Inside.{IsDatTable, births_in, numbered_of, store_of}
use Rattle.nl_dat.specs.Table.{addresses_of, block_of, entry_in}
use Rattle.nl_dat.specs.Facts.ShownSpace.{none-payload, shown}
use Rattle.nl_dat.proofs.StoreOf.{numbered_in-store_of}

-- places without a value behind others
entry-behind : (table : List (Option DatEntry)) (k v : ℕ)
    → entry_in (table ++ replicate k None) v ≡ entry_in table v
entry-behind [] zero v = refl
entry-behind [] (suc k) zero = refl
entry-behind [] (suc k) (suc v) = entry-behind [] k v
entry-behind (entry ∷ table) k zero = refl
entry-behind (entry ∷ table) k (suc v) = entry-behind table k v

-- as many as there were stand in front
pub front : (table more : List (Option DatEntry)) → take (length table) (table ++ more) ≡ table
front [] more = refl
front (entry ∷ table) more = ap (λ (rest : List (Option DatEntry)). entry ∷ rest) (front table more)

module _ (table : List (Option DatEntry)) (lowest segments : ℕ) (old later : SpaceContent)
    (before after : Failures)
    (is_table : IsDatTable table lowest old) (tidy : AreTidy old.segments) (used_stays : UsedStays)
    (only : HoldsOnlyUsed old)
    (more : length old.segments.each ≤ segments) (grown : IsGrown segments old later) where
  abbrev count : ℕ
  count = segments * old.segments.blocks + 1

  abbrev new : List (Option DatEntry)
  new = table ++ replicate (count - length table) None

  same : (v : ℕ) → entry_in new v ≡ entry_in table v
  same v = entry-behind table (count - length table) v

  at : (v : ℕ) → addresses_of (entry_in new) v ≡ addresses_of (entry_in table) v
  at v = ap (option_map block_of) (same v)

  births : births_in later ≡ births_in old
  births = λ i b. option_map birth_of_item (grown.held b i)

  -- there are as many blocks as segments ask for
  total : total_blocks later.segments ≡ segments * old.segments.blocks
  total =
      ap total_blocks grown.segments
      ∙ ap (λ (n : ℕ). n * old.segments.blocks) (rw (length-append, length-replicate) (omega (arith, more)))

  most : total_blocks old.segments ≤ segments * old.segments.blocks
  most = mul-le-mul_right old.segments.blocks more

  used : (b : ℕ) → IsUsed old.segments b → IsUsed later.segments b
  used b is =
      subst (λ (s : Segments). IsUsed s b) (sym grown.segments) ((used_stays segments b old.segments).0 is)

  pub table-grown : IsDatTable new lowest later
  table-grown = record {
    full = rw (length-append, length-replicate) (omega (arith, is_table.full, total, most));
    zero_unused = same 0 ∙ is_table.zero_unused;
    sound = λ v b is.
        ap (option_map number_of) (ap (λ (f : Partial Birth). f b) births)
        ∙ is_table.sound v b (sym (at v) ∙ is);
    used = λ v b is. used b (is_table.used v b (sym (at v) ∙ is));
    stored = λ v b is.
        let was = sym (at v) ∙ is in
        let kept = grown.used_stay b (is_table.used v b was) in
        kept.1 ∙ is_table.stored v b was ∙ sym (ap (option_map payload_page) kept.0);
    positive = is_table.positive;
    within = rw (length-append) (omega (arith, is_table.within));
    below_lowest = λ v low high. ap is_some (same v) ∙ is_table.below_lowest v low high;
  }

  -- a block behind the old ones has no payload
  none : (b : ℕ) → total_blocks old.segments ≤ b → later.held b ≡ None
  none b high =
      grown.held b ∙ only b (λ is. let low = used_inside old.segments b tidy is in omega (arith, low, high))

  payload : (b : ℕ) → payload_in (store_of new later after) b ≡ payload_in (store_of table old before) b
  payload b = elim (cases_lt b (total_blocks old.segments)) [
    | inl low ↦
        (shown new later after b (omega (arith, low, total, most))).0 ∙ grown.held b
        ∙ sym (shown table old before b low).0
    | inr high ↦ (elim (cases_lt b (total_blocks later.segments)) [
      | inl low ↦ (shown new later after b low).0 ∙ none b high
      | inr past ↦ none-payload new later after b past
    ]) ∙ sym (none-payload table old before b high)
  ]

  pub has-grown : after ≡ before → HasGrown segments (store_of table old before) (store_of new later after)
  has-grown unfailed = record {
    segments = grown.segments;
    numbers = λ v.
        numbered_in-store_of new later after v
        ∙ ap (λ (f : Partial Birth). numbered_of f (entry_in new v)) births
        ∙ ap (numbered_of (births_in old)) (same v) ∙ sym (numbered_in-store_of table old before v);
    payload = payload;
    device = λ b is.
        let low = used_inside old.segments b tidy is in
        (shown new later after b (omega (arith, low, total, most))).1 ∙ (grown.used_stay b is).1
        ∙ sym (shown table old before b low).1;
    unfailed = unfailed;
  }

-- What a reclaim does to the table and to what callers see.
use Rattle.std.proofs.Common.{◌≡◌, ℕ, ◌+◌, ◌-◌, ◌*◌, ◌<◌, ◌≤◌, Bool, true, false, cond, List, Some, None, Option, inl, inr, sym, refl, ap, subst, ◌∙◌, is_some, arith}
use Rattle.std.specs.Prelude.{IfSome}
use Rattle.std.specs.Option.{option_map}
use Rattle.std.proofs.lemmas.Bool.{cases_Bool, cases_eq, cases_lt}
use Rattle.std.proofs.lemmas.Bool.Decides.{nat_tests}
use Rattle.std.proofs.lemmas.List.{length-set, get_or-set_other}
use Rattle.nl_types.specs.Blocks.Segments.{Segments, AreTidy, IsUsed, info_of, clean_info, with_clean, total_blocks}
use Rattle.nl_types.specs.Facts.SegmentChanges.{room_of}
use Rattle.nl_types.specs.Blocks.PartialMaps.{Partial}
use Rattle.nl_types.specs.Blocks.Entries.{number_of}
use Rattle.nl_device.specs.Failures.{Failures}
use Rattle.nl_vstore.specs.Content.{SpaceContent, IsFreed, payload_page}
use Rattle.nl_dat.specs.declared.entries.DatEntry.{DatEntry}
use Rattle.nl_dat.specs.declared.reclaim.TakenOut.{TakenOut}
use Rattle.nl_vstore.specs.Batches.{birth_of_item}
use Rattle.nl_dat.specs.Table.{entry_in, addresses_of, block_of}
use Rattle.nl_vstore.specs.Stores.{IsReclaimed, numbered_in, is_inside}
use Rattle.nl_dat.specs.Inside.{births_in, numbered_of, numbered_with, store_of, IsDatTable}
use Rattle.nl_dat.specs.TakenOut.{HasTakenOut, IsAtMost, is_in_row}
use Rattle.nl_dat.proofs.StoreOf.{numbered_in-store_of, address_in-store_of}
use Rattle.nl_dat.specs.Facts.Positions.{position-used}
use Rattle.nl_dat.specs.Facts.ShownSpace.{freed-shown}

-- a used block lies in the row of a segment's used part exactly where it lies in the segment
row-inside : (s : Segments) (segment b : ℕ) → AreTidy s → IsUsed s b
    → is_in_row (segment * s.blocks) (info_of s.each segment).used (Some b) ≡ is_inside s segment (Some b)
row-inside s segment b tidy used = elim (cases_lt b (segment * s.blocks)) [
  | inl below ↦ grind (arith, nat_tests)
  | inr high ↦ elim (cases_lt b (segment * s.blocks + s.blocks)) [
    | inl inside ↦
        let low : b - segment * s.blocks < (info_of s.each segment).used =
        position-used s segment (b - segment * s.blocks) b tidy used (omega arith) (omega arith) in
        grind (arith, nat_tests)
    | inr past ↦
        let room : (info_of s.each segment).used ≤ s.blocks = room_of s.blocks s.each tidy.each segment in
        grind (arith, nat_tests)
  ]
]

-- a used block of another segment is still used once the segment is clean
used-elsewhere : (s : Segments) (segment b : ℕ) → AreTidy s → IsUsed s b
    → is_inside s segment (Some b) ≡ false → IsUsed (with_clean s segment) b
used-elsewhere s segment b tidy (place, at, used) outside = elim (cases_eq place.segment segment) [
  | inl e ↦
      let m : place.segment * s.blocks ≡ segment * s.blocks = ap (λ (k : ℕ). k * s.blocks) e in
      let full : place.block < s.blocks = let f = room_of s.blocks s.each tidy.each place.segment in
      omega (arith, f, used) in
      let inside : is_inside s segment (Some b) ≡ true = grind (arith, nat_tests) in
      absurd (true_false (sym inside ∙ outside))
  | inr n ↦ (
    place,
    at,
    subst (λ (i : Rattle.nl_types.specs.declared.segment.SegmentInfo.SegmentInfo). place.block < i.used)
        (sym (get_or-set_other s.each segment place.segment clean_info clean_info n)) used,
  )
]
  where
    true_false : true ≡ false → ⊥
    true_false h = cc

module _ (table new : List (Option DatEntry)) (filled filled' segment : ℕ) (old later : SpaceContent)
    (before after : Failures) (taken : TakenOut)
    (is_table : IsDatTable table (filled + 1) old) (tidy : AreTidy old.segments)
    (freed : IsFreed segment old later)
    (out : HasTakenOut (segment * old.segments.blocks)
    (info_of old.segments.each segment).used table new taken)
    (most : filled' ≤ filled) (least : IfSome taken.least (λ l. filled' ≤ l - 1)) where
  inside : ℕ → Bool
  inside v = is_inside old.segments segment (addresses_of (entry_in table) v)

  -- which entries are taken out
  in_row : (v : ℕ)
      → is_in_row (segment * old.segments.blocks) (info_of old.segments.each segment).used
      (addresses_of (entry_in table) v)
      ≡ is_inside old.segments segment (addresses_of (entry_in table) v)
  in_row v = of_address (addresses_of (entry_in table) v) refl
    where
      of_address : (o : Option ℕ) → addresses_of (entry_in table) v ≡ o
          → is_in_row (segment * old.segments.blocks) (info_of old.segments.each segment).used o
          ≡ is_inside old.segments segment o
      of_address None is = refl
      of_address (Some b) is = row-inside old.segments segment b tidy (is_table.used v b is)

  left : (v : ℕ)
      → entry_in new v
      ≡ cond (is_inside old.segments segment (addresses_of (entry_in table) v)) None (entry_in table v)
  left v = out.left v ∙ ap (λ t. cond t None (entry_in table v)) (in_row v)

  -- a number that is left has what it had, outside of the segment
  stays : (v b : ℕ) → addresses_of (entry_in new) v ≡ Some b
      → (addresses_of (entry_in table) v ≡ Some b) × (is_inside old.segments segment (Some b) ≡ false)
  stays v b at = elim (cases_Bool (is_inside old.segments segment (addresses_of (entry_in table) v))) [
    | inl e ↦
        let none : addresses_of (entry_in new) v ≡ None =
        ap (option_map block_of) (left v ∙ ap (λ t. cond t None (entry_in table v)) e) in
        absurd (none_some (sym none ∙ at))
    | inr e ↦
        let was : addresses_of (entry_in table) v ≡ Some b =
        sym (ap (option_map block_of) (left v ∙ ap (λ t. cond t None (entry_in table v)) e)) ∙ at in
        (was, sym (ap (is_inside old.segments segment) was) ∙ e)
  ]
    where
      none_some : None ≡ Some b → ⊥
      none_some h = cc

  used_now : (v b : ℕ) → addresses_of (entry_in new) v ≡ Some b → IsUsed later.segments b
  used_now v b at =
      let s = stays v b at in
      subst (λ (t : Segments). IsUsed t b) (sym freed.segments)
      (used-elsewhere old.segments segment b tidy (is_table.used v b s.0) s.1)

  total : total_blocks later.segments ≡ total_blocks old.segments
  total =
      ap total_blocks freed.segments
      ∙ ap (λ (n : ℕ). n * old.segments.blocks) (length-set old.segments.each segment clean_info)

  pub table-reclaimed : IsDatTable new (filled' + 1) later
  table-reclaimed = record {
    full = out.size ∙ is_table.full ∙ ap (λ n. n + 1) (sym total);
    zero_unused =
        left 0
        ∙ ap
        (cond (is_inside old.segments segment (addresses_of (entry_in table) 0)) None) is_table.zero_unused
        ∙ both (is_inside old.segments segment (addresses_of (entry_in table) 0));
    sound = λ v b at.
        let s = stays v b at in
        ap (option_map number_of) (ap (option_map birth_of_item) (freed.used_stay b (used_now v b at)).0)
        ∙ is_table.sound v b s.0;
    used = used_now;
    stored = λ v b at.
        let s = stays v b at in
        let same = freed.used_stay b (used_now v b at) in
        same.1 ∙ is_table.stored v b s.0 ∙ sym (ap (option_map payload_page) same.0);
    positive = omega arith;
    within = omega (arith, most, is_table.within, out.size);
    below_lowest = λ v low high.
        let kept : is_inside old.segments segment (addresses_of (entry_in table) v) ≡ false =
        not_gone v low high in
        ap is_some (left v ∙ ap (λ t. cond t None (entry_in table v)) kept)
        ∙ is_table.below_lowest v low (omega (arith, high, most));
  }
    where
      both : (t : Bool) → cond {A = Option DatEntry} t None None ≡ None
      both true = refl
      both false = refl

      contradiction : (o : Option ℕ) (v : ℕ) → IfSome o (λ l. filled' ≤ l - 1) → IsAtMost o v → 1 ≤ v
          → v < filled' + 1 → ⊥
      contradiction None v h a low high = a
      contradiction (Some l) v h a low high = omega (arith, h, a, low, high)

      not_gone : (v : ℕ) → 1 ≤ v → v < filled' + 1
          → is_inside old.segments segment (addresses_of (entry_in table) v) ≡ false
      not_gone v low high =
          elim (cases_Bool (is_inside old.segments segment (addresses_of (entry_in table) v))) [
            | inl e ↦
                absurd
                (contradiction taken.least v least (out.least v (out.gone_are v ∙ in_row v ∙ e)) low high)
            | inr e ↦ e
          ]

  pub is_reclaimed : IsReclaimed segment taken.count (store_of table old before) (store_of new later after)
  is_reclaimed = record {
    numbers = λ v.
        numbered_in-store_of new later after v ∙ ap (numbered_of (births_in later)) (left v)
        ∙ elim (cases_Bool (is_inside old.segments segment (addresses_of (entry_in table) v))) [
          | inl e ↦
              ap (λ t. numbered_of (births_in later) (cond t None (entry_in table v))) e
              ∙ sym (ap (λ t. cond t None (numbered_in (store_of table old before) v))
              (ap (λ (m : Partial ℕ). is_inside old.segments segment (m v))
              (address_in-store_of table old before is_table.sound)
              ∙ e))
          | inr e ↦
              ap (λ t. numbered_of (births_in later) (cond t None (entry_in table v))) e
              ∙ same v e
              ∙ sym (numbered_in-store_of table old before v)
              ∙ sym (ap (λ t. cond t None (numbered_in (store_of table old before) v))
              (ap (λ (m : Partial ℕ). is_inside old.segments segment (m v))
              (address_in-store_of table old before is_table.sound)
              ∙ e))
        ];
    freed = freed-shown table new old later before after total segment freed;
    gone = out.gone;
    each_once = out.each_once;
    gone_are = λ v.
        out.gone_are v ∙ in_row v
        ∙ sym (ap (λ (m : Partial ℕ). is_inside old.segments segment (m v))
        (address_in-store_of table old before is_table.sound));
    count_is = out.counted;
  }
    where
      same : (v : ℕ) → is_inside old.segments segment (addresses_of (entry_in table) v) ≡ false
          → numbered_of (births_in later) (entry_in table v) ≡ numbered_of (births_in old) (entry_in table v)
      same v outside = of_entry (entry_in table v) refl
        where
          of_entry : (o : Option DatEntry) → entry_in table v ≡ o
              → numbered_of (births_in later) o ≡ numbered_of (births_in old) o
          of_entry None is = refl
          of_entry (Some e) is =
              let at : addresses_of (entry_in table) v ≡ Some e.block = ap (option_map block_of) is in
              let free : is_inside old.segments segment (Some e.block) ≡ false =
              sym (ap (is_inside old.segments segment) at) ∙ outside in
              let used : IsUsed later.segments e.block =
              subst (λ (t : Segments). IsUsed t e.block) (sym freed.segments)
              (used-elsewhere old.segments segment e.block tidy (is_table.used v e.block at) free) in
              ap (λ o. option_map (numbered_with e) (option_map birth_of_item o))
              (freed.used_stay e.block used).0

-- What a write does to the table and to what callers see.
use Rattle.std.proofs.Common.{◌≡◌, ℕ, suc, ◌+◌, ◌<◌, ◌≤◌, Bool, true, false, eqb, List, [], ◌∷◌, Some, None, Option, inl, inr, ⊎_elim, sym, refl, ap, subst, ◌∙◌, map, get_or, length, is_some, arith}
use Rattle.std.specs.Prelude.{◌==◌, ◌||◌, max}
use Rattle.std.specs.List.{AllByRecursion}
use Rattle.std.specs.Option.{option_map, option_and_then}
use Rattle.std.proofs.lemmas.Bool.{cases_Bool, cases_lt, eqb-true, eq-eqb, or_cases, both_ways}
use Rattle.std.proofs.lemmas.List.{length-map, get_or_past}
use Rattle.std.proofs.lemmas.List.Folds.{list_any_at}
use Rattle.nl_types.specs.Blocks.Segments.{AreTidy, IsUsed, StaysUsed, total_blocks}
use Rattle.nl_types.specs.Blocks.PartialMaps.{Partial, put, put_each, put_all, adjust, adjust_all, Stands}
use Rattle.nl_types.specs.Blocks.Entries.{Birth, Content, number_of, born_at, ended_at, written}
use Rattle.nl_types.specs.Facts.PartialMaps.{put-other, put-same}
use Rattle.nl_device.specs.Failures.{Failures}
use Rattle.nl_vstore.specs.Content.{Payload, SpaceContent, KeepsUsed, payload_page}
use Rattle.nl_vstore.specs.Appended.{IsAppended}
use Rattle.nl_dat.specs.declared.entries.DatEntry.{DatEntry}
use Rattle.nl_vstore.specs.Batches.{Changes, CanBeTaken, birth_of_item, births_of, items_of, is_born, is_live, last_number}
use Rattle.nl_dat.specs.Table.{entry_in, addresses_of, content_of, meaning_at, new_entry, ended_entry, HaveOwnPayload}
use Rattle.nl_vstore.specs.Stores.{IsWritten, content_in, space_in}
use Rattle.nl_dat.specs.Inside.{births_in, store_of, IsDatTable}
use Rattle.nl_dat.proofs.Contents.{KeepsAt, content_of-KeepsAt, HaveOwnPayload-KeepsAt, content_of-births, addresses_of-births, HaveOwnPayload-births, content_of-ends, addresses_of-ends}
use Rattle.nl_dat.proofs.StoreOf.{content_in-store_of, address_in-store_of}
use Rattle.nl_dat.proofs.FreeNumbers.{in_use}
use Rattle.nl_dat.specs.Facts.BlockCounts.{total-with_logs}
use Rattle.nl_dat.specs.Facts.ShownSpace.{appended-shown}

-- ---- what is put at the numbers of births

-- what holds of each block of before, and of each block that is put
put_each-each : (P : ℕ → Type 0) (births : List Birth) (at : List ℕ) (m : Partial ℕ) → AllByRecursion P at
    → ((v b : ℕ) → m v ≡ Some b → P b) → (v b : ℕ) → put_each number_of (λ b. b) births at m v ≡ Some b → P b
put_each-each P [] at m all before v b is = before v b is
put_each-each P (x ∷ xs) [] m all before v b is = before v b is
put_each-each P (x ∷ xs) (a ∷ as') m all before v b is =
    put_each-each P xs as' (put m (number_of x) a) all.1
    (λ w c at_w. elim (cases_Bool (eqb w (number_of x))) [
      | inl e ↦ let same : Some a ≡ Some c = sym (rw e refl) ∙ at_w in let it : a ≡ c = cc in subst P it all.0
      | inr e ↦ before w c (sym (put-other m (number_of x) w a e) ∙ at_w)
    ]) v b is

-- a number that is given to none keeps what it has
put_each-unborn : {B X : Type 0} (f : B → X) (births : List Birth) (at : List B) (m : Partial X) (v : ℕ)
    → is_born births v ≡ false → put_each number_of f births at m v ≡ m v
put_each-unborn f [] at m v unborn = refl
put_each-unborn f (x ∷ xs) [] m v unborn = refl
put_each-unborn f (x ∷ xs) (a ∷ at) m v unborn =
    let parts = neither (eqb (number_of x) v) (is_born xs v) unborn in
    put_each-unborn f xs at (put m (number_of x) (f a)) v parts.1
    ∙ put-other m (number_of x) v (f a) (other parts.0)
  where
    neither : (a b : Bool) → (a || b) ≡ false → (a ≡ false) × (b ≡ false)
    neither false b h = (refl, h)
    neither true b h = cc

    other : eqb (number_of x) v ≡ false → eqb v (number_of x) ≡ false
    other e = elim (cases_Bool (eqb v (number_of x))) [
      | inl t ↦ absurd (both_ways _ e (eq-eqb (number_of x) v (sym (eqb-true v (number_of x) t))))
      | inr t ↦ t
    ]

-- a number in use stays in use
put_each-in_use : {B X : Type 0} (f : B → X) (births : List Birth) (at : List B) (m : Partial X) (v : ℕ)
    → is_some (m v) ≡ true → is_some (put_each number_of f births at m v) ≡ true
put_each-in_use f [] at m v some = some
put_each-in_use f (x ∷ xs) [] m v some = some
put_each-in_use f (x ∷ xs) (a ∷ at) m v some =
    put_each-in_use f xs at (put m (number_of x) (f a)) v (elim (cases_Bool (eqb v (number_of x))) [
      | inl e ↦ rw e refl
      | inr e ↦ ap is_some (put-other m (number_of x) v (f a) e) ∙ some
    ])

-- a number that is given to a birth is in use
put_each-born : {B X : Type 0} (f : B → X) (births : List Birth) (at : List B) (m : Partial X) (v : ℕ)
    → length births ≡ length at → is_born births v ≡ true
    → is_some (put_each number_of f births at m v) ≡ true
put_each-born f [] at m v len born = cc
put_each-born f (x ∷ xs) [] m v len born = absurd (omega (arith, len))
put_each-born f (x ∷ xs) (a ∷ at) m v len born = elim (or_cases (eqb (number_of x) v) (is_born xs v) born) [
  | inl e ↦
      put_each-in_use f xs at (put m (number_of x) (f a)) v
      (ap (λ n. is_some (put m (number_of x) (f a) n)) (sym (eqb-true (number_of x) v e))
      ∙ ap is_some (put-same m (number_of x) (f a)))
  | inr e ↦ put_each-born f xs at (put m (number_of x) (f a)) v (omega (arith, len)) e
]

is_some-option_map : {X : Type 0} (f : X → X) (o : Option X) → is_some (option_map f o) ≡ is_some o
is_some-option_map f None = refl
is_some-option_map f (Some x) = refl

-- an end takes no number out of use, and brings none in
adjust_all-is_some : {X : Type 0} (f : X → X) (ks : List ℕ) (m : Partial X) (v : ℕ)
    → is_some (adjust_all f ks m v) ≡ is_some (m v)
adjust_all-is_some f [] m v = refl
adjust_all-is_some f (k ∷ ks) m v = adjust_all-is_some f ks (adjust f m k) v ∙ elim (cases_Bool (eqb v k)) [
  | inl e ↦ rw e (is_some-option_map f (m v))
  | inr e ↦ rw e refl
]

none_of : {A : Type 0} (o : Option A) → is_some o ≡ false → o ≡ None
none_of None h = refl
none_of (Some x) h = cc

-- ---- what stands at the blocks of an append

pub items_back : (items : List Payload) → items ≡ items_of (births_of items)
items_back [] = refl
items_back (item ∷ items) = ap (λ (rest : List Payload). item ∷ rest) (items_back items)

pub stand-births : (at : List ℕ) (items : List Payload) (space : SpaceContent) → Stands space.held at items
    → Stands (births_in space) at (births_of items)
stand-births [] [] space stand = tt
stand-births [] (item ∷ items) space stand = absurd stand
stand-births (b ∷ at) [] space stand = absurd stand
stand-births (b ∷ at) (item ∷ items) space stand =
    (ap (option_map birth_of_item) stand.0, stand-births at items space stand.1)

pub stand-stored : (at : List ℕ) (items : List Payload) (space : SpaceContent) → Stands space.held at items
    → Stands space.stored at (map payload_page items)
    → AllByRecursion (λ b. space.stored b ≡ option_map payload_page (space.held b)) at
stand-stored [] [] space held stored = tt
stand-stored [] (item ∷ items) space held stored = absurd held
stand-stored (b ∷ at) [] space held stored = absurd held
stand-stored (b ∷ at) (item ∷ items) space held stored =
    (stored.0 ∙ sym (ap (option_map payload_page) held.0), stand-stored at items space held.1 stored.1)

pub length-Stands : {V : Type 0} (at : List ℕ) (values : List V) (f : ℕ → Option V) → Stands f at values
    → length values ≡ length at
length-Stands [] [] f stand = refl
length-Stands [] (v ∷ values) f stand = absurd stand
length-Stands (b ∷ at) [] f stand = absurd stand
length-Stands (b ∷ at) (v ∷ values) f stand = ap suc (length-Stands at values f stand.1)

-- ---- a table over a space that keeps what is used

pub keeps_at : (table : List (Option DatEntry)) (lowest : ℕ) (old later : SpaceContent)
    → IsDatTable table lowest old → KeepsUsed old.segments old later
    → KeepsAt (addresses_of (entry_in table)) (births_in old) (births_in later)
keeps_at table lowest old later is_table kept v b is =
    ap (option_map birth_of_item) (kept b (is_table.used v b is)).0

pub table-kept : (table : List (Option DatEntry)) (lowest : ℕ) (old later : SpaceContent)
    → IsDatTable table lowest old → KeepsUsed old.segments old later → StaysUsed old.segments later.segments
    → total_blocks later.segments ≡ total_blocks old.segments → IsDatTable table lowest later
table-kept table lowest old later is_table kept stays total = record {
  full = is_table.full ∙ ap (λ n. n + 1) (sym total);
  zero_unused = is_table.zero_unused;
  sound =
      HaveOwnPayload-KeepsAt (addresses_of (entry_in table)) (births_in old) (births_in later) is_table.sound
      (keeps_at table lowest old later is_table kept);
  used = λ v b is. stays b (is_table.used v b is);
  stored = λ v b is.
      let same = kept b (is_table.used v b is) in
      same.1 ∙ is_table.stored v b is ∙ sym (ap (option_map payload_page) same.0);
  positive = is_table.positive;
  within = is_table.within;
  below_lowest = is_table.below_lowest;
}

-- ---- a batch that is written

module _ (table new : List (Option DatEntry)) (lowest : ℕ) (old later : SpaceContent)
    (before after : Failures) (c now : ℕ) (changes : Changes) (items : List Payload) (at : List ℕ)
    (is_table : IsDatTable table lowest old)
    (fits : CanBeTaken (total_blocks old.segments) (content_in (store_of table old before)) changes)
    (items_are : births_of items ≡ changes.births) (appended : IsAppended old later true now c items at)
    (kept : KeepsUsed old.segments old later) (stays : StaysUsed old.segments later.segments)
    (is_new : entry_in new
    ≡ put_each number_of (new_entry c) changes.births at
    (adjust_all (ended_entry c) changes.ends (entry_in table)))
    (size : length new ≡ length table) (low : last_number changes.births ≤ total_blocks old.segments) where
  abbrev ended : Partial DatEntry
  ended = adjust_all (ended_entry c) changes.ends (entry_in table)

  keeps : KeepsAt (addresses_of (entry_in table)) (births_in old) (births_in later)
  keeps = keeps_at table lowest old later is_table kept

  stands : Stands (births_in later) at changes.births
  stands = subst (Stands (births_in later) at) items_are (stand-births at items later appended.held)

  count : length changes.births ≡ length at
  count =
      ap length (sym items_are) ∙ length-map items birth_of_item
      ∙ length-Stands at items later.held appended.held

  content_of-written : content_of (entry_in new) (births_in later)
      ≡ written changes.births changes.ends c (content_of (entry_in table) (births_in old))
  content_of-written =
      ap (λ m. content_of m (births_in later)) is_new
      ∙ content_of-births c changes.births at ended (births_in later) stands
      ∙ ap (put_all number_of (born_at c) changes.births)
      (content_of-ends c changes.ends (entry_in table) (births_in later)
      ∙ ap (adjust_all (ended_at c) changes.ends)
      (content_of-KeepsAt (entry_in table) (births_in old) (births_in later) keeps))

  addresses_of-written : addresses_of (entry_in new)
      ≡ put_each number_of (λ b. b) changes.births at (addresses_of (entry_in table))
  addresses_of-written =
      ap addresses_of is_new ∙ addresses_of-births c changes.births at ended
      ∙ ap (put_each number_of (λ b. b) changes.births at) (addresses_of-ends c changes.ends (entry_in table))

  total : total_blocks later.segments ≡ total_blocks old.segments
  total = ap total_blocks appended.segments ∙ total-with_logs old.segments appended.logs now

  sound_now : HaveOwnPayload (addresses_of (entry_in new)) (births_in later)
  sound_now = subst (λ m. HaveOwnPayload m (births_in later)) (sym addresses_of-written)
      (HaveOwnPayload-births changes.births at (addresses_of (entry_in table)) (births_in later) stands
      (HaveOwnPayload-KeepsAt (addresses_of (entry_in table)) (births_in old)
      (births_in later) is_table.sound keeps))

  -- what holds of the blocks of before and of the append holds of all
  each_block : (P : ℕ → Type 0) → AllByRecursion P at
      → ((v b : ℕ) → addresses_of (entry_in table) v ≡ Some b → P b) → (v b : ℕ)
      → addresses_of (entry_in new) v ≡ Some b → P b
  each_block P all each v b is =
      put_each-each P changes.births at (addresses_of (entry_in table)) all each v b
      (sym (ap (λ (m : Partial ℕ). m v) addresses_of-written) ∙ is)

  in_use_now : (v : ℕ) → 1 ≤ v → v < max lowest (last_number changes.births + 1)
      → is_some (entry_in new v) ≡ true
  in_use_now v low high = ap (λ (m : Partial DatEntry). is_some (m v)) is_new ∙ ⊎_elim
      (λ (below : v < lowest).
      put_each-in_use (new_entry c) changes.births at ended v
      (adjust_all-is_some (ended_entry c) changes.ends (entry_in table) v
      ∙ is_table.below_lowest v low below))
      (λ (above : lowest ≤ v).
      elim (or_cases (is_some (content_in (store_of table old before) v)) (is_born changes.births v)
      (fits.taken v low (omega (arith, above, high)))) [
        | inl used ↦
            put_each-in_use (new_entry c) changes.births at ended v
            (adjust_all-is_some (ended_entry c) changes.ends (entry_in table) v
            ∙ sym (in_use table lowest old before changes is_table fits v) ∙ used)
        | inr born ↦ put_each-born (new_entry c) changes.births at ended v count born
      ])
      (cases_lt v lowest)

  zero_now : entry_in new 0 ≡ None
  zero_now =
      let unborn : is_born changes.births 0 ≡ false = elim (cases_Bool (is_born changes.births 0)) [
        | inl born ↦ absurd (omega (arith, fits.from_one 0 born))
        | inr e ↦ e
      ] in
      ap (λ (m : Partial DatEntry). m 0) is_new
      ∙ put_each-unborn (new_entry c) changes.births at ended 0 unborn
      ∙ none_of (ended 0)
      (adjust_all-is_some (ended_entry c) changes.ends (entry_in table) 0 ∙ ap is_some is_table.zero_unused)

  pub table-written : IsDatTable new (max lowest (last_number changes.births + 1)) later
  table-written = record {
    full = size ∙ is_table.full ∙ ap (λ n. n + 1) (sym total);
    zero_unused = zero_now;
    sound = sound_now;
    used = each_block (IsUsed later.segments) appended.used_now (λ v b is. stays b (is_table.used v b is));
    stored =
        each_block (λ b. later.stored b ≡ option_map payload_page (later.held b))
        (stand-stored at items later appended.held appended.stored)
        (λ v b is.
        let same = kept b (is_table.used v b is) in
        same.1 ∙ is_table.stored v b is ∙ sym (ap (option_map payload_page) same.0));
    positive = omega (arith, is_table.positive);
    within = omega (arith, is_table.within, low, size, is_table.full);
    below_lowest = in_use_now;
  }

  pub is_written : AreTidy old.segments → after ≡ before
      → IsWritten c now changes (store_of table old before) (store_of new later after)
  is_written tidy unfailed = record {
    content =
        content_in-store_of new later after ∙ content_of-written
        ∙ ap (written changes.births changes.ends c) (sym (content_in-store_of table old before));
    at = at;
    appended =
        subst (λ (payload : List Payload).
        IsAppended (space_in (store_of table old before))
        (space_in (store_of new later after)) true now c payload at)
        (items_back items ∙ ap items_of items_are)
        (appended-shown table new old later before after true now c items tidy at appended);
    address =
        address_in-store_of new later after sound_now ∙ addresses_of-written
        ∙ ap (put_each number_of (λ b. b) changes.births at)
        (sym (address_in-store_of table old before is_table.sound));
    unfailed = unfailed;
  }

-- ---- what a write asks of its batch

-- a live number is in the table
pub live_inside : (table : List (Option DatEntry)) (space : SpaceContent) (failures : Failures) (v : ℕ)
    → is_live (content_in (store_of table space failures) v) ≡ true → v < length table
live_inside table space failures v live = elim (cases_lt v (length table)) [
  | inl h ↦ h
  | inr h ↦
      let past : entry_in table v ≡ None = get_or_past table v None h in
      absurd (both_ways _
      (ap (λ (f : Content). is_live (f v)) (content_in-store_of table space failures)
      ∙ ap (λ o. is_live (option_and_then (meaning_at (births_in space)) o)) past)
      live)
]

pub is_born_read : (births : List Birth) (i : ℕ) (d : Birth) → i < length births
    → is_born births (number_of (get_or births i d)) ≡ true
is_born_read births i d within =
    list_any_at (λ p. number_of p == number_of (get_or births i d)) births i d within (eq-eqb _ _ refl)

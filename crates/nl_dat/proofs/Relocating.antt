-- What a relocation does to the table and to what callers see.
use Rattle.std.proofs.Common.{◌≡◌, ℕ, ◌+◌, Bool, true, false, eqb, List, [], ◌∷◌, Some, None, Option, inl, inr, sym, refl, ap, subst, ◌∙◌, map, get_or, length, is_some, arith}
use Rattle.std.specs.List.{All, AllByRecursion, range_with_len}
use Rattle.std.specs.Option.{option_map, option_and_then}
use Rattle.std.proofs.lemmas.Bool.{cases_Bool}
use Rattle.std.proofs.lemmas.List.{length-map}
use Rattle.nl_types.specs.declared.error.VolError.{VolError}
use Rattle.nl_types.specs.declared.error.VolError.TheVariants.{NoSpace, Fault, Memory}
use Rattle.nl_types.specs.Blocks.Segments.{AreTidy, IsUsed, StaysUsed, total_blocks, IsClosed}
use Rattle.nl_types.specs.Blocks.Placing.{LacksSpace}
use Rattle.nl_types.specs.Blocks.Entries.{Birth, Content}
use Rattle.nl_types.specs.Blocks.PartialMaps.{Partial, adjust, adjust_each, Stands}
use Rattle.nl_types.specs.Facts.PartialMaps.{is_one_of-get_or}
use Rattle.nl_device.specs.Failures.{Failures, CountsReads, FailsToRead, FailsToWrite}
use Rattle.nl_vstore.specs.Content.{Payload, SpaceContent, KeepsUsed, payload_page}
use Rattle.nl_vstore.specs.Appended.{IsAppended, IsAppendError, IsLoadError, IsBrokenOff}
use Rattle.nl_dat.specs.declared.entries.DatEntry.{DatEntry}
use Rattle.nl_vstore.specs.Batches.{birth_of_item, births_of, item_of_birth, items_of, tag_for}
use Rattle.nl_dat.specs.Table.{entry_in, addresses_of, block_of, content_of, meaning_at, meaning_of, moved_entry, stored_at, HaveOwnPayload}
use Rattle.nl_vstore.specs.Stores.{IsMoved, IsMoveRefused, IsPayloadOf, KeepsStored, is_inside, moved_to, address_in, payload_for, payload_under}
use Rattle.nl_dat.specs.Inside.{births_in, numbered_of, store_of, IsDatTable}
use Rattle.nl_dat.proofs.Contents.{KeepsAt, content_of-KeepsAt, HaveOwnPayload-KeepsAt, content_of-moves, addresses_of-moves, HaveOwnPayload-moves}
use Rattle.nl_dat.proofs.StoreOf.{content_in-store_of, address_in-store_of}
use Rattle.nl_vstore.specs.Facts.ClosedSegments.{fits-outside}
use Rattle.nl_vstore.specs.Facts.MovedBlocks.{moved-in, is_some-inside}
use Rattle.nl_dat.proofs.SoundTable.{stored_for}
use Rattle.nl_dat.specs.Facts.ShownSpace.{appended-shown}
use Rattle.nl_dat.specs.Facts.BlockCounts.{total-with_logs}
use Rattle.nl_dat.proofs.Writing.{items_back, stand-births, stand-stored, length-Stands, keeps_at}
use Rattle.nl_dat.proofs.Refusals.{is_faulted}

-- ---- numbers that are moved

-- the payload of numbers, where each was read
payloads : (f : ℕ → Option Payload) (g : ℕ → Option Birth) → ((v : ℕ) → f v ≡ option_map item_of_birth (g v))
    → (numbers : List ℕ) (births : List Birth) → map g numbers ≡ map Some births
    → map f numbers ≡ map Some (items_of births)
payloads f g same [] [] e = refl
payloads f g same [] (b ∷ births) e = cc
payloads f g same (v ∷ numbers) [] e = cc
payloads f g same (v ∷ numbers) (b ∷ births) e =
    let first : g v ≡ Some b = cc in
    let rest : map g numbers ≡ map Some births = cc in
    let here : f v ≡ Some (item_of_birth b) = same v ∙ ap (option_map item_of_birth) first in
    ap (λ (o : Option Payload). o ∷ map f numbers) here
    ∙ ap (λ (os : List (Option Payload)). Some (item_of_birth b) ∷ os) (payloads f g same numbers births rest)

-- what holds of each block of before, and of each new one
adjust_each-each : (P : ℕ → Type 0) (ks bs : List ℕ) (m : Partial ℕ) → AllByRecursion P bs
    → ((v b : ℕ) → m v ≡ Some b → P b) → (v b : ℕ) → adjust_each moved_to ks bs m v ≡ Some b → P b
adjust_each-each P [] bs m all before v b is = before v b is
adjust_each-each P (k ∷ ks) [] m all before v b is = before v b is
adjust_each-each P (k ∷ ks) (a ∷ bs) m all before v b is =
    adjust_each-each P ks bs (adjust (moved_to a) m k) all.1 (λ w c at_w. elim (cases_Bool (eqb w k)) [
      | inl e ↦ moved (m w) c (sym (rw e refl) ∙ at_w)
      | inr e ↦ before w c (sym (rw e refl) ∙ at_w)
    ]) v b is
  where
    moved : (o : Option ℕ) (c : ℕ) → option_map (moved_to a) o ≡ Some c → P c
    moved None c h = cc
    moved (Some x) c h = let same : a ≡ c = cc in subst P same all.0

adjust_each-is_some : {A X : Type 0} (f : A → X → X) (ks : List ℕ) (xs : List A) (m : Partial X) (v : ℕ)
    → is_some (adjust_each f ks xs m v) ≡ is_some (m v)
adjust_each-is_some f [] xs m v = refl
adjust_each-is_some f (k ∷ ks) [] m v = refl
adjust_each-is_some f (k ∷ ks) (x ∷ xs) m v =
    adjust_each-is_some f ks xs (adjust (f x) m k) v ∙ elim (cases_Bool (eqb v k)) [
      | inl e ↦ rw e (same (m v))
      | inr e ↦ rw e refl
    ]
  where
    same : (o : Option _) → is_some (option_map (f x) o) ≡ is_some o
    same None = refl
    same (Some y) = refl

none_of : {A : Type 0} (o : Option A) → is_some o ≡ false → o ≡ None
none_of None h = refl
none_of (Some x) h = cc

-- what was read is what the numbers stand for
pub theirs-of : (table : List (Option DatEntry)) (lowest : ℕ) (space : SpaceContent) (failures : Failures)
    (numbers : List ℕ) (items : List Payload)
    → IsDatTable table lowest space
    → map (stored_at (entry_in table) (births_in space)) numbers ≡ map Some (births_of items)
    → IsPayloadOf (store_of table space failures) numbers items
theirs-of table lowest space failures numbers items is_table loaded =
    payloads (payload_under (store_of table space failures))
    (stored_at (entry_in table) (births_in space)) under numbers (births_of items) loaded
    ∙ ap (map Some) (sym (items_back items))
  where
    of_entry : (v : ℕ) (o : Option DatEntry) → entry_in table v ≡ o
        → option_map (payload_for v) (option_and_then (meaning_at (births_in space)) o)
        ≡ option_map item_of_birth (option_and_then (λ (s : DatEntry). births_in space s.block) o)
    of_entry v None is = refl
    of_entry v (Some e) is =
        let p = stored_for (entry_in table) (births_in space) v e is_table.sound is in
        ap (λ (o : Option Birth). option_map (payload_for v) (option_map (meaning_of e) o)) p.1
        ∙ ap (λ (n : ℕ). Some (tag_for n p.0.place, p.0.page)) (sym p.2)
        ∙ sym (ap (option_map item_of_birth) p.1)

    under : (v : ℕ)
        → payload_under (store_of table space failures) v
        ≡ option_map item_of_birth (stored_at (entry_in table) (births_in space) v)
    under v =
        ap (λ (m : Content). option_map (payload_for v) (m v)) (content_in-store_of table space failures)
        ∙ of_entry v (entry_in table v) refl

module _ (table new : List (Option DatEntry)) (lowest : ℕ) (old later : SpaceContent)
    (before after : Failures) (c now segment : ℕ) (numbers at : List ℕ) (items : List Payload)
    (is_table : IsDatTable table lowest old)
    (loaded : map (stored_at (entry_in table) (births_in old)) numbers ≡ map Some (births_of items))
    (appended : IsAppended old later false now c items at) (kept : KeepsUsed old.segments old later)
    (stays : StaysUsed old.segments later.segments)
    (is_new : entry_in new ≡ adjust_each moved_entry numbers at (entry_in table))
    (size : length new ≡ length table) where
  keeps : KeepsAt (addresses_of (entry_in table)) (births_in old) (births_in later)
  keeps = keeps_at table lowest old later is_table kept

  stands : Stands (births_in later) at (births_of items)
  stands = stand-births at items later appended.held

  pub moved-count : length numbers ≡ length items
  moved-count =
      sym (length-map numbers (stored_at (entry_in table) (births_in old))) ∙ ap length loaded
      ∙ length-map (births_of items) Some ∙ length-map items birth_of_item

  at-count : length numbers ≡ length at
  at-count = moved-count ∙ length-Stands at items later.held appended.held

  -- what was read stands at the old blocks still
  stored-still : (v : ℕ)
      → stored_at (entry_in table) (births_in later) v ≡ stored_at (entry_in table) (births_in old) v
  stored-still v = of_entry (entry_in table v) refl
    where
      of_entry : (o : Option DatEntry) → entry_in table v ≡ o
          → Rattle.std.specs.Option.option_and_then (λ (s : DatEntry). births_in later s.block) o
          ≡ Rattle.std.specs.Option.option_and_then (λ (s : DatEntry). births_in old s.block) o
      of_entry None is = refl
      of_entry (Some e) is = keeps v e.block (ap (option_map block_of) is)

  map-still : (ks : List ℕ)
      → map (stored_at (entry_in table) (births_in later)) ks
      ≡ map (stored_at (entry_in table) (births_in old)) ks
  map-still [] = refl
  map-still (k ∷ ks) =
      ap (λ o. o ∷ map (stored_at (entry_in table) (births_in later)) ks) (stored-still k)
      ∙ ap (λ os. stored_at (entry_in table) (births_in old) k ∷ os) (map-still ks)

  loaded-later : map Some (births_of items) ≡ map (stored_at (entry_in table) (births_in later)) numbers
  loaded-later = sym loaded ∙ sym (map-still numbers)

  sound-later : HaveOwnPayload (addresses_of (entry_in table)) (births_in later)
  sound-later =
      HaveOwnPayload-KeepsAt (addresses_of (entry_in table)) (births_in old)
      (births_in later) is_table.sound keeps

  sound-now : HaveOwnPayload (addresses_of (entry_in new)) (births_in later)
  sound-now =
      subst (λ m. HaveOwnPayload (addresses_of m) (births_in later)) (sym is_new)
      (HaveOwnPayload-moves numbers at (births_of items) (entry_in table)
      (births_in later) stands loaded-later sound-later)

  addresses-moved : addresses_of (entry_in new)
      ≡ adjust_each moved_to numbers at (addresses_of (entry_in table))
  addresses-moved = ap addresses_of is_new ∙ addresses_of-moves numbers at (entry_in table)

  total : total_blocks later.segments ≡ total_blocks old.segments
  total = ap total_blocks appended.segments ∙ total-with_logs old.segments appended.logs now

  each_block : (P : ℕ → Type 0) → AllByRecursion P at
      → ((v b : ℕ) → addresses_of (entry_in table) v ≡ Some b → P b) → (v b : ℕ)
      → addresses_of (entry_in new) v ≡ Some b → P b
  each_block P all each v b is =
      adjust_each-each P numbers at (addresses_of (entry_in table)) all each v b
      (sym (ap (λ (m : Partial ℕ). m v) addresses-moved) ∙ is)

  in_use-now : (v : ℕ) → is_some (entry_in new v) ≡ is_some (entry_in table v)
  in_use-now v =
      ap (λ (m : Partial DatEntry). is_some (m v)) is_new
      ∙ adjust_each-is_some moved_entry numbers at (entry_in table) v

  pub table-moved : IsDatTable new lowest later
  table-moved = record {
    full = size ∙ is_table.full ∙ ap (λ n. n + 1) (sym total);
    zero_unused = none_of (entry_in new 0) (in_use-now 0 ∙ ap is_some is_table.zero_unused);
    sound = sound-now;
    used = each_block (IsUsed later.segments) appended.used_now (λ v b is. stays b (is_table.used v b is));
    stored =
        each_block (λ b. later.stored b ≡ option_map payload_page (later.held b))
        (stand-stored at items later appended.held appended.stored)
        (λ v b is.
        let same = kept b (is_table.used v b is) in
        same.1 ∙ is_table.stored v b is ∙ sym (ap (option_map payload_page) same.0));
    positive = is_table.positive;
    within = omega (arith, is_table.within, size);
    below_lowest = λ v low high. in_use-now v ∙ is_table.below_lowest v low high;
  }

  pub is_moved : AreTidy old.segments → IsClosed old.segments segment
      → All (λ v. is_inside old.segments segment (address_in (store_of table old before) v) ≡ true) numbers
      → after.writes ≡ before.writes
      → IsMoved segment c now numbers (store_of table old before) (store_of new later after)
  is_moved tidy closed inside writes = record {
    content =
        content_in-store_of new later after ∙ ap (λ m. content_of m (births_in later)) is_new
        ∙ content_of-moves numbers at (births_of items) (entry_in table) (births_in later) stands loaded-later
        ∙ content_of-KeepsAt (entry_in table) (births_in old) (births_in later) keeps
        ∙ sym (content_in-store_of table old before);
    payload = items;
    theirs = theirs-of table lowest old before numbers items is_table loaded;
    at = at;
    appended = appended-shown table new old later before after false now c items tidy at appended;
    address =
        address_in-store_of new later after sound-now ∙ addresses-moved
        ∙ ap (adjust_each moved_to numbers at) (sym (address_in-store_of table old before is_table.sound));
    out = λ k d within.
        let v = get_or numbers k d in
        let was : is_some (addresses_of (entry_in table) v) ≡ true =
        is_some-inside old.segments segment (addresses_of (entry_in table) v)
        (sym (ap (λ (m : Partial ℕ). is_inside old.segments segment (m v))
        (address_in-store_of table old before is_table.sound))
        ∙ inside k d within) in
        let there =
        moved-in (λ b. is_inside old.segments segment (Some b) ≡ false) numbers at
        (addresses_of (entry_in table)) v at-count outside (is_one_of-get_or numbers k d within) was in
        ap (λ (m : Partial ℕ). is_inside old.segments segment (m v))
        (address_in-store_of new later after sound-now ∙ addresses-moved)
        ∙ ap (is_inside old.segments segment) there.1 ∙ there.2;
    writes = writes;
  }
    where
      outside : AllByRecursion (λ b. is_inside old.segments segment (Some b) ≡ false) at
      outside =
          subst (AllByRecursion (λ b. is_inside old.segments segment (Some b) ≡ false)) (sym appended.at)
          (fits-outside old.segments false (length items) segment appended.logs tidy closed appended.fits)

-- ---- a refusal

keeps-stored : (table : List (Option DatEntry)) (old later : SpaceContent) (before after : Failures)
    → later ≡ old → after.writes ≡ before.writes
    → KeepsStored (store_of table old before) (store_of table later after)
keeps-stored table old later before after same writes = record {
  numbers = ap (λ (s : SpaceContent). map (numbered_of (births_in s)) table) same;
  segments = ap (λ (s : SpaceContent). s.segments) same;
  device = ap (λ (s : SpaceContent). map s.stored (range_with_len 0 (total_blocks s.segments))) same;
  payload = ap (λ (s : SpaceContent). map s.held (range_with_len 0 (total_blocks s.segments))) same;
  writes = writes;
}

-- what an append says where it is refused
pub record IsRelocationRefusal (reserve : Bool) (stamp checkpoint : ℕ) (payload : List Payload) (e : VolError)
    (old later : SpaceContent) (before after : Failures) : Type 0 where
  pub why : IsAppendError e
  pub no_space : e ≡ NoSpace → (later ≡ old) × (after ≡ before)
  pub lacks : e ≡ NoSpace → LacksSpace old.segments reserve (length payload)
  pub memory : e ≡ Memory → (later ≡ old) × (after ≡ before)
  pub risen : e ≡ Fault → FailsToWrite before after
  pub broken : e ≡ Fault → IsBrokenOff old later reserve stamp checkpoint payload

pub move-refused : (table : List (Option DatEntry)) (lowest : ℕ) (old later : SpaceContent)
    (before between after : Failures) (checkpoint stamp : ℕ) (numbers : List ℕ) (payload : List Payload)
    (e : VolError)
    → AreTidy old.segments → IsDatTable table lowest old
    → IsPayloadOf (store_of table old before) numbers payload → KeepsUsed old.segments old later
    → CountsReads before between
    → IsRelocationRefusal false stamp checkpoint payload e old later between after
    → IsMoveRefused checkpoint stamp numbers (store_of table old before) (store_of table later after) e
move-refused table lowest old later before between after checkpoint stamp numbers payload e tidy is_table
    theirs kept more refused =
    elim refused.why [
      | inl is ↦
          subst
          (IsMoveRefused checkpoint stamp numbers (store_of table old before) (store_of table later after))
          (sym is) (
            subst (LacksSpace old.segments false) count (refused.lacks is),
            keeps-stored table old later before after (refused.no_space is).0
                (unwritten (refused.no_space is).1),
          )
      | inr or ↦ elim or [
        | inl is ↦
            subst (IsMoveRefused checkpoint stamp numbers (store_of table old before)
            (store_of table later after))
            (sym is)
            (inr (
              payload,
              theirs,
              is_faulted table lowest old later before after false stamp checkpoint payload tidy is_table kept
                  (let fails = refused.risen is in omega (arith, more.0, more.1, fails.0, fails.1))
                  (let fails = refused.risen is in omega (arith, more.1, fails.1)) (refused.broken is),
            ))
        | inr is ↦
            subst (IsMoveRefused checkpoint stamp numbers (store_of table old before)
            (store_of table later after))
            (sym is)
            (keeps-stored table old later before after (refused.memory is).0
            (unwritten (refused.memory is).1))
      ]
    ]
  where
    count : length payload ≡ length numbers
    count =
        sym (length-map payload Some) ∙ sym (ap length theirs)
        ∙ length-map numbers (payload_under (store_of table old before))

    unwritten : after ≡ between → after.writes ≡ before.writes
    unwritten same = ap (λ (failures : Failures). failures.writes) same ∙ more.1

-- a page was not read
pub load-refused : (table : List (Option DatEntry)) (old later : SpaceContent) (before after : Failures)
    (checkpoint stamp : ℕ) (numbers : List ℕ) (e : VolError)
    → later ≡ old → IsLoadError e → CountsReads before after → (e ≡ Fault → FailsToRead before after)
    → IsMoveRefused checkpoint stamp numbers (store_of table old before) (store_of table later after) e
load-refused table old later before after checkpoint stamp numbers e same why counted risen = elim why [
  | inl is ↦
      subst (IsMoveRefused checkpoint stamp numbers (store_of table old before) (store_of table later after))
      (sym is) (inl (record {
        failures = let fails = risen is in omega (arith, fails.0, fails.1);
        reads = (risen is).0;
        stored_stays = keeps-stored table old later before after same counted.1;
      }))
  | inr is ↦
      subst (IsMoveRefused checkpoint stamp numbers (store_of table old before) (store_of table later after))
      (sym is) (keeps-stored table old later before after same counted.1)
]

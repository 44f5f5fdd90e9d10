-- What callers see of a table over a space.
use Rattle.std.proofs.Common.{◌≡◌, ℕ, zero, suc, ◌∷◌, replicate, ◌+◌, ◌<◌, ◌≤◌, inl, inr, subst, List, Some, None, Option, sym, refl, ap, ◌∙◌, map, get_or, length, arith}
use Rattle.std.specs.List.{range_with_len}
use Rattle.std.specs.Option.{option_map, option_and_then}
use Rattle.std.proofs.Math.ListN.{get_or-map}
use Rattle.std.proofs.lemmas.List.{get_or_past, length-map, length-replicate}
use Rattle.std.proofs.lemmas.Bool.{cases_lt}
use Rattle.nl_types.specs.Blocks.Segments.{HaveLogs, total_blocks}
use Rattle.nl_types.specs.Blocks.PartialMaps.{Partial}
use Rattle.nl_types.specs.Blocks.Entries.{Birth, Entry, number_of, period_of}
use Rattle.nl_types.specs.Blocks.Roots.{pages_of}
use Rattle.nl_types.specs.Facts.PartialMaps.{same_at_all}
use Rattle.nl_sufile.specs.Table.{IsSegTable}
use Rattle.nl_vstore.specs.Content.{Payload, SpaceContent, HoldsOnlyUsed, payload_page}
use Rattle.nl_vstore.specs.Logs.{AreWholeLogs}
use Rattle.nl_dat.specs.declared.entries.DatEntry.{DatEntry}
use Rattle.nl_vstore.specs.Batches.{birth_of_item, tag_place, tag_for}
use Rattle.nl_dat.specs.Table.{entry_in, addresses_of, block_of, content_of, meaning_of, meaning_at, period_of_entry, HaveOwnPayload, dat_entry_of}
use Rattle.nl_vstore.specs.Stores.{Numbered, new_store, numbered_in, content_in, address_in, entry_now, block_now, payload_for, IsStore, SoundStore}
use Rattle.nl_dat.specs.Inside.{births_in, numbered_with, numbered_of, store_of, IsDatTable}
use Rattle.nl_types.specs.Facts.UsedParts.{used_inside}
use Rattle.nl_device.specs.Failures.{Failures, failure_count}
use Rattle.nl_dat.proofs.SoundTable.{stored_for, HaveOwnPayload-apart}
use Rattle.nl_dat.specs.Facts.ShownSpace.{shown, whole-shown, only-shown}

-- the same value has the same store
pub same_store : {a b : SoundStore} → a ≡ b → a.store ≡ b.store
same_store is i = (is i).store

module _ (table : List (Option DatEntry)) (space : SpaceContent) (failures : Failures) where
  pub numbered_in-store_of : (v : ℕ)
      → numbered_in (store_of table space failures) v ≡ numbered_of (births_in space) (entry_in table v)
  numbered_in-store_of v = get_or-map (numbered_of (births_in space)) table v None

  -- what a number stands for
  pub content_in-store_of : content_in (store_of table space failures)
      ≡ content_of (entry_in table) (births_in space)
  content_in-store_of =
      same_at_all _ _ (λ v. ap (option_map entry_now) (numbered_in-store_of v) ∙ of_entry (entry_in table v))
    where
      of_birth : (e : DatEntry) (o : Option Birth)
          → option_map entry_now (option_map (numbered_with e) o) ≡ option_map (meaning_of e) o
      of_birth e None = refl
      of_birth e (Some p) = refl

      of_entry : (o : Option DatEntry)
          → option_map entry_now (numbered_of (births_in space) o)
          ≡ option_and_then (meaning_at (births_in space)) o
      of_entry None = refl
      of_entry (Some e) = of_birth e (births_in space e.block)

  -- what is stored for an entry is its own
  stored_of : HaveOwnPayload (addresses_of (entry_in table)) (births_in space) → (v : ℕ) (e : DatEntry)
      → entry_in table v ≡ Some e → (p : Birth) × (births_in space e.block ≡ Some p) × (number_of p ≡ v)
  stored_of sound v e is = stored_for (entry_in table) (births_in space) v e sound is

  -- an entry is seen as it is
  pub entry-store_of : HaveOwnPayload (addresses_of (entry_in table)) (births_in space) → (v : ℕ)
      → entry_in table v ≡ option_map dat_entry_of (numbered_in (store_of table space failures) v)
  entry-store_of sound v =
      elim (entry_in table v) as (λ o.
      entry_in table v ≡ o → o ≡ option_map dat_entry_of (numbered_of (births_in space) o)) [
        | None ↦ λ is. refl
        | Some e ↦
            λ is.
            let p = stored_of sound v e is in
            sym (ap (λ o. option_map dat_entry_of (option_map (numbered_with e) o)) p.1)
      ] refl
      ∙ sym (ap (option_map dat_entry_of) (numbered_in-store_of v))

  -- and its block
  pub address_in-store_of : HaveOwnPayload (addresses_of (entry_in table)) (births_in space)
      → address_in (store_of table space failures) ≡ addresses_of (entry_in table)
  address_in-store_of sound = same_at_all _ _ (λ v.
      ap (option_map block_now) (numbered_in-store_of v)
      ∙ elim (entry_in table v) as (λ o.
      entry_in table v ≡ o
      → option_map block_now (numbered_of (births_in space) o) ≡ option_map block_of o) [
        | None ↦ λ is. refl
        | Some e ↦
            λ is.
            let p = stored_of sound v e is in
            ap (λ o. option_map block_now (option_map (numbered_with e) o)) p.1
      ] refl)

  -- and its period
  pub period-store_of : HaveOwnPayload (addresses_of (entry_in table)) (births_in space)
      → (v : ℕ) (e : DatEntry) → entry_in table v ≡ Some e
      → Some (period_of_entry e) ≡ option_map period_of (content_in (store_of table space failures) v)
  period-store_of sound v e is =
      let p = stored_of sound v e is in
      sym (ap (λ f. option_map period_of (f v)) content_in-store_of
      ∙ ap (λ o. option_map period_of (option_and_then (meaning_at (births_in space)) o)) is
      ∙ ap (λ o. option_map period_of (option_map (meaning_of e) o)) p.1)

  -- and its page
  pub page-store_of : (v : ℕ) (e : DatEntry) → entry_in table v ≡ Some e
      → option_map payload_page (space.held e.block) ≡ pages_of (content_in (store_of table space failures)) v
  page-store_of v e is =
      sym (ap (λ f. pages_of f v) content_in-store_of
      ∙ (ap (λ o. option_map page_of (option_and_then (meaning_at (births_in space)) o)) is
      ∙ of_held (space.held e.block)))
    where
      page_of : Entry → List ℕ
      page_of entry = entry.page

      of_held : (o : Option Payload)
          → option_map page_of (option_map (meaning_of e) (option_map birth_of_item o))
          ≡ option_map payload_page o
      of_held None = refl
      of_held (Some p) = refl

-- ---- what is true of every store

module _ (table : List (Option DatEntry)) (lowest : ℕ) (space : SpaceContent) (failures : Failures)
    (is_table : IsDatTable table lowest space) (limits : IsSegTable space.segments) where
  address_now : (v b : ℕ) → address_in (store_of table space failures) v ≡ Some b
      → addresses_of (entry_in table) v ≡ Some b
  address_now v b at =
      sym (ap (λ (m : Partial ℕ). m v) (address_in-store_of table space failures is_table.sound)) ∙ at

  -- a number in use is one that there is
  numbers : (v b : ℕ) → addresses_of (entry_in table) v ≡ Some b → (1 ≤ v) × (v ≤ total_blocks space.segments)
  numbers v b at = (
    (elim (cases_lt 0 v) [
      | inl h ↦ omega (arith, h)
      | inr h ↦
          let zero : v ≡ 0 = omega (arith, h) in
          let none : addresses_of (entry_in table) v ≡ None =
          ap (addresses_of (entry_in table)) zero ∙ ap (option_map block_of) is_table.zero_unused in
          absurd (none_some (sym none ∙ at))
    ]),
    (elim (cases_lt v (length table)) [
      | inl h ↦ omega (arith, h, is_table.full)
      | inr h ↦ absurd (none_some (sym (ap (option_map block_of) (get_or_past table v None h)) ∙ at))
    ]),
  )
    where
      none_some : {b : ℕ} → None ≡ Some b → ⊥
      none_some h = cc

  -- the payload at the block of a number in use is its own
  own : (v : ℕ) (n : Numbered) → numbered_in (store_of table space failures) v ≡ Some n
      → (n.block < total_blocks space.segments) × (space.held n.block ≡ Some (payload_for v n.entry))
      × (space.stored n.block ≡ Some n.entry.page)
  own v n is = of_entry (entry_in table v) refl (sym (numbered_in-store_of table space failures v) ∙ is)
    where
      Own : Numbered → Type 0
      Own m =
          (m.block < total_blocks space.segments) × (space.held m.block ≡ Some (payload_for v m.entry))
          × (space.stored m.block ≡ Some m.entry.page)

      of_payload : (e : DatEntry) (o : Option Payload) → addresses_of (entry_in table) v ≡ Some e.block
          → space.held e.block ≡ o → option_map (numbered_with e) (option_map birth_of_item o) ≡ Some n
          → Own n
      of_payload e None at held g = cc
      of_payload e (Some payload) at held g =
          let same : numbered_with e (birth_of_item payload) ≡ n = cc in
          let number : payload.0.number ≡ v =
          some_same
          (sym (ap (λ (o : Option Payload). option_map number_of (option_map birth_of_item o)) held)
          ∙ is_table.sound v e.block at) in
          subst Own same (
            used_inside space.segments e.block limits.tidy (is_table.used v e.block at),
            held ∙ ap (λ (k : ℕ). Some (tag_for k (tag_place payload.0), payload.1)) number,
            is_table.stored v e.block at ∙ ap (option_map payload_page) held,
          )
        where
          some_same : {a b : ℕ} → Some a ≡ Some b → a ≡ b
          some_same h = cc

      of_entry : (o : Option DatEntry) → entry_in table v ≡ o → numbered_of (births_in space) o ≡ Some n
          → Own n
      of_entry None there h = cc
      of_entry (Some e) there h = of_payload e (space.held e.block) (ap (option_map block_of) there) refl h

  pub is_store : AreWholeLogs space → HoldsOnlyUsed space → HaveLogs space.segments
      → IsStore (store_of table space failures)
  is_store whole only have = record {
    full = length-map table (numbered_of (births_in space)) ∙ is_table.full;
    numbers = λ v b at. numbers v b (address_now v b at);
    used = λ v b at. is_table.used v b (address_now v b at);
    apart = λ v w b at_v at_w.
        HaveOwnPayload-apart (addresses_of (entry_in table)) (births_in space) v w b is_table.sound
        (address_now v b at_v) (address_now w b at_w);
    on_device = λ v n is. let o = own v n is in (shown table space failures n.block o.0).1 ∙ o.2;
    own_payload = λ v n is. let o = own v n is in (shown table space failures n.block o.0).0 ∙ o.1;
    whole_logs = whole-shown table space failures limits.tidy whole;
    only_used = only-shown table space failures only;
    have_logs = have;
    limits = limits;
    adds_up = refl;
  }

-- ---- an empty table

map-empty : (stored : Partial Birth) (n : ℕ) → map (numbered_of stored) (replicate n None) ≡ replicate n None
map-empty stored zero = refl
map-empty stored (suc n) = ap (λ xs. None ∷ xs) (map-empty stored n)

pub store_of-empty : (table : List (Option DatEntry)) (space : SpaceContent) (failures : Failures)
    → table ≡ replicate (total_blocks space.segments + 1) None
    → store_of table space failures ≡ new_store space failures
store_of-empty table space failures is =
    ap (λ numbers. record {
      numbers = numbers;
      segments = space.segments;
      device = map space.stored (range_with_len 0 (total_blocks space.segments));
      payload = map space.held (range_with_len 0 (total_blocks space.segments));
      failures = failure_count failures;
      failed = failures;
    })
    (ap (map (numbered_of (births_in space))) is
    ∙ map-empty (births_in space) (total_blocks space.segments + 1))

get_or-empty : {A : Type 0} (n v : ℕ) → ◌≡◌ {A = Option A} (get_or (replicate n None) v None) None
get_or-empty zero v = refl
get_or-empty (suc n) zero = refl
get_or-empty (suc n) (suc v) = get_or-empty n v

pub table-empty : (table : List (Option DatEntry)) (space : SpaceContent)
    → table ≡ replicate (total_blocks space.segments + 1) None → IsDatTable table 1 space
table-empty table space is = record {
  full = ap length is ∙ length-replicate (total_blocks space.segments + 1) None;
  zero_unused = none 0;
  sound = λ v b at. absurd (unused v b at);
  used = λ v b at. absurd (unused v b at);
  stored = λ v b at. absurd (unused v b at);
  positive = omega arith;
  within = omega (arith, ap length is ∙ length-replicate (total_blocks space.segments + 1) None);
  below_lowest = λ v low high. absurd (omega (arith, low, high));
}
  where
    none : (v : ℕ) → entry_in table v ≡ None
    none v = ap (λ t. entry_in t v) is ∙ get_or-empty (total_blocks space.segments + 1) v

    unused : (v b : ℕ) → addresses_of (entry_in table) v ≡ Some b → ⊥
    unused v b at = let no : None ≡ Some b = sym (ap (option_map block_of) (none v)) ∙ at in cc

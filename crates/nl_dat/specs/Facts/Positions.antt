-- Which number's page may stand at a position of a segment.
use Rattle.std.proofs.Common.{◌≡◌, ℕ, ◌+◌, ◌*◌, ◌<◌, ◌≤◌, ◌⊎◌, List, Some, None, Option, inl, inr, sym, refl, ap, subst, ◌∙◌, length, arith}
use Rattle.std.specs.Prelude.{slice_get, slice_index_or}
use Rattle.std.specs.Option.{option_map}
use Rattle.std.proofs.Math.Nat.{mul-le-mul_right}
use Rattle.std.proofs.lemmas.Bool.{cases_eq, cases_lt}
use Rattle.std.proofs.lemmas.List.{get_or_past}
use Rattle.std.proofs.lemmas.Option.{get_or_from_slice_get}
use Rattle.nl_types.specs.Blocks.Segments.{Segments, AreTidy, IsUsed, info_of}
use Rattle.nl_types.specs.Facts.SegmentChanges.{room_of}
use Rattle.nl_types.specs.Blocks.Entries.{number_of}
use Rattle.nl_device.specs.Failures.{Failures}
use Rattle.nl_vstore.specs.Content.{Payload, SpaceContent, HoldsOnlyUsed, payload_tag}
use Rattle.nl_dat.specs.declared.entries.DatEntry.{DatEntry}
use Rattle.nl_vstore.specs.Batches.{birth_of_item, number_of_payload}
use Rattle.nl_dat.specs.Table.{entry_in, addresses_of}
use Rattle.nl_vstore.specs.Stores.{tag_in}
use Rattle.nl_dat.specs.Inside.{store_of, IsDatTable}
use Rattle.nl_dat.specs.Facts.ShownSpace.{shown}

-- a used block of a segment lies in its used part
pub position-used : (s : Segments) (segment position b : ℕ) → AreTidy s → IsUsed s b
    → b ≡ segment * s.blocks + position → position < s.blocks → position < (info_of s.each segment).used
position-used s segment position b tidy (place, at, used) is within =
    by_segment (cases_eq place.segment segment) (cases_lt place.segment segment)
  where
    full : place.block < s.blocks
    full = let f = room_of s.blocks s.each tidy.each place.segment in omega (arith, f, used)

    by_segment : (place.segment ≡ segment) ⊎ (place.segment ≡ segment → ⊥)
        → (place.segment < segment) ⊎ (segment ≤ place.segment) → position < (info_of s.each segment).used
    by_segment (inl h) _ =
        let u : place.block < (info_of s.each segment).used =
        subst (λ (k : ℕ). place.block < (info_of s.each k).used) h used in
        let m : place.segment * s.blocks ≡ segment * s.blocks = ap (λ (k : ℕ). k * s.blocks) h in
        omega (arith, m, at, is, u)
    by_segment (inr n) (inl h) =
        let m : (place.segment + 1) * s.blocks ≤ segment * s.blocks =
        mul-le-mul_right s.blocks (omega arith) in
        absurd (omega (arith, m, at, is, full))
    by_segment (inr n) (inr h) =
        let m : (segment + 1) * s.blocks ≤ place.segment * s.blocks =
        mul-le-mul_right s.blocks (omega arith) in
        absurd (omega (arith, m, at, is, within))

-- only the number that a block's payload was written for may have it
pub tagged_with : (table : List (Option DatEntry)) (lowest : ℕ) (space : SpaceContent) (v b : ℕ)
    → IsDatTable table lowest space → addresses_of (entry_in table) v ≡ Some b
    → (payload : Payload) × (space.held b ≡ Some payload) × (payload.0.number ≡ v)
tagged_with table lowest space v b is_table at = named (space.held b) refl (is_table.sound v b at)
  where
    named : (o : Option Payload) → space.held b ≡ o
        → option_map number_of (option_map birth_of_item o) ≡ Some v
        → (payload : Payload) × (space.held b ≡ Some payload) × (payload.0.number ≡ v)
    named None is h = cc
    named (Some payload) is h = (payload, is, cc)

-- what stands in the row of a segment is the payload that is held there
pub held-row : (row : List (Option Payload)) (space : SpaceContent) (segment position : ℕ)
    → ((k : ℕ) → k < length row → slice_get row k ≡ Some (space.held (segment * space.segments.blocks + k)))
    → position < length row
    → slice_index_or row position None ≡ space.held (segment * space.segments.blocks + position)
held-row row space segment position each within =
    get_or_from_slice_get row position (space.held (segment * space.segments.blocks + position)) None
    (each position within)

-- so a row tells which number may have a block
pub tagged-row : (table : List (Option DatEntry)) (lowest : ℕ) (space : SpaceContent)
    (row : List (Option Payload)) (segment position v : ℕ)
    → AreTidy space.segments → IsDatTable table lowest space
    → length row ≡ (info_of space.segments.each segment).used
    → ((k : ℕ) → k < length row → slice_get row k ≡ Some (space.held (segment * space.segments.blocks + k)))
    → position < space.segments.blocks
    → addresses_of (entry_in table) v ≡ Some (segment * space.segments.blocks + position)
    → option_map number_of_payload (slice_index_or row position None) ≡ Some v
tagged-row table lowest space row segment position v tidy is_table count each within at =
    let b = segment * space.segments.blocks + position in
    let used = position-used space.segments segment position b tidy (is_table.used v b at) refl within in
    let tag = tagged_with table lowest space v b is_table at in
    ap (option_map number_of_payload)
    (held-row row space segment position each (omega (arith, used, count)) ∙ tag.1)
    ∙ ap Some tag.2

-- and what it says of each block
pub tag-row : (table : List (Option DatEntry)) (space : SpaceContent) (failures : Failures)
    (row : List (Option Payload)) (segment position : ℕ)
    → AreTidy space.segments → HoldsOnlyUsed space → segment < length space.segments.each
    → position < space.segments.blocks
    → length row ≡ (info_of space.segments.each segment).used
    → ((k : ℕ) → k < length row → slice_get row k ≡ Some (space.held (segment * space.segments.blocks + k)))
    → option_map payload_tag (slice_index_or row position None)
    ≡ tag_in (store_of table space failures) (segment * space.segments.blocks + position)
tag-row table space failures row segment position tidy only within low count each =
    let m : (segment + 1) * space.segments.blocks ≤ length space.segments.each * space.segments.blocks =
    mul-le-mul_right space.segments.blocks (omega (arith, within)) in
    let b = segment * space.segments.blocks + position in
    ap (option_map payload_tag)
    (by_row (cases_lt position (length row)) ∙ sym (shown table space failures b (omega (arith, m, low))).0)
  where
    by_row : (position < length row) ⊎ (length row ≤ position)
        → slice_index_or row position None ≡ space.held (segment * space.segments.blocks + position)
    by_row (inl h) = held-row row space segment position each h
    by_row (inr h) =
        get_or_past row position None h
        ∙ sym (only (segment * space.segments.blocks + position)
        (λ used.
        let past =
        position-used space.segments segment position
        (segment * space.segments.blocks + position) tidy used refl low in
        omega (arith, past, h, count)))

-- What is read for a number that stands in a segment.
use Rattle.std.proofs.Common.{◌≡◌, ℕ, ◌+◌, ◌-◌, ◌*◌, ◌<◌, ◌≤◌, true, List, Some, None, Option, inl, inr, sym, refl, ap, ◌∙◌, length, arith}
use Rattle.std.specs.Prelude.{slice_get, slice_index_or}
use Rattle.std.specs.Option.{option_map, option_and_then}
use Rattle.std.proofs.lemmas.Bool.{cases_lt}
use Rattle.std.proofs.lemmas.Bool.Decides.{nat_tests}
use Rattle.nl_types.specs.Blocks.Segments.{Segments, AreTidy, info_of}
use Rattle.nl_types.specs.Blocks.Entries.{number_of}
use Rattle.nl_layout.specs.declared.tag.Tag.{Tag}
use Rattle.nl_vstore.specs.Content.{Payload, SpaceContent, payload_tag, payload_page}
use Rattle.nl_dat.specs.declared.entries.DatEntry.{DatEntry}
use Rattle.nl_vstore.specs.Batches.{birth_of_item}
use Rattle.nl_dat.specs.Table.{entry_in, addresses_of, block_of, stored_at}
use Rattle.nl_vstore.specs.Stores.{is_inside}
use Rattle.nl_dat.specs.Inside.{IsBacked, births_in}
use Rattle.nl_dat.specs.Facts.Positions.{position-used, held-row}

-- where a block in a segment lies
inside-bounds : (s : Segments) (segment b : ℕ) → is_inside s segment (Some b) ≡ true
    → (segment * s.blocks ≤ b) × (b < segment * s.blocks + s.blocks)
inside-bounds s segment b inside = (
  (elim (cases_lt b (segment * s.blocks)) [
    | inl low ↦ grind (arith, nat_tests)
    | inr h ↦ h
  ]),
  (elim (cases_lt b (segment * s.blocks + s.blocks)) [
    | inl h ↦ h
    | inr high ↦ grind (arith, nat_tests)
  ]),
)

-- the payload of a number stands in the row of its segment
pub record Found (table : List (Option DatEntry)) (space : SpaceContent) (row : List (Option Payload))
    (first : ℕ) (e : DatEntry) : Type 0 where
  pub payload : Payload
  pub low : first ≤ e.block
  pub in_row : slice_index_or row (e.block - first) None ≡ Some payload
  pub held : space.held e.block ≡ Some payload
  pub stored : space.stored e.block ≡ Some (payload_page payload)

pub found : (table : List (Option DatEntry)) (space : SpaceContent) (row : List (Option Payload))
    (segment v : ℕ) (e : DatEntry)
    → AreTidy space.segments → IsBacked table space → entry_in table v ≡ Some e
    → is_inside space.segments segment (addresses_of (entry_in table) v) ≡ true
    → length row ≡ (info_of space.segments.each segment).used
    → ((k : ℕ) → k < length row → slice_get row k ≡ Some (space.held (segment * space.segments.blocks + k)))
    → Found table space row (segment * space.segments.blocks) e
found table space row segment v e tidy backed there inside count each =
    held (space.held e.block) refl (backed.sound v e.block at)
  where
    at : addresses_of (entry_in table) v ≡ Some e.block
    at = ap (option_map block_of) there

    bounds : (segment * space.segments.blocks ≤ e.block)
        × (e.block < segment * space.segments.blocks + space.segments.blocks)
    bounds =
        inside-bounds space.segments segment e.block (sym (ap (is_inside space.segments segment) at) ∙ inside)

    position : segment * space.segments.blocks + (e.block - segment * space.segments.blocks) ≡ e.block
    position = omega (arith, bounds.0)

    used : e.block - segment * space.segments.blocks < (info_of space.segments.each segment).used
    used =
        position-used space.segments segment (e.block - segment * space.segments.blocks) e.block tidy
        (backed.used v e.block at) (sym position) (omega (arith, bounds.0, bounds.1))

    held : (o : Option Payload) → space.held e.block ≡ o
        → option_map number_of (option_map birth_of_item o) ≡ Some v
        → Found table space row (segment * space.segments.blocks) e
    held None is h = absurd (none_some h)
      where
        none_some : None ≡ Some v → ⊥
        none_some h = cc
    held (Some payload) is h = record {
      payload = payload;
      low = bounds.0;
      in_row =
          held-row row space segment (e.block - segment * space.segments.blocks) each
          (omega (arith, used, count))
          ∙ ap space.held position ∙ is;
      held = is;
      stored = backed.stored v e.block at ∙ ap (option_map payload_page) is;
    }

-- a tag from the row and a page from the device are the payload
pub loaded : (table : List (Option DatEntry)) (space : SpaceContent) (row : List (Option Payload))
    (first v : ℕ) (e : DatEntry) (tag : Tag) (page : List ℕ)
    → entry_in table v ≡ Some e → Found table space row first e
    → option_map payload_tag (slice_index_or row (e.block - first) None) ≡ Some tag
    → space.stored e.block ≡ Some page
    → stored_at (entry_in table) (births_in space) v ≡ Some (birth_of_item (tag, page))
loaded table space row first v e tag page there f tagged read =
    let tag_is : Some (payload_tag f.payload) ≡ Some tag =
    sym (ap (option_map payload_tag) f.in_row) ∙ tagged in
    let page_is : Some (payload_page f.payload) ≡ Some page = sym f.stored ∙ read in
    let tag_same : payload_tag f.payload ≡ tag = cc in
    let page_same : payload_page f.payload ≡ page = cc in
    ap (option_and_then (λ (s : DatEntry). births_in space s.block)) there
    ∙ ap (option_map birth_of_item) f.held
    ∙ ap (λ (t : Tag). Some (birth_of_item (t, payload_page f.payload))) tag_same
    ∙ ap (λ (p : List ℕ). Some (birth_of_item (tag, p))) page_same

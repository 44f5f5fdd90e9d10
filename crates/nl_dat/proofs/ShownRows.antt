-- The row of a segment, of a table over a space.
use Rattle.std.proofs.Common.{◌≡◌, ℕ, suc, ◌+◌, ◌*◌, ◌<◌, ◌≤◌, List, [], ◌∷◌, Option, Some, sym, refl, ap, ◌∙◌, map, length, arith, add-zero}
use Rattle.std.specs.Prelude.{slice_get}
use Rattle.std.proofs.Math.Nat.{mul-le-mul_right}
use Rattle.std.proofs.lemmas.Option.{same_Some}
use Rattle.nl_types.specs.Blocks.Segments.{AreTidy, info_of}
use Rattle.nl_types.specs.Blocks.Placing.{blocks_from}
use Rattle.nl_types.specs.Facts.SegmentChanges.{room_of}
use Rattle.nl_device.specs.Failures.{Failures}
use Rattle.nl_vstore.specs.Content.{HeldPayload, Payload, SpaceContent}
use Rattle.nl_dat.specs.declared.entries.DatEntry.{DatEntry}
use Rattle.nl_dat.specs.Inside.{store_of}
use Rattle.nl_vstore.specs.Stores.{payload_in}
use Rattle.nl_vstore.specs.Summaries.{payload_row}
use Rattle.nl_dat.specs.Facts.ShownSpace.{shown}

row-is : (row : List (Option Payload)) (held : HeldPayload) (b : ℕ)
    → ((k : ℕ) → k < length row → slice_get row k ≡ Some (held (b + k)))
    → row ≡ map held (blocks_from b (length row))
row-is [] held b each = refl
row-is (o ∷ row) held b each =
    let head : o ≡ held b = same_Some o (held (b + 0)) (each 0 (omega arith)) ∙ ap held (add-zero b) in
    let tail : row ≡ map held (blocks_from (suc b) (length row)) =
    row-is row held (suc b)
    (λ k low.
    each (suc k) (omega (arith, low))
    ∙ (let at : b + suc k ≡ suc b + k = omega arith in ap (λ (c : ℕ). Some (held c)) at)) in
    λ i. head i ∷ tail i

pub row-store_of : (table : List (Option DatEntry)) (space : SpaceContent) (failures : Failures) (segment : ℕ)
    (row : List (Option Payload))
    → AreTidy space.segments → segment < length space.segments.each
    → length row ≡ (info_of space.segments.each segment).used
    → ((k : ℕ) → k < length row → slice_get row k ≡ Some (space.held (segment * space.segments.blocks + k)))
    → row ≡ payload_row (store_of table space failures) segment
row-store_of table space failures segment row tidy within size each =
    row-is row (payload_in (store_of table space failures)) (segment * space.segments.blocks) at
    ∙ ap (λ (n : ℕ).
    map (payload_in (store_of table space failures)) (blocks_from (segment * space.segments.blocks) n))
    size
  where
    at : (k : ℕ) → k < length row
        → slice_get row k
        ≡ Some (payload_in (store_of table space failures) (segment * space.segments.blocks + k))
    at k low =
        let room = room_of space.segments.blocks space.segments.each tidy.each segment in
        let whole : (segment + 1) * space.segments.blocks
        ≤ length space.segments.each * space.segments.blocks =
        mul-le-mul_right space.segments.blocks (omega (arith, within)) in
        let shows =
        (shown table space failures (segment * space.segments.blocks + k)
        (omega (arith, low, size, room, whole))).0 in
        each k low ∙ ap Some (sym shows)

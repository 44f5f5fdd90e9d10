-- The payload of a segment, counted.
use Rattle.std.proofs.Common.{◌≡◌, ◌≤◌, ◌<◌, ℕ, zero, suc, ◌+◌, ◌*◌, List, Option, Some, None, sym, refl, ap, ◌∙◌, length, is_some, arith}
use Rattle.std.specs.Prelude.{slice_get, slice_index_or}
use Rattle.std.proofs.Math.Nat.{mul-le-mul_right}
use Rattle.nl_types.specs.Blocks.Segments.{AreTidy, info_of}
use Rattle.nl_types.specs.Facts.SegmentChanges.{room_of}
use Rattle.nl_device.specs.Failures.{Failures}
use Rattle.nl_vstore.specs.Content.{Payload, SpaceContent}
use Rattle.nl_dat.specs.declared.entries.DatEntry.{DatEntry}
use Rattle.nl_dat.specs.Inside.{store_of}
use Rattle.nl_vstore.specs.Located.{block_if, in_row, onto, picked, payload_block, payload_count_in}
use Rattle.nl_dat.specs.Facts.Positions.{held-row}
use Rattle.nl_dat.specs.Facts.ShownSpace.{shown}

count-same : (f g : ℕ → Option ℕ) (b c n : ℕ) → ((k : ℕ) → k < n → is_some (f (b + k)) ≡ is_some (g (c + k)))
    → length (picked f b n) ≡ length (picked g c n)
count-same f g b c zero each = refl
count-same f g b c (suc n) each =
    let at_b : b + 0 ≡ b = omega arith in
    let at_c : c + 0 ≡ c = omega arith in
    one (f b) (g c) (picked f (suc b) n) (picked g (suc c) n)
    (ap (λ i. is_some (f i)) (sym at_b) ∙ each 0 (omega arith) ∙ ap (λ i. is_some (g i)) at_c)
    (count-same f g (suc b) (suc c) n (λ k low.
    let next_b : suc b + k ≡ b + suc k = omega arith in
    let next_c : c + suc k ≡ suc c + k = omega arith in
    ap (λ i. is_some (f i)) next_b ∙ each (suc k) (omega (arith, low)) ∙ ap (λ i. is_some (g i)) next_c))
  where
    one : (o p : Option ℕ) (xs ys : List ℕ) → is_some o ≡ is_some p → length xs ≡ length ys
        → length (onto o xs) ≡ length (onto p ys)
    one None None xs ys e same = same
    one None (Some w) xs ys e same = cc
    one (Some v) None xs ys e same = cc
    one (Some v) (Some w) xs ys e same = ap suc same

some-payload : (b k : ℕ) (o : Option Payload) → is_some (block_if b o) ≡ is_some (block_if k o)
some-payload b k None = refl
some-payload b k (Some p) = refl

pub payload-counted : (table : List (Option DatEntry)) (space : SpaceContent) (failures : Failures)
    (segment : ℕ) (row : List (Option Payload))
    → AreTidy space.segments → segment < length space.segments.each
    → length row ≡ (info_of space.segments.each segment).used
    → ((k : ℕ) → k < length row → slice_get row k ≡ Some (space.held (segment * space.segments.blocks + k)))
    → length (picked (in_row row) 0 (length row)) ≡ payload_count_in (store_of table space failures) segment
payload-counted table space failures segment row tidy within size each =
    count-same (in_row row) (payload_block (store_of table space failures)) 0
    (segment * space.segments.blocks) (length row) at
    ∙ ap (λ n.
    length (picked (payload_block (store_of table space failures)) (segment * space.segments.blocks) n))
    size
  where
    at : (k : ℕ) → k < length row
        → is_some (in_row row (0 + k))
        ≡ is_some (payload_block (store_of table space failures) (segment * space.segments.blocks + k))
    at k low =
        let here : 0 + k ≡ k = omega arith in
        let room = room_of space.segments.blocks space.segments.each tidy.each segment in
        let whole : (segment + 1) * space.segments.blocks
        ≤ length space.segments.each * space.segments.blocks =
        mul-le-mul_right space.segments.blocks (omega (arith, within)) in
        let held : slice_index_or row k None ≡ space.held (segment * space.segments.blocks + k) =
        held-row row space segment k each low in
        let shows =
        (shown table space failures (segment * space.segments.blocks + k)
        (omega (arith, low, size, room, whole))).0 in
        ap (λ i. is_some (in_row row i)) here ∙ ap (λ o. is_some (block_if k o)) held
        ∙ sym (some-payload (segment * space.segments.blocks + k) k
        (space.held (segment * space.segments.blocks + k)))
        ∙ ap (λ o. is_some (block_if (segment * space.segments.blocks + k) o)) (sym shows)

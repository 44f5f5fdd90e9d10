-- The segment where the page of a number stands.
use Rattle.std.proofs.Common.{◌≡◌, ℕ, ◌+◌, ◌*◌, ◌/◌, ◌<◌, ◌≤◌, true, get_or, Some, None, Option, inl, inr, refl, ap, subst, ◌∙◌, length, arith}
use Rattle.std.specs.Option.{option_map}
use Rattle.std.proofs.Math.Nat.{div-mul-le_self, lt-div-mul-add}
use Rattle.std.proofs.lemmas.Bool.{cases_lt}
use Rattle.std.proofs.lemmas.Bool.Decides.{nat_tests}
use Rattle.std.proofs.lemmas.List.{get_or_past}
use Rattle.std.proofs.lemmas.List.Elements.{All-from_recursion}
use Rattle.std.proofs.lemmas.Nat.{div-mul-add}
use Rattle.nl_types.specs.declared.segment.SegmentInfo.{SegmentInfo}
use Rattle.nl_types.specs.Blocks.Segments.{IsTidy, IsUsed, Segments, clean_info}
use Rattle.nl_sufile.specs.Table.{IsSegTable}
use Rattle.nl_vstore.specs.Stores.{IsStore, Store, address_in, is_inside}
use Rattle.nl_vstore.specs.Counts.{IsSegmentOf}

-- a used block lies in the segment that its number tells
segment-inside : (s : Segments) (b : ℕ) → IsSegTable s → IsUsed s b
    → (b / s.blocks < length s.each) × (is_inside s (b / s.blocks) (Some b) ≡ true)
segment-inside s b limits (place, at, used) = (
  omega (arith, segment, within),
  inside (b / s.blocks) (div-mul-le_self b s.blocks)
      (lt-div-mul-add (omega (arith, limits.geometry.least_blocks))),
)
  where
    -- no block of another segment is used
    within : place.segment < length s.each
    within = elim (cases_lt place.segment (length s.each)) [
      | inl h ↦ h
      | inr h ↦
          (let none : place.block
          < 0 =
          subst (λ (i : SegmentInfo). place.block < i.used)
          (get_or_past s.each place.segment clean_info h) used in
          absurd (omega (arith, none)))
    ]

    room : place.block < s.blocks
    room =
        let tidy : IsTidy s.blocks (get_or s.each place.segment clean_info) =
        All-from_recursion (IsTidy s.blocks) s.each limits.tidy.each place.segment clean_info within in
        omega (arith, used, tidy.room)

    segment : b / s.blocks ≡ place.segment
    segment = ap (λ (n : ℕ). n / s.blocks) at ∙ div-mul-add place.segment s.blocks place.block room

    inside : (i : ℕ) → i * s.blocks ≤ b → b < i * s.blocks + s.blocks → is_inside s i (Some b) ≡ true
    inside i low high = grind (arith, nat_tests)

pub is_segment : (s : Store) (v : ℕ) → IsStore s
    → IsSegmentOf s v (option_map (λ b. b / s.segments.blocks) (address_in s v))
is_segment s v store = by (address_in s v) refl
  where
    by : (o : Option ℕ) → address_in s v ≡ o → IsSegmentOf s v (option_map (λ b. b / s.segments.blocks) o)
    by None at = at
    by (Some b) at =
        let lies = segment-inside s.segments b store.limits (store.used v b at) in
        (lies.0, ap (is_inside s.segments (b / s.segments.blocks)) at ∙ lies.1)

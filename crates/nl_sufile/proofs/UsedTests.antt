-- The test of whether a block is used, by its segment and its position there.
use Rattle.std.proofs.Common.{◌≡◌, ℕ, ◌+◌, ◌*◌, ◌/◌, ◌%◌, ◌<◌, Option, None, Some, refl, ap, ◌∙◌, arith, inl, inr}
use Rattle.std.specs.Bool.{IsTrue}
use Rattle.std.specs.Option.{ok_or}
use Rattle.std.specs.Prelude.{Err, slice_get}
use Rattle.std.proofs.Math.Dec.{ltb}
use Rattle.std.proofs.lemmas.Bool.{lt-ltb, ltb-true}
use Rattle.std.proofs.lemmas.List.{get_or_past}
use Rattle.std.proofs.lemmas.Nat.{div-mul-add, mod-mul-add}
use Rattle.std.proofs.lemmas.Option.{slice_get_cases}
use Rattle.nl_types.specs.declared.segment.SegmentInfo.{SegmentInfo}
use Rattle.nl_types.specs.Blocks.Segments.{Segments, IsUsed, clean_info, info_of}
use Rattle.nl_types.specs.Facts.SegmentChanges.{room_of}
use Rattle.nl_sufile.specs.Table.{IsSegTable}

-- a used block's segment and position are told by division
used_parts : (s : Segments) (b : ℕ) → IsSegTable s → IsUsed s b
    → b % s.blocks < (info_of s.each (b / s.blocks)).used
used_parts s b is (p, at, low) =
    let room = room_of s.blocks s.each is.tidy.each p.segment in
    let inside : p.block < s.blocks = omega (arith, low, room) in
    let segment : b / s.blocks ≡ p.segment =
    ap (λ (n : ℕ). n / s.blocks) at ∙ div-mul-add p.segment s.blocks p.block inside in
    let position : b % s.blocks ≡ p.block =
    ap (λ (n : ℕ). n % s.blocks) at ∙ mod-mul-add p.segment s.blocks p.block inside in
    rw (segment, position) low

pub used_test : (s : Segments) (b r n used : ℕ) → IsSegTable s → r ≡ b → n ≡ s.blocks
    → used ≡ (info_of s.each (b / s.blocks)).used
    → (IsTrue (ltb (r % n) used) → IsUsed s b) × (IsUsed s b → IsTrue (ltb (r % n) used))
used_test s b r n used is same blocks told = rw (same, blocks, told) (
  λ t. (
    record { segment = b / s.blocks; block = b % s.blocks },
    whole,
    ltb-true (b % s.blocks) (info_of s.each (b / s.blocks)).used t,
  ),
  λ u. lt-ltb (b % s.blocks) (info_of s.each (b / s.blocks)).used (used_parts s b is u),
)
  where
    whole : b ≡ b / s.blocks * s.blocks + b % s.blocks
    whole = let some = is.geometry.least_blocks in omega (arith, some)

pub none_from_err : {A E : Type 0} (o : Option A) (e d : E) → Err e ≡ ok_or o d → o ≡ None
none_from_err None e d is = refl
none_from_err (Some a) e d is = cc

-- no block is used of a segment that there isn't
pub not_used : (s : Segments) (b : ℕ) → IsSegTable s → slice_get s.each (b / s.blocks) ≡ None → IsUsed s b → ⊥
not_used s b is none u =
    elim ((slice_get_cases s.each (b / s.blocks)).1) [
      | inl found ↦ cc (found.2)
      | inr past ↦
          let clean : (info_of s.each (b / s.blocks)).used ≡ 0 =
          ap (λ (info : SegmentInfo). info.used) (get_or_past s.each (b / s.blocks) clean_info past.0) in
          let low = used_parts s b is u in
          omega (arith, clean, low)
    ]

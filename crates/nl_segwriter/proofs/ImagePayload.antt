-- The payload of an image, segment by segment.
use Rattle.std.proofs.Common.{◌≡◌, ℕ, ◌+◌, ◌-◌, ◌*◌, ◌<◌, ◌≤◌, List, [], length, Option, None, Some, refl, ap, sym, ◌∙◌, subst, arith, inl, inr}
use Rattle.std.proofs.Math.ListN.{replicate}
use Rattle.std.proofs.Math.Nat.{mul-le-mul_right}
use Rattle.std.proofs.lemmas.Bool.{cases_lt}
use Rattle.std.proofs.lemmas.List.{get_or_past, length-replicate}
use Rattle.nl_types.specs.declared.segment.SegmentInfo.{SegmentInfo}
use Rattle.nl_types.specs.Blocks.Segments.{Segments, AreTidy, IsUsed, clean_info, info_of, total_blocks}
use Rattle.nl_types.specs.Facts.SegmentChanges.{room_of}
use Rattle.nl_device.specs.Pages.{DevicePages}
use Rattle.nl_vstore.specs.Content.{HeldPayload, Payload, SpaceContent}
use Rattle.nl_vstore.specs.Logs.{AreWholeLogs, IsFilledBy, WholeLog}
use Rattle.nl_vstore.specs.FactsOfSpace.KeptLogs.{fill_kept}
use Rattle.nl_segwriter.specs.Images.{HoldLogs, IsHeld, SameAround, used_end, used_start, page_in}
use Rattle.nl_segwriter.specs.Writing.{held_in, space_content}
use Rattle.nl_segwriter.specs.Facts.WholeLogs.{fill_has, none_held}

-- that of the first segments is held, and nothing else
pub record AreHeldBelow (s : Segments) (device : DevicePages) (payload : List (Option Payload))
    (n : ℕ) : Type 0 where
  pub count : length payload ≡ total_blocks s
  pub held : (i : ℕ) → i < n → IsHeld s device (held_in payload) i
  pub unheld : (b : ℕ) → (IsUsed s b → ⊥) → held_in payload b ≡ None
  pub free : (b : ℕ) → n * s.blocks ≤ b → held_in payload b ≡ None

pub none_below : (s : Segments) (device : DevicePages) (n : ℕ) → n ≡ total_blocks s
    → AreHeldBelow s device (replicate n None) 0
none_below s device n count = record {
  count = length-replicate n None ∙ count;
  held = λ i low. absurd (omega arith);
  unheld = λ b _. none_held n b;
  free = λ b _. none_held n b;
}

abbrev content : Segments → DevicePages → HeldPayload → SpaceContent
content s device held = record { segments = s; held = held; stored = device }

-- the used part of an earlier segment ends before a later one
ends_before : (s : Segments) (i n : ℕ) → AreTidy s → i < n → used_end s i ≤ n * s.blocks
ends_before s i n tidy low =
    let room = room_of s.blocks s.each tidy.each i in
    let m : (i + 1) * s.blocks ≤ n * s.blocks = mul-le-mul_right s.blocks (omega arith) in
    omega (arith, room, m)

-- and in the volume
pub part_inside : (s : Segments) (i : ℕ) → AreTidy s → i < length s.each → used_end s i ≤ total_blocks s
part_inside s i tidy low = ends_before s i (length s.each) tidy low

pub more_held : (s : Segments) (device : DevicePages) (payload new : List (Option Payload)) (n : ℕ)
    → AreTidy s → AreHeldBelow s device payload n → IsHeld s device (held_in new) n
    → SameAround (used_start s n) (used_end s n) (held_in payload) (held_in new) → length new ≡ length payload
    → AreHeldBelow s device new (n + 1)
more_held s device payload new n tidy are is same size = record {
  count = size ∙ are.count;
  held = λ i low. elim (cases_lt i n) [
    | inl h ↦ kept i h (are.held i h)
    | inr h ↦ let at : n ≡ i = omega (arith, h, low) in subst (IsHeld s device (held_in new)) at is
  ];
  unheld = λ b unused. elim (cases_lt b (used_start s n)) [
    | inl h ↦ same.below b h ∙ are.unheld b unused
    | inr h ↦ elim (cases_lt b (used_end s n)) [
      | inl k ↦
          absurd
          (unused (record { segment = n; block = b - used_start s n }, omega (arith, h), omega (arith, h, k)))
      | inr k ↦ same.above b k ∙ are.unheld b unused
    ]
  ];
  free = λ b high.
      let room = room_of s.blocks s.each tidy.each n in
      let on : (n + 1) * s.blocks ≡ n * s.blocks + s.blocks = omega arith in
      same.above b (omega (arith, high, on, room)) ∙ are.free b (omega (arith, high, on));
}
  where
    kept : (i : ℕ) → i < n → IsHeld s device (held_in payload) i → IsHeld s device (held_in new) i
    kept i low (logs, fill) =
        let before = ends_before s i n tidy low in (
          logs,
          fill_kept (used_start s i) (used_end s i) logs (content s device (held_in payload))
              (content s device (held_in new))
              (λ c from to. (same.below c (omega (arith, to, before)), refl)) fill,
        )

pub all_held : (s : Segments) (device : DevicePages) (payload : List (Option Payload)) (n : ℕ)
    → length s.each ≤ n → AreHeldBelow s device payload n → HoldLogs s device payload
all_held s device payload n all are =
    record { count = are.count; held = λ i low. are.held i (omega (arith, low, all)); unheld = are.unheld }

-- ---- on a device that got the pages

pub restored_whole : (s : Segments) (pages : List (Option (List ℕ))) (payload : List (Option Payload))
    (device : DevicePages)
    → HoldLogs s (page_in pages) payload
    → ((b : ℕ) (page : List ℕ) → page_in pages b ≡ Some page → device b ≡ Some page)
    → AreWholeLogs (space_content s payload device)
restored_whole s pages payload device logs put i = elim (cases_lt i (length s.each)) [
  | inl h ↦ ∣ moved (logs.held i h) ∣₁
  | inr h ↦
      ∣ (
        [],
        let none : (info_of s.each i).used ≡ 0 =
            ap (λ (info : SegmentInfo). info.used) (get_or_past s.each i clean_info h) in
            omega (arith, none),
      ) ∣₁
]
  where
    moved : IsHeld s (page_in pages) (held_in payload) i
        → (ls : List WholeLog) × IsFilledBy (space_content s payload device) i ls
    moved (ls, fill) = (
      ls,
      fill_kept (used_start s i) (used_end s i) ls (content s (page_in pages) (held_in payload))
          (content s device (held_in payload))
          (λ c low high.
          let p =
          fill_has (used_start s i) (used_end s i) c ls (held_in payload)
          (page_in pages) fill low high in
          (refl, put c p.0 p.1 ∙ sym p.1))
          fill,
    )

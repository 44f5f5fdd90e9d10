-- The logs of an image hold one payload alone, so whose a block is doesn't hang on which payload is told.
use Rattle.std.proofs.Common.{◌≡◌, ℕ, ◌+◌, ◌-◌, ◌<◌, ◌≤◌, List, [], ◌∷◌, length, Option, Some, ap, sym, ◌∙◌, subst, refl, arith, inl, inr}
use Rattle.std.specs.Option.{option_map}
use Rattle.std.proofs.lemmas.Bool.{cases_eq, cases_lt}
use Rattle.std.proofs.lemmas.List.{get_or_past}
use Rattle.nl_types.specs.declared.segment.Position.{Position}
use Rattle.nl_types.specs.declared.segment.SegmentInfo.{SegmentInfo}
use Rattle.nl_types.specs.Blocks.Segments.{Segments, IsUsed, clean_info, info_of}
use Rattle.nl_device.specs.Failures.{no_failures}
use Rattle.nl_device.specs.Pages.{DevicePages}
use Rattle.nl_vstore.specs.Content.{HeldPayload, Payload}
use Rattle.nl_vstore.specs.Logs.{FillDevice, FillUpTo, WholeLog}
use Rattle.nl_vstore.specs.FactsOfSpace.KeptLogs.{fill_kept}
use Rattle.nl_vstore.specs.Batches.{number_of_payload}
use Rattle.nl_vstore.specs.Stores.{Store}
use Rattle.nl_vstore.specs.Summaries.{SummariesAreOne}
use Rattle.nl_segwriter.specs.Images.{AreUsedPages, HoldLogs, IsHeld, used_end, used_start, page_in}
use Rattle.nl_segwriter.specs.Writing.{held_in, space_content}
use Rattle.nl_segwriter.specs.Facts.WholeLogs.{fill_has}
use Rattle.nl_dat.specs.declared.entries.DatEntry.{DatEntry}
use Rattle.nl_image.specs.Conditions.{IsOwn}

pub on_device : (b end : ℕ) (logs : List WholeLog) (held : HeldPayload) (stored : DevicePages)
    → FillUpTo b end logs held stored → FillDevice b end logs stored
on_device b end [] held stored fill = fill
on_device b end (log ∷ logs) held stored fill = (
  record { fits = fill.0.fits; summary = fill.0.summary; pages = fill.0.pages },
  on_device (b + 1 + length log.payload) end logs held stored fill.1,
)

-- what the same logs hold is the same
same_held : (b end c : ℕ) (logs : List WholeLog) (held other : HeldPayload) (stored : DevicePages)
    → FillUpTo b end logs held stored → FillUpTo b end logs other stored → b ≤ c → c < end → held c ≡ other c
same_held b end c [] held other stored one two low high = absurd (omega (arith, one, low, high))
same_held b end c (log ∷ logs) held other stored one two low high =
    elim (cases_eq c b) [
      | inl e ↦ ap held e ∙ (one.0.no_payload ∙ (sym two.0.no_payload ∙ ap other (sym e)))
      | inr apart ↦ elim (cases_lt c (b + 1 + length log.payload)) [
        | inl inside ↦ (let far : b < c = omega arith in
            let j : ℕ = c - (b + 1) in
            let at : b + 1 + j ≡ c = omega (arith, far) in
            let within : j < length log.payload = omega (arith, inside, far) in
            ap held (sym at) ∙ (one.0.payload j within ∙ (sym (two.0.payload j within) ∙ ap other at)))
        | inr behind ↦
            same_held (b + 1 + length log.payload) end c logs held other stored one.1 two.1 behind high
      ]
    ]

-- what is used lies in a segment that there is
used_within : (s : Segments) (place : Position) → place.block < (info_of s.each place.segment).used
    → place.segment < length s.each
used_within s place used = elim (cases_lt place.segment (length s.each)) [
  | inl h ↦ h
  | inr h ↦
      (let none : (info_of s.each place.segment).used
      ≡ 0 = ap (λ (info : SegmentInfo). info.used) (get_or_past s.each place.segment clean_info h) in
      absurd (omega (arith, none, used)))
]

-- a used block of whole logs has a page
pub used_page : (s : Segments) (device : DevicePages) (payload : List (Option Payload))
    → HoldLogs s device payload → (b : ℕ) → IsUsed s b → (page : List ℕ) × (device b ≡ Some page)
used_page s device payload logs b (place, at, used) =
    let filled = logs.held place.segment (used_within s place used) in
    fill_has (used_start s place.segment) (used_end s place.segment) b filled.0
    (held_in payload) device filled.1 (omega (arith, at)) (omega (arith, at, used))

module _ (ones : SummariesAreOne) (s : Segments) (image : DevicePages) (pages : List (Option (List ℕ)))
    (are : AreUsedPages s image pages) (payload other : List (Option Payload))
    (restored : HoldLogs s (page_in pages) payload) (logs : HoldLogs s image other) where
  store : Store
  store =
      record { numbers = []; segments = s; device = pages; payload = []; failures = 0; failed = no_failures }

  same_in : (i c : ℕ) → used_start s i ≤ c → c < used_end s i → IsHeld s (page_in pages) (held_in payload) i
      → IsHeld s image (held_in other) i → held_in other c ≡ held_in payload c
  unfolding store
  same_in i c low high (ls, fill) (others, told) =
      let there : FillUpTo (used_start s i) (used_end s i) others (held_in other) (page_in pages) =
      fill_kept (used_start s i) (used_end s i) others (space_content s other image)
      (space_content s other (page_in pages))
      (λ d from to. (
        refl,
        are.used d (
          record { segment = i; block = d - used_start s i },
          omega (arith, from),
          omega (arith, from, to),
        ),
      ))
      told in
      let one : others ≡ ls = ones store i others ls
      (on_device (used_start s i) (used_end s i) others (held_in other) (page_in pages) there)
      (on_device (used_start s i) (used_end s i) ls (held_in payload) (page_in pages) fill) in
      same_held (used_start s i) (used_end s i) c ls (held_in other) (held_in payload) (page_in pages)
      (subst
      (λ (l : List WholeLog). FillUpTo (used_start s i) (used_end s i) l (held_in other) (page_in pages))
      one there)
      fill low high

  same_at : (b : ℕ) → IsUsed s b → held_in other b ≡ held_in payload b
  same_at b (place, at, used) =
      let within = used_within s place used in
      same_in place.segment b (omega (arith, at)) (omega (arith, at, used))
      (restored.held place.segment within) (logs.held place.segment within)

  -- a used block that is a number's own by one payload, is so by the other
  pub own_by_both : (v : ℕ) (e : DatEntry) → IsUsed s e.block → IsOwn (held_in other) v e
      → IsOwn (held_in payload) v e
  own_by_both v e used own = ap (option_map number_of_payload) (sym (same_at e.block used)) ∙ own

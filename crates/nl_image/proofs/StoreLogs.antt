-- The used part of each segment of a store is whole logs in its image too, and the payload is that of the
-- store.
use Rattle.std.proofs.Common.{◌≡◌, ◌∙◌, ℕ, ◌+◌, ◌-◌, List, [], ◌∷◌, Option, None, arith, inl, inr, length, map, subst, sym}
use Rattle.std.specs.List.{range_with_len}
use Rattle.std.proofs.Props.{props}
use Rattle.std.proofs.Math.Logic.{∥∥₁_elim}
use Rattle.std.proofs.lemmas.Bool.{cases_lt}
use Rattle.std.proofs.lemmas.List.{get_or_past}
use Rattle.std.proofs.lemmas.List.FromFn.{get_or-map-range_with_len, length-map-range_with_len}
use Rattle.nl_types.specs.Blocks.Segments.{IsUsed, total_blocks}
use Rattle.nl_types.specs.Facts.UsedParts.{used_inside}
use Rattle.nl_device.specs.Pages.{DevicePages}
use Rattle.nl_vstore.specs.Content.{HeldPayload, Payload}
use Rattle.nl_vstore.specs.Logs.{FillUpTo, StandsFrom, WholeLog}
use Rattle.nl_vstore.specs.FactsOfSpace.KeptLogs.{fill_kept}
use Rattle.nl_vstore.specs.Stores.{IsStore, Store, device_in, payload_in, space_in}
use Rattle.nl_vstore.specs.Summaries.{IsOfLogs, payload_row}
use Rattle.nl_vstore.specs.Facts.StoredLogs.{one_list_stands, row-of_logs}
use Rattle.nl_segwriter.specs.Images.{HoldLogs, IsHeld, used_end, used_start}
use Rattle.nl_segwriter.specs.Writing.{held_in, space_content}
use Rattle.nl_image.specs.Facts.OnePayload.{on_device}

-- ---- that logs hold a payload is one fact

stands-prop : (b : ℕ) (log : WholeLog) (held : HeldPayload) (stored : DevicePages)
    → IsProp (StandsFrom b log held stored)
stands-prop b log held stored = Prim.hlevel props

fill-prop : (b end : ℕ) (logs : List WholeLog) (held : HeldPayload) (stored : DevicePages)
    → IsProp (FillUpTo b end logs held stored)
fill-prop b end [] held stored = Prim.hlevel props
fill-prop b end (log ∷ logs) held stored = λ x y i. (
  stands-prop b log held stored x.0 y.0 i,
  fill-prop (b + 1 + length log.payload) end logs held stored x.1 y.1 i,
)

module _ (s : Store) (is : IsStore s) where
  -- the logs of a segment
  logs-in : (i : ℕ) → IsHeld s.segments (device_in s) (payload_in s) i
  logs-in i = (
    logs,
    ∥∥₁_elim (is.whole_logs i)
        (fill-prop (used_start s.segments i) (used_end s.segments i) logs (payload_in s) (device_in s))
        (λ filled.
        subst (λ (ls : List WholeLog).
        FillUpTo (used_start s.segments i) (used_end s.segments i) ls (payload_in s) (device_in s))
        (one_list_stands s i filled.0 logs
        (on_device (used_start s.segments i) (used_end s.segments i) filled.0 (payload_in s)
        (device_in s) filled.1)
        standing.stand)
        filled.1),
  )
    where
      standing : IsOfLogs s i (payload_row s i)
      standing = row-of_logs s i is

      logs : List WholeLog
      logs = standing.logs

  -- the payload, block by block
  abbrev pub payload-of : List (Option Payload)
  payload-of = map (payload_in s) (range_with_len 0 (total_blocks s.segments))

  pub held-is : (b : ℕ) → held_in payload-of b ≡ payload_in s b
  held-is b = elim (cases_lt b (total_blocks s.segments)) [
    | inl low ↦
        get_or-map-range_with_len (payload_in s) 0 (total_blocks s.segments) b b None low (omega arith)
    | inr high ↦
        get_or_past payload-of b None
        (omega (arith, high, length-map-range_with_len (payload_in s) 0 (total_blocks s.segments)))
        ∙ sym (is.only_used b
        (λ used.
        absurd (let low = used_inside s.segments b is.limits.tidy used in omega (arith, low, high))))
  ]

  -- all used blocks of the image are as on the device
  pub hold-logs : (image : DevicePages) → ((b : ℕ) → IsUsed s.segments b → image b ≡ device_in s b)
      → HoldLogs s.segments image payload-of
  hold-logs image same = record {
    count = length-map-range_with_len (payload_in s) 0 (total_blocks s.segments);
    held = λ i within. held i;
    unheld = λ b unused. held-is b ∙ is.only_used b unused;
  }
    where
      held : (i : ℕ) → IsHeld s.segments image (held_in payload-of) i
      held i =
          let logs = logs-in i in (
            logs.0,
            fill_kept (used_start s.segments i) (used_end s.segments i) logs.0 (space_in s)
                (space_content s.segments payload-of image)
                (λ c low high. (
                  held-is c,
                  same c (
                    record { segment = i; block = c - used_start s.segments i },
                    omega (arith, low),
                    omega (arith, low, high),
                  ),
                ))
                logs.1,
          )

-- Logs stay where their blocks do.
use Rattle.std.proofs.Common.{◌≡◌, ℕ, ◌+◌, ◌-◌, ◌*◌, ◌<◌, ◌≤◌, List, [], ◌∷◌, length, ap, sym, ◌∙◌, arith}
use Rattle.std.proofs.lemmas.List.{length-map}
use Rattle.nl_types.specs.Blocks.Segments.{IsUsed, info_of}
use Rattle.nl_device.specs.Pages.{DevicePages}
use Rattle.nl_vstore.specs.Content.{SpaceContent, HeldPayload, payload_page, IsSameAt}
use Rattle.nl_vstore.specs.Logs.{WholeLog, StandsFrom, FillUpTo, IsFilledBy}

-- a log stays where its blocks do
pub stands_kept : (b : ℕ) (log : WholeLog) (old new : SpaceContent)
    → ((c : ℕ) → b ≤ c → c < b + 1 + length log.payload → IsSameAt old new c)
    → StandsFrom b log old.held old.stored → StandsFrom b log new.held new.stored
stands_kept b log old new same s = record {
  fits = s.fits;
  summary = (same b (omega arith) (omega arith)).1 ∙ s.summary;
  no_payload = (same b (omega arith) (omega arith)).0 ∙ s.no_payload;
  payload = λ j h. (same (b + 1 + j) (omega arith) (omega (arith, h))).0 ∙ s.payload j h;
  pages = λ j h.
      (same (b + 1 + j) (omega arith) (let l = length-map log.payload payload_page in omega (arith, h, l))).1
      ∙ s.pages j h;
}

fill_up : (b end : ℕ) (logs : List WholeLog) (held : HeldPayload) (stored : DevicePages)
    → FillUpTo b end logs held stored → b ≤ end
fill_up b end [] held stored h = omega (arith, h)
fill_up b end (log ∷ logs) held stored h =
    let rest = fill_up (b + 1 + length log.payload) end logs held stored h.1 in omega (arith, rest)

pub fill_kept : (b end : ℕ) (logs : List WholeLog) (old new : SpaceContent)
    → ((c : ℕ) → b ≤ c → c < end → IsSameAt old new c) → FillUpTo b end logs old.held old.stored
    → FillUpTo b end logs new.held new.stored
fill_kept b end [] old new same h = h
fill_kept b end (log ∷ logs) old new same h =
    let more = fill_up (b + 1 + length log.payload) end logs old.held old.stored h.1 in (
      stands_kept b log old new (λ c low high. same c low (omega (arith, more, high))) h.0,
      fill_kept (b + 1 + length log.payload) end logs old new
          (λ c low high. same c (omega (arith, low)) high) h.1,
    )

-- a segment whose blocks and used part stay
pub filled_same : (old new : SpaceContent) (i : ℕ) → new.segments.blocks ≡ old.segments.blocks
    → (info_of new.segments.each i).used ≡ (info_of old.segments.each i).used
    → ((c : ℕ) → IsUsed old.segments c → IsSameAt old new c) → (logs : List WholeLog) × IsFilledBy old i logs
    → (logs : List WholeLog) × IsFilledBy new i logs
filled_same old new i size used same (logs, h) =
    let start : ℕ = i * old.segments.blocks in
    let end : ℕ = start + (info_of old.segments.each i).used in
    let kept : FillUpTo start end logs new.held new.stored = fill_kept start end logs old new
    (λ c low high.
    same c (record { segment = i; block = c - start }, omega (arith, low), omega (arith, low, high)))
    h in
    let at : start ≡ i * new.segments.blocks = ap (λ (n : ℕ). i * n) (sym size) in
    (logs, rw (size, used) kept)

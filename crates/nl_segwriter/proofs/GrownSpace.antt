-- A space that is grown.
use Rattle.std.proofs.Common.{◌≡◌, ℕ, zero, suc, ◌≤◌, List, [], ◌∷◌, ◌++◌, length, take, Option, None, refl, ap, sym, ◌∙◌, arith}
use Rattle.std.proofs.Math.ListN.{replicate}
use Rattle.std.proofs.Math.Logic.{∥∥₁_map}
use Rattle.std.proofs.lemmas.List.{length-append, length-replicate}
use Rattle.nl_types.specs.declared.segment.SegmentInfo.{SegmentInfo}
use Rattle.nl_types.specs.Blocks.Segments.{AreTidy, HaveLogs, Segments, grown_to, has_logs, total_blocks}
use Rattle.nl_types.specs.Blocks.GrowingLaws.{InfosStay, UsedStays}
use Rattle.nl_types.specs.Facts.UsedParts.{used_inside}
use Rattle.nl_device.specs.Pages.{DevicePages, KeepsBelow}
use Rattle.nl_vstore.specs.Content.{HeldPayload, HoldsOnlyUsed, KeepsUsed, Payload, SpaceContent}
use Rattle.nl_vstore.specs.Logs.{AreWholeLogs}
use Rattle.nl_vstore.specs.FactsOfSpace.KeptLogs.{filled_same}
use Rattle.nl_segwriter.specs.Writing.{held_in}
use Rattle.nl_segwriter.specs.Facts.WholeLogs.{none_held}

-- blocks without payload behind others
pub held-behind : (table : List (Option Payload)) (k b : ℕ)
    → held_in (table ++ replicate k None) b ≡ held_in table b
held-behind [] k b = none_held k b
held-behind (x ∷ table) k zero = refl
held-behind (x ∷ table) k (suc b) = held-behind table k b

-- as many as there were stand in front
pub front : (table more : List (Option Payload)) → take (length table) (table ++ more) ≡ table
front [] more = refl
front (x ∷ table) more = ap (λ (xs : List (Option Payload)). x ∷ xs) (front table more)

pub length-grown : (n : ℕ) (s : Segments) → length s.each ≤ n → length (grown_to n s).each ≡ n
length-grown n s most = rw (length-append, length-replicate) (omega (arith, most))

pub logs-grown : (n : ℕ) (s : Segments) → InfosStay → HaveLogs s → HaveLogs (grown_to n s)
logs-grown n s infos logs i has =
    let same = infos n i s in
    let low = logs i (ap (λ (x : SegmentInfo). has_logs x.state) (sym same) ∙ has) in
    omega (arith, low, ap (λ (x : SegmentInfo). x.used) same)

-- memory has what it had, and the device below its old end
module _ (n : ℕ) (old : SpaceContent) (held : HeldPayload) (stored : DevicePages) (infos : InfosStay)
    (same : (b : ℕ) → held b ≡ old.held b)
    (below : KeepsBelow (total_blocks old.segments) old.stored stored) where
  abbrev pub grown : SpaceContent
  grown = record { segments = grown_to n old.segments; held = held; stored = stored }

  pub kept-grown : AreTidy old.segments → KeepsUsed old.segments old grown
  kept-grown tidy b used = (same b, below b (used_inside old.segments b tidy used))

  pub whole-grown : AreTidy old.segments → AreWholeLogs old → AreWholeLogs grown
  whole-grown tidy logs i =
      ∥∥₁_map (logs i)
      (filled_same old grown i refl (ap (λ (x : SegmentInfo). x.used) (infos n i old.segments))
      (kept-grown tidy))

  pub held-grown : UsedStays → HoldsOnlyUsed old → HoldsOnlyUsed grown
  held-grown used only b unused = same b ∙ only b (λ is. unused ((used n b old.segments).0 is))

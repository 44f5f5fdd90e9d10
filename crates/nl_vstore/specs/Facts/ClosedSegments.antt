-- A segment that takes no more logs gets no payload.
use Rattle.std.proofs.Common.{◌≡◌, ◌≢◌, ℕ, ◌+◌, ◌*◌, ◌<◌, ◌≤◌, Bool, false, List, [], ◌∷◌, Some, inl, inr, arith, ◌&&◌, true, ap, refl}
use Rattle.std.specs.List.{AllByRecursion}
use Rattle.std.proofs.Math.Nat.{mul-le-mul_right}
use Rattle.std.proofs.lemmas.Bool.{cases_lt, le-ltb, lt-leb}
use Rattle.std.specs.Prelude.{nat_le, nat_lt}
use Rattle.nl_types.specs.declared.segment.Log.{Log}
use Rattle.nl_types.specs.Blocks.Segments.{Segments, AreTidy, IsClosed}
use Rattle.nl_types.specs.Blocks.Placing.{LogsFit, AreNextLogs, with_log, end_of, first_block, blocks_from, addresses}
use Rattle.nl_types.specs.Facts.NextLogs.{tidy_with_log, placed}
use Rattle.nl_types.specs.Facts.UsedParts.{all_in_row, all-append}
use Rattle.nl_types.specs.Facts.ClosedSegments.{next-elsewhere, still-closed}
use Rattle.nl_vstore.specs.Stores.{is_inside}

-- the blocks of a log elsewhere
outside-log : (s : Segments) (segment k : ℕ) (log : Log) → log.segment ≢ segment → end_of log ≤ s.blocks
    → k < log.count → is_inside s segment (Some (first_block s.blocks log + 1 + k)) ≡ false
outside-log s segment k log other fits low = elim (cases_lt log.segment segment) [
  | inl h ↦
      let m : (log.segment + 1) * s.blocks ≤ segment * s.blocks = mul-le-mul_right s.blocks (omega arith) in
      below (omega (arith, m, fits, low))
  | inr h ↦
      let m : (segment + 1) * s.blocks ≤ log.segment * s.blocks =
      mul-le-mul_right s.blocks (omega (arith, h, other)) in
      above (omega (arith, m))
]
  where
    and_false : (t : Bool) {u : Bool} → u ≡ false → (t && u) ≡ false
    and_false true e = e
    and_false false e = refl

    below : {b : ℕ} → b < segment * s.blocks → is_inside s segment (Some b) ≡ false
    below {b} h = ap (λ t. t && nat_lt b (segment * s.blocks + s.blocks)) (lt-leb (segment * s.blocks) b h)

    above : {b : ℕ} → segment * s.blocks + s.blocks ≤ b → is_inside s segment (Some b) ≡ false
    above {b} h = and_false (nat_le (segment * s.blocks) b) (le-ltb b (segment * s.blocks + s.blocks) h)

outside-logs : (logs : List Log) (s : Segments) (segment stamp : ℕ) → AreTidy s → IsClosed s segment
    → AreNextLogs s stamp logs
    → AllByRecursion (λ b. is_inside s segment (Some b) ≡ false) (addresses s.blocks logs)
outside-logs [] s segment stamp tidy closed next = tt
outside-logs (log ∷ logs) s segment stamp tidy closed next =
    let other = next-elsewhere s segment log tidy closed next.0 in
    all-append (λ b. is_inside s segment (Some b) ≡ false)
    (blocks_from (first_block s.blocks log + 1) log.count) (addresses s.blocks logs)
    (all_in_row (λ b. is_inside s segment (Some b) ≡ false) (first_block s.blocks log + 1) log.count
    (λ k h. outside-log s segment k log other next.0.is_log.inside h))
    (outside-logs logs (with_log s log stamp) segment stamp
    (tidy_with_log s log stamp tidy next.0.is_log.inside)
    (still-closed s segment stamp log closed other) next.1)

-- the payload of a list that fits goes elsewhere
pub fits-outside : (s : Segments) (reserve : Bool) (n segment : ℕ) (logs : List Log) → AreTidy s
    → IsClosed s segment → LogsFit s reserve n logs
    → AllByRecursion (λ b. is_inside s segment (Some b) ≡ false) (addresses s.blocks logs)
fits-outside s reserve n segment logs tidy closed fits =
    outside-logs logs s segment 0 tidy closed (placed s reserve n 0 logs tidy fits).next

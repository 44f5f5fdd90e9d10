-- The block numbers of logs that go on in a table of segments.
use Rattle.std.proofs.Common.{◌≡◌, ℕ, ◌+◌, ◌*◌, ◌≤◌, List, [], ◌∷◌, length, ap, arith}
use Rattle.std.proofs.Math.Nat.{mul-le-mul_right}
use Rattle.std.specs.List.{AllByRecursion}
use Rattle.nl_types.specs.declared.segment.Log.{Log}
use Rattle.nl_types.specs.Blocks.Segments.{Segments, total_blocks}
use Rattle.nl_types.specs.Blocks.Placing.{AreNextLogs, first_block, with_log}
use Rattle.nl_types.specs.Facts.NextLogs.{length-with_log}

-- the numbers of logs are numbers of the device
pub logs_inside : (logs : List Log) (s : Segments) (stamp limit : ℕ) → AreNextLogs s stamp logs
    → total_blocks s ≤ limit → AllByRecursion (λ log. first_block s.blocks log + 1 + log.count ≤ limit) logs
logs_inside [] s stamp limit next most = tt
logs_inside (log ∷ logs) s stamp limit next most =
    let m : (log.segment + 1) * s.blocks ≤ length s.each * s.blocks =
    mul-le-mul_right s.blocks (let w = next.0.segment in omega (arith, w)) in
    let inside = next.0.is_log.inside in
    let size : total_blocks (with_log s log stamp) ≡ total_blocks s =
    ap (λ (n : ℕ). n * s.blocks) (length-with_log s log stamp) in (
      omega (arith, m, inside, most),
      logs_inside logs (with_log s log stamp) stamp limit next.1 (omega (arith, size, most)),
    )

use Rattle.std.proofs.Common.{◌≡◌, ◌-◌, length}
use Rattle.std.specs.Prelude.{All}
use Rattle.nl_damage.specs.Private.SumReading.{segments_at}
use Rattle.nl_damage.specs.SumTexts.{IsDigest}
use Rattle.nl_damage.proofs.SumLoops.{with_front}
use Rattle.nl_damage.proofs.sums.reading.segments_of.Given as goal

abbrev pub invariant-loop : goal.invariant-loop
invariant-loop l = record {
  read : with_front l.digests (segments_at (l.count - l.counter) l.left) ≡ segments_at l.count l.bytes;
  each : All IsDigest l.digests;
  count : length l.digests ≡ l.counter;
}

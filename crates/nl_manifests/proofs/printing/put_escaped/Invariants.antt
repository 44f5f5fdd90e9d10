use Rattle.std.proofs.Common.{◌≡◌, ◌++◌, drop}
use Rattle.nl_manifests.specs.Manifests.{escaped}
use Rattle.nl_manifests.proofs.printing.put_escaped.Given as goal

abbrev pub invariant-loop-byte : goal.invariant-loop-byte
invariant-loop-byte l = l.out.items ++ escaped (drop l.byte-index l.bytes) ≡ l.fn.out.items ++ escaped l.bytes

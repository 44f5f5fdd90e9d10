use Rattle.std.proofs.Common.{◌≡◌, ◌-◌, ◌*◌, ◌++◌, take}
use Rattle.std.proofs.Math.ListN.{replicate}
use Rattle.std.specs.List.{All}
use Rattle.nl_layout.specs.Tag.{TagHasSpelling}
use Rattle.nl_layout.specs.Summary.{tags_bytes}
use Rattle.nl_layout.proofs.summary.write_tags.Given as goal

abbrev pub invariant-loop-k : goal.invariant-loop-k
invariant-loop-k l = record {
  written : l.out ≡ tags_bytes (take l.k l.tags) ++ replicate (32 * (30 - l.k)) 0;
  fit : All TagHasSpelling (take l.k l.tags);
}

use Rattle.std.proofs.Common.{◌≡◌, take}
use Rattle.nl_segwriter.proofs.staging.payload_of.Given as goal

abbrev pub invariant-loop-tag : goal.invariant-loop-tag
invariant-loop-tag l = l.payload.items ≡ take l.tag-index l.items

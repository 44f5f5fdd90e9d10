use Rattle.std.proofs.Common.{◌≡◌, map, take}
use Rattle.nl_vstore.specs.Content.{payload_tag}
use Rattle.nl_segwriter.proofs.staging.tags_of.Given as goal

abbrev pub invariant-loop-tag : goal.invariant-loop-tag
invariant-loop-tag l = l.tags.items ≡ map payload_tag (take l.tag-index l.items)

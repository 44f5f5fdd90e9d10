use Rattle.std.proofs.Common.{ℕ, ◌<◌}
use Rattle.nl_vstore.specs.Images.{IsRestAt, pages_of_bytes}
use Rattle.nl_vstore.proofs.images.is_rest_zero.Given as goal

abbrev pub invariant-loop-number : goal.invariant-loop-number
invariant-loop-number l = (b : ℕ) → b < l.number → IsRestAt l.table (pages_of_bytes l.blocks) b

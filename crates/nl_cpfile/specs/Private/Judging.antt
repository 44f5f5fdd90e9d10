-- What becomes of the checkpoints of two ranges, one behind the other.
use Rattle.std.specs.Prelude.{◌++◌}
use Rattle.nl_types.specs.declared.row.Range.{Range}

abbrev pub joined : Range → Range → Range
joined a b = record { removed = a.removed ++ b.removed; stayed = a.stayed ++ b.stayed }

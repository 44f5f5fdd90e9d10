-- The period of each virtual number.
use Rattle.std.specs.Option.{option_map}
use Rattle.nl_types.specs.Blocks.PartialMaps.{Partial}
use Rattle.nl_types.specs.Blocks.Entries.{Content, period_of}
use Rattle.nl_types.specs.declared.period.Period.{Period}

-- the period of each number in use
abbrev pub Periods : Type 0
Periods = Partial Period

abbrev pub periods_of : Content → Periods
periods_of content v = option_map period_of (content v)

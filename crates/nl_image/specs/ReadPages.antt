-- The pages and periods of numbers, where their table and the pages of blocks were read.
use Rattle.std.specs.Prelude.{List, ℕ, Option}
use Rattle.std.specs.Option.{option_and_then, option_map}
use Rattle.nl_types.specs.Blocks.Roots.{Pages}
use Rattle.nl_vstore.specs.Periods.{Periods}
use Rattle.nl_segwriter.specs.Images.{page_in}
use Rattle.nl_dat.specs.declared.entries.DatEntry.{DatEntry}
use Rattle.nl_dat.specs.Table.{entry_in, period_of_entry}

abbrev pub pages_under : List (Option DatEntry) → List (Option (List ℕ)) → Pages
pages_under table pages v = option_and_then (λ (e : DatEntry). page_in pages e.block) (entry_in table v)

abbrev pub periods_under : List (Option DatEntry) → Periods
periods_under table v = option_map period_of_entry (entry_in table v)
